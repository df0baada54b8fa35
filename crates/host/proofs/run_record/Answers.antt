-- What the record has done to the numbers that were loaded, it has done to the table.
use Rattle.host.proofs.Running.{whole-ran}
use Rattle.host.proofs.run_record.Goals as goal

pub returns : goal.returns
returns c =
    whole-ran _ _ _ _ _ _ _ _ _ _ c.eight.ensures _ _ _ _ _
    (record {
      loaded = c.load-numbers.ensures;
      lent = c.numbers_lent-n.ensures;
      size = c.run_record-reply.auto.table;
      stored = c.store.ensures;
    })
    c.run_record-reply.ensures
