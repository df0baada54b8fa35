-- What the step has done to the numbers that were loaded, it has done to the table.
use Rattle.host.proofs.Tables.{whole-wrote}
use Rattle.host.proofs.lay.Goals as goal

pub returns : goal.returns
returns c =
    whole-wrote _ _ _ _ _ _ _ c.eight.ensures _ _ _ _ _
    (record {
      loaded = c.load-numbers.ensures;
      lent = c.numbers_lent-n.ensures;
      size = c.lay-answer.auto.table;
      stored = c.store.ensures;
    })
    _ _ c.lay-answer.ensures
