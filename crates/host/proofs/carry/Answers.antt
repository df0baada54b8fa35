-- What the carry has done to the numbers that were loaded, it has done to the table.
use Rattle.host.proofs.Carried.{whole-carried}
use Rattle.host.proofs.carry.Goals as goal

pub returns : goal.returns
returns c =
    whole-carried _ _ _ _ c.load-old_numbers.ensures c.numbers_lent-m.ensures _ _ _ _ _ _ _ _ _ _ _ _ _
    (record {
      loaded = c.load-numbers.ensures;
      lent = c.numbers_lent-n.ensures;
      size = c.carry-answer.auto.table;
      stored = c.store.ensures;
    })
    c.carry-answer.ensures
