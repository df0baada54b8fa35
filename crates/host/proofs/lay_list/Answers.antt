-- What the list has done to the numbers that were loaded, it has done to the table.
use Rattle.host.proofs.Lists.{whole-listed}
use Rattle.host.proofs.lay_list.Goals as goal

pub returns : goal.returns
returns c =
    whole-listed _ _ _ _ _ _ _ _ _ _ _ c.eight.ensures _ _ _ _ _
    (record {
      loaded = c.load-numbers.ensures;
      lent = c.numbers_lent-n.ensures;
      size = c.lay_list-answer.auto.table;
      stored = c.store.ensures;
    })
    c.lay_list-answer.ensures
