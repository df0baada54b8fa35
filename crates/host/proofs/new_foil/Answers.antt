-- What the step has done to the numbers that were loaded, it has done to the table.
use Rattle.host.proofs.Tables.{whole-done}
use Rattle.host.proofs.new_foil.Goals as goal

pub returns : goal.returns
returns c =
    whole-done _ _ _ _ _ _ _ c.eight.ensures _ _ _ _ _
    (record {
      loaded = c.load-numbers.ensures;
      lent = c.numbers_lent-n.ensures;
      size = c.new_foil-answer.auto.table;
      stored = c.store.ensures;
    })
    c.new_foil-answer.ensures
