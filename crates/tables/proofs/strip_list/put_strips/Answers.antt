-- `tables::strip_list::put_strips` meets its contract: a small foil has no more strips than there are places.
use Rattle.tables.proofs.Putting.{few-strips, put-here}
use Rattle.tables.proofs.strip_list.put_strips.Goals as goal

pub returns-then-are_few : goal.returns-then-are_few
returns-then-are_few c =
    let small = rw c.if-are_few.true at c.are_few.ensures in
    put-here _ _ _ _ (few-strips _ _ _ small.0 small.1) c.rebuild.ensures
