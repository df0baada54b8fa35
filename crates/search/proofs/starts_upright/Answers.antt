-- A case of the choice for each return.
use mathlib.Core.Logic.{inl, inr}
use Rattle.search.proofs.Choice.{choose_only, choose_few, choose_less, choose_here, choose_tie}
use Rattle.search.proofs.starts_upright.Goals as goal
use Rattle.search.proofs.starts_upright.Goals.{then-a-eq0-via-then-a-eq0, then-a-eq0-via-else-a-eq0+then-b-eq0}

pub returns-then-a-eq0 : goal.returns-then-a-eq0
returns-then-a-eq0 c = choose_only c.requires.choosing.some (elim c.then-a-eq0.branch [
  | then-a-eq0-via-then-a-eq0 w ↦ inl w.if-a-eq0.true
  | then-a-eq0-via-else-a-eq0+then-b-eq0 w ↦ inr w.if-b-eq0.true
])

pub returns-then-a-b : goal.returns-then-a-b
returns-then-a-b c = choose_few c.if-a-eq0.false c.if-b-eq0.false c.if-a-b.true

pub returns-then-s-t : goal.returns-then-s-t
returns-then-s-t c = choose_less c.if-a-eq0.false c.if-a-b.false c.if-s-t.true

pub returns-then-a-ne1 : goal.returns-then-a-ne1
returns-then-a-ne1 c = choose_tie c.if-a-eq0.false c.if-a-b.false c.if-s-t.false c.if-a-ne1.true c.next_stop.ensures

pub returns-else-a-ne1 : goal.returns-else-a-ne1
returns-else-a-ne1 c = choose_here c.if-a-ne1.false c.if-a-b.false
