-- Both tests of a stop, one after the other.
use mathlib.Core.Path.{refl}
use borrow.Author.Tests.{eq-eqb, ne_eqb}
use Rattle.runs.specs.Line.{is_stop}
use Rattle.runs.proofs.is_stop.Goals as goal

pub returns-then-other-k : goal.returns-then-other-k
unfolding is_stop
returns-then-other-k c = rw (c.steps.ensures.0, eq-eqb _ _ c.if-other-k.true) refl

pub returns-else-other-k : goal.returns-else-other-k
unfolding is_stop
returns-else-other-k c = rw (ne_eqb _ _ c.if-other-k.false) refl
