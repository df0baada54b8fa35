-- The least over the stops so far is carried along.
use native.Mathlib.Omega.{arith}
use Rattle.runs.proofs.Inks.{least_more}
use Rattle.runs.proofs.ink_at.Goals as goal

pub loop-k-preserved : goal.loop-k-preserved
loop-k-preserved c =
    least_more (omega arith) (omega arith) c.loop-k.invariant c.steps-in-loop-k.ensures.0 c.carry-best.ensures
