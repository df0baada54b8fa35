-- All crossings from k on to the crossing at are joined.
use native.Mathlib.Omega.{arith}
use Rattle.runs.proofs.Line.{linked-refl, linked-down}
use Rattle.runs.proofs.back_from.Goals as goal

pub loop-k-init : goal.loop-k-init
loop-k-init c = linked-refl _ _ _

pub loop-k-preserved : goal.loop-k-preserved
loop-k-preserved c = linked-down _ _ _ _ (omega arith) (omega arith) c.loop-k.invariant c.if-link-line-ne1.false
