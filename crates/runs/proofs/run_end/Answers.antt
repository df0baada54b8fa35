-- All crossings from the crossing at up to hi are joined.
use native.Mathlib.Omega.{arith}
use Rattle.runs.proofs.Line.{linked-first, linked_on}
use Rattle.runs.proofs.run_end.Goals as goal

pub loop-hi-init : goal.loop-hi-init
loop-hi-init c = linked-first _ _ _

pub loop-hi-preserved : goal.loop-hi-preserved
loop-hi-preserved c = linked_on _ _ _ _ (omega arith) c.loop-hi.invariant c.if-link-line-ne1.false
