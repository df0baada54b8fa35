-- Box after box, from the last one down, is dropped as long as it has no point of the target box.
use native.Mathlib.Omega.{arith}
use Rattle.sowing.proofs.Near.{enough-less}
use Rattle.sowing.proofs.boxes_near.Goals as goal

pub loop-k-preserved : goal.loop-k-preserved
loop-k-preserved c = enough-less _ _ _ _ _ (omega arith) _ c.entry_at.ensures _ c.overlap.ensures c.if-overlap.false
    c.loop-k.invariant
