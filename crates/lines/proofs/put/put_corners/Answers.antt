-- `lines::put::put_corners` meets its contract: the loop has put the first k corners.
use native.Mathlib.Omega.{arith}
use mathlib.Core.Path.{◌≡◌}
use Rattle.foil_spec.specs.Corners.{corner_at, corners_in}
use Rattle.lines.specs.Lines.{corner_item}
use Rattle.putting.proofs.Putting.{put-length, put-none, row_more}
use Rattle.lines.proofs.put.put_corners.Goals as goal

pub loop-k-init : goal.loop-k-init
unfolding corners_in
loop-k-init c = (put-none _ _ (omega arith), omega arith)

pub put_corner-a-requires : goal.put_corner-a-requires
put_corner-a-requires c = omega (arith, put-length c.loop-k.invariant.0)

pub loop-k-preserved : goal.loop-k-preserved
unfolding corners_in
loop-k-preserved c = (
  row_more corner_item (corner_at _) _ c.loop-k.invariant.0
      (rw c.corner_at.ensures at c.put_corner-a.ensures.put),
  omega arith,
)

pub shape_of-out : goal.shape_of-out
shape_of-out c = put-length c.loop-k.invariant.0

pub returns : goal.returns
returns c = let all : c.loop-k.k ≡ c.args.count = omega arith in record { put = rw (← all) c.loop-k.invariant.0; upper_bound = omega arith }
