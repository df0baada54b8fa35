-- `slips::put::put_column` meets its contract: two blanks, then the number.
use native.Mathlib.Omega.{arith}
use Rattle.foil_spec.specs.Slip.{column}
use Rattle.putting.proofs.Putting.{put_then}
use Rattle.slips.proofs.put.put_column.Goals as goal

pub returns : goal.returns
unfolding column
returns c = record { put = put_then c.put_bytes-a.ensures c.put_right.ensures.put; upper_bound = omega arith }
