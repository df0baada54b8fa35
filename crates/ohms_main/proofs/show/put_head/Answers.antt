-- The word and a blank, then the net.
use native.Mathlib.Omega.{arith}
use Rattle.lines.specs.Lines.{item}
use Rattle.putting.proofs.Putting.{put_then}
use Rattle.ohms_main.proofs.show.put_head.Goals as goal

pub returns : goal.returns
unfolding item
returns c = record { put = put_then c.put_bytes-a.ensures (rw c.from.ensures at c.put_number.ensures.put); upper_bound = omega (arith, c.put_bytes-a.ensures.next, c.put_number.ensures.upper_bound) }
