-- `lines::put::put_corner` meets its contract: a blank and x, the comma, then y.
use native.Mathlib.Omega.{arith}
use Rattle.lines.specs.Lines.{corner_item}
use Rattle.list_laws.proofs.Digits.{decimal-short}
use Rattle.putting.proofs.Putting.{put_then}
use Rattle.lines.proofs.put.put_corner.Goals as goal

pub returns : goal.returns
unfolding corner_item
returns c =
    let put = rw c.from.ensures at (put_then (put_then c.put_item-a.ensures.put c.put_bytes-b.ensures)
    c.put_number.ensures.put) in
    record { put = put; upper_bound = omega (arith, decimal-short c.from.result (omega (arith, c.from.ensures))) }
