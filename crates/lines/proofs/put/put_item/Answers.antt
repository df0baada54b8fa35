-- `lines::put::put_item` meets its contract: a blank, then the number.
use native.Mathlib.Omega.{arith}
use Rattle.lines.specs.Lines.{item}
use Rattle.list_laws.proofs.Digits.{decimal-short}
use Rattle.putting.proofs.Putting.{put_then}
use Rattle.lines.proofs.put.put_item.Goals as goal

pub returns : goal.returns
unfolding item
returns c =
    let put = rw c.from.ensures at (put_then c.put_bytes-a.ensures c.put_number.ensures.put) in
    record { put = put; upper_bound = omega (arith, put.next, decimal-short c.args.n c.ranges.n.fits) }
