-- `slips::slip_in` meets its contract: 12 by the size of the page, and else the page in front.
use native.Mathlib.Omega.{arith}
use mathlib.Core.Path.{sym}
use Rattle.putting.proofs.Putting.{front_long}
use Rattle.slips.proofs.Answering.{tracks, no_room, slipped}
use Rattle.slips.proofs.slip_in.Goals as goal

pub put_page-size-requires : goal.put_page-size-requires
put_page-size-requires c = (tracks _ _ _ c.requires, omega arith)

pub returns-then-out-size : goal.returns-then-out-size
returns-then-out-size c =
    rw c.into.ensures (no_room _ _ _ c.requires _ c.put_page-size.ensures (omega (arith, c.if-out-size.true)))

pub slice_bounds-put_bytes-end : goal.slice_bounds-put_bytes-end
slice_bounds-put_bytes-end c = sym (front_long c.put_page-size.ensures)

pub put_bytes-requires : goal.put_bytes-requires
put_bytes-requires c = omega (arith, front_long c.put_page-size.ensures, c.if-out-size.false)

pub returns : goal.returns
returns c = slipped _ _ _ c.requires _ c.put_page-size.ensures
    (omega (arith, c.if-out-size.false)) c.put_bytes.ensures
