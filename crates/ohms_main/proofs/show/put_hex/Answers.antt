-- `io::hex` gives 16 digits of a number of 64 bits.
use native.Mathlib.Omega.{arith}
use Rattle.ohms_main.proofs.Digits.{sixteen, hex-put}
use Rattle.ohms_main.proofs.show.put_hex.Goals as goal

pub put_bytes-requires : goal.put_bytes-requires
put_bytes-requires c = let all = sixteen _ _ c.ranges.n.fits c.hex-k.ensures.len in
    omega (arith, c.hex-k.ensures.in_bounds.1)

pub returns : goal.returns
returns c = let all = sixteen _ _ c.ranges.n.fits c.hex-k.ensures.len in record { put = hex-put _ _ all c.hex-k.ensures.digits c.put_bytes.ensures; upper_bound = omega (arith, c.hex-k.ensures.in_bounds.1, c.put_bytes.ensures.next) }
