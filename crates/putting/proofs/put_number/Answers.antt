-- `putting::put_number` meets its contract: `io::decimal` gives the fewest digits, at most 20.
use native.Mathlib.Omega.{arith}
use Rattle.putting.proofs.Decimals.{fewest-short, number_put}
use Rattle.putting.proofs.put_number.Goals as goal

pub put_bytes-requires : goal.put_bytes-requires
put_bytes-requires c = let short = fewest-short _ _ c.ranges.n.fits c.decimal-k.ensures.len in
    omega (arith, c.decimal-k.ensures.in_bounds)

pub returns-clause-put : goal.returns-clause-put
returns-clause-put c = number_put _ _ c.decimal-k.ensures.len c.decimal-k.ensures.digits c.put_bytes.ensures

pub returns-clause-upper_bound : goal.returns-clause-upper_bound
returns-clause-upper_bound c = let short = fewest-short _ _ c.ranges.n.fits c.decimal-k.ensures.len in
    omega (arith, c.decimal-k.ensures.in_bounds, c.put_bytes.ensures.next)
