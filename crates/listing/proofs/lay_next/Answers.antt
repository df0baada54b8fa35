-- The net is laid on what those before it have left, and its answer told.
use native.Mathlib.Omega.{arith}
use mathlib.Core.Path.{refl}
use Rattle.listing.proofs.Listing.{said_fits, used-fits, goes_on}
use Rattle.listing.proofs.lay_next.Goals as goal

pub put_answer-requires-clause-fits : goal.put_answer-requires-clause-fits
put_answer-requires-clause-fits c =
    said_fits _ _ _ _ _ _ _ _ _ c.requires _ c.wish_at-net.ensures _ _ _ _ _ c.lay_in-answer.ensures _
    c.in_numbers-said.ensures

pub overflow_mul-result : goal.overflow_mul-result
overflow_mul-result c =
    let fits =
    said_fits _ _ _ _ _ _ _ _ _ c.requires _ c.wish_at-net.ensures _ _ _ _ _ c.lay_in-answer.ensures _
    c.in_numbers-said.ensures in
    omega (arith, fits.corners)

pub overflow_add-result : goal.overflow_add-result
overflow_add-result c =
    let fits =
    used-fits _ _ _ _ _ _ _ _ _ c.requires _ c.wish_at-net.ensures _ _ _ _ _ c.lay_in-answer.ensures _
    c.in_numbers-said.ensures in
    omega (arith, fits)

pub returns-clause-goes_on : goal.returns-clause-goes_on
returns-clause-goes_on c =
    goes_on _ _ _ _ _ _ _ _ _ c.requires _ c.wish_at-net.ensures _ _ _ _ _ c.lay_in-answer.ensures _
    c.in_numbers-said.ensures _ _ refl c.put_answer.ensures _ refl (grind arith)

pub returns-clause-used_in_bounds : goal.returns-clause-used_in_bounds
returns-clause-used_in_bounds c =
    used-fits _ _ _ _ _ _ _ _ _ c.requires _ c.wish_at-net.ensures _ _ _ _ _ c.lay_in-answer.ensures _
    c.in_numbers-said.ensures
