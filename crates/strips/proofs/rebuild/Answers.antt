-- `strips::rebuild` meets its contract.
use native.Mathlib.Omega.{arith}
use Rattle.strips.proofs.Listing.{rebuilt}
use Rattle.strips.proofs.rebuild.Goals as goal

pub returns : goal.returns
returns c =
    rebuilt _ _ _ _ _ (omega (arith, c.list_strips.auto.out, c.requires.strips_size_in_bounds)) c.in_ok-count.ensures
    (c.fill.ensures.after (λ y q. q))
