-- What the limits leave each foil.
use Prim.Native.Nat.{ℕ, min}
use native.Mathlib.Omega.{arith}
use mathlib.Core.Path.{◌≡◌, sym, ap, ◌∙◌}
use mathlib.Core.Bool.{not}
use mathlib.Core.List.{List}
use lib.Dec.{leb, ltb}
use lib.ListN.{length}
use borrow.Author.Tests.{leb-true, leb-false, le-ltb, lt-ltb}
use Rattle.foil_spec.specs.Limits.{max_entries}
use Rattle.foil_spec.specs.Ledger.{too_long}
use Rattle.foil_spec.specs.Sheet.{limit_of}
use Rattle.list_laws.proofs.Tests.{both}
use Rattle.sheet_laws.specs.Shares.{FitsByLimit, SureOf32, UsesGivenUp, TenByFit}
use Rattle.sheet_laws.proofs.Counts.{limit-sure, fits, fits-just, given-up}

pub fits-by-limit : FitsByLimit
fits-by-limit ns k n o here = fits-just ns o.limits k (omega (arith, o.eight)) n

pub sure-of-32 : SureOf32
sure-of-32 ns k n o here few =
    fits ns o.limits k (omega (arith, o.eight)) n
    (omega (arith, limit-sure ns o.limits k (omega (arith, o.eight))))

pub uses-given-up : UsesGivenUp
uses-given-up ns j k n o hj hk ne fewer =
    given-up ns o.limits j k (omega (arith, o.eight)) (omega (arith, o.eight)) ne n fewer

-- a limit is no more than 128
few-limit : (ns : List ℕ) (k : ℕ) → min max_entries (limit_of ns k) ≡ limit_of ns k
unfolding limit_of
few-limit ns k = omega arith

over-limit : (limit n : ℕ) → ltb limit n ≡ not (leb n limit)
over-limit limit n =
    both (leb n limit)
    (λ t. le-ltb limit n (leb-true n limit t) ∙ ap not (sym t))
    (λ t. lt-ltb limit n (leb-false n limit t) ∙ ap not (sym t))

pub ten-by-fit : TenByFit
unfolding too_long
ten-by-fit r l ns k o here e =
    let n : ℕ = length l.entries in
    ap (λ (i : ℕ). ltb i n) (ap (min max_entries) e ∙ few-limit ns k)
    ∙ over-limit (limit_of ns k) n ∙ ap not (sym (fits-by-limit ns k n o here))
