-- Ohms that are answered are no NaN, so they have a bit pattern.
use Prim.Native.Nat.{ℕ}
use native.Mathlib.Omega.{arith}
use mathlib.Core.Path.{◌≡◌, ap, subst}
use mathlib.Core.Bool.{true, not, false≢true}
use mathlib.Core.Option.{Option, none, some}
use lib.Dec.{T}
use lib.Ieee.{Float, nan, inf, fin, is_nan}
use lib.Ieee.Scale.{finite}
use Rattle.foil_spec.specs.Ohms.{ohms_refusals, ohms_of}
use Rattle.foil_spec.specs.Ledger.{Room, first, after_lent, After}
use Rattle.foil_spec.specs.Lent.{held, sound}
use Rattle.foil_spec.specs.Calls.{ohms, Reply, answered, ran, at_end, measured, laid_all, reply}
use Rattle.foil_spec.specs.Sheet.{SheetLent, view, sheet_step, unless, sheet_call}
use Rattle.foil_spec.specs.declared.Ink.{Ink}
use Rattle.ohms.specs.declared.Resistance.TheVariants.{Ohms}
use Rattle.ohms.specs.Contract.{resistance_of}
use Rattle.ohms.proofs.Accepted.{of-reply}
use Rattle.ohms.proofs.Finite.{finite-unrefused}

of-resistance : (a : Reply) (x : Float) → resistance_of a ≡ Ohms x → a ≡ measured x
unfolding resistance_of
of-resistance (answered a) x e = absurd (let z : ◌≡◌ {A = ℕ} 0 1 = cc in omega arith)
of-resistance (measured y) x e = let same : y ≡ x = cc in ap measured same
of-resistance (ran given n) x e = absurd (let z : ◌≡◌ {A = ℕ} 0 1 = cc in omega arith)
of-resistance at_end x e = absurd (let z : ◌≡◌ {A = ℕ} 0 1 = cc in omega arith)
of-resistance (laid_all given) x e = absurd (let z : ◌≡◌ {A = ℕ} 0 1 = cc in omega arith)

finite_number : (x : Float) → finite x ≡ true → T (not (is_nan x))
unfolding is_nan
finite_number nan f = false≢true f
finite_number (inf s) f = tt
finite_number (fin s m e) f = tt

-- ohms are given past the refusals that the call begins with
past-opening : (o : Option ℕ) (a : After Reply SheetLent) (m : SheetLent) (x : Float)
    → (unless o a m).answer ≡ measured x → a.answer ≡ measured x
unfolding unless
past-opening (some n) a m x e = absurd (let z : ◌≡◌ {A = ℕ} 0 1 = cc in omega arith)
past-opening none a m x e = e

pub ohms-number : (r : Room) (net : ℕ) (i : Ink) (m : SheetLent) (x : Float)
    → resistance_of (sheet_call r 0 (ohms net i) m).answer ≡ Ohms x → T (not (is_nan x))
unfolding sheet_call reply
ohms-number r net i m x e =
    let given =
    of-reply (first (after_lent r (not (sound (view 0 m))) (ohms_refusals net i (held (view 0 m)))))
    (ohms_of net i (held (view 0 m))) x
    (past-opening _ (reply (sheet_step 0) r (not (sound (view 0 m))) (ohms net i) (held (view 0 m)) m) m x
    (of-resistance _ x e)) in
    finite_number x
    (subst (λ (y : Float). finite y ≡ true) given.1 (finite-unrefused r net i (view 0 m) given.0))
