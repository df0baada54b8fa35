-- A net's resistance, return by return.
use Prim.Native.Nat.{ℕ, ◌-◌, ◌<◌}
use native.Mathlib.Omega.{arith}
use mathlib.Core.Path.{◌≡◌, refl, sym, ap, ap₂, ◌∙◌}
use mathlib.Core.Bool.{Bool, true, false}
use mathlib.Core.List.{List, map}
use mathlib.Core.Option.{none, some}
use lib.Ieee.{Float}
use Rattle.foil_spec.specs.Lists.{range}
use Rattle.foil_spec.specs.Foil.{Entry, Layout, net_ok}
use Rattle.foil_spec.specs.Ledger.{number_of, first}
use Rattle.foil_spec.specs.Lent.{entry_at}
use Rattle.foil_spec.specs.Nets.{in_use, net_length, net_bends}
use Rattle.foil_spec.specs.Ohms.{ink_ok, formula, ohms_refusals, ohms_of}
use Rattle.foil_spec.specs.declared.Ink.{Ink}
use Rattle.foil_spec.specs.Calls.{ohms_reply}
use Rattle.nets.specs.Measured.{legs_to, Measured}
use Rattle.nets.specs.declared.Track.{Track}
use Rattle.nets.proofs.Measuring.{used-leg}
use Rattle.ohms.specs.Contract.{resistance_of, NetAnswered}
use Rattle.ohms.specs.declared.Resistance.TheVariants.{Refused, Ohms}

-- ---- the net's refusals, and its ohms

module _ (net : ℕ) (i : Ink) (t : List ℕ) (n : ℕ) where
  abbrev entries : List Entry
  entries = map (entry_at t) (range 0 n)

  refused-by : (k : ℕ) → ((l : Layout) → l.entries ≡ entries → first (ohms_refusals net i l) ≡ some k)
      → NetAnswered net i t n (Refused k)
  unfolding ohms_reply resistance_of number_of
  refused-by k e = record { answer = λ l is. rw (e l is) refl }

  module _ (o : Bool) (o_is : o ≡ net_ok net) where
    pub no-net : o ≡ false → NetAnswered net i t n (Refused 4)
    unfolding ohms_refusals first
    no-net h = refused-by 4 (λ l is. rw (sym o_is ∙ h) refl)

    module _ (allowed : o ≡ true) (u : Bool) (u-is : u ≡ in_use net entries) where
      pub not_there : u ≡ false → NetAnswered net i t n (Refused 6)
      unfolding ohms_refusals first
      not_there h = refused-by 6 (λ l is. rw (is, sym o_is ∙ allowed, sym u-is ∙ h) refl)

      module _ (used : u ≡ true) (g : Bool) (g-is : g ≡ ink_ok i) where
        pub no-ink : g ≡ false → NetAnswered net i t n (Refused 22)
        unfolding ohms_refusals first
        no-ink h =
            refused-by 22 (λ l is.
            rw (is, sym o_is ∙ allowed, sym u-is ∙ used, sym g-is ∙ h) refl)

        none_left : g ≡ true → (l : Layout) → l.entries ≡ entries → first (ohms_refusals net i l) ≡ none
        unfolding ohms_refusals first
        none_left h l is =
            rw (is, sym o_is ∙ allowed, sym u-is ∙ used, sym g-is ∙ h) refl

        pub ohms-are : g ≡ true → (r : Track) → Measured t n net r → (x : Float)
            → x ≡ formula r.steps (r.legs - 1) i → NetAnswered net i t n (Ohms x)
        unfolding ohms_reply resistance_of legs_to ohms_of net_length net_bends
        ohms-are h r m x e =
            record {
              answer = λ l is.
                  rw (none_left h l is, is)
                  (ap Ohms (e ∙ ap₂ (λ (L B : ℕ). formula L (B - 1) i) m.steps m.legs));
            }

-- a net that is in use has a leg
pub has-leg : (net : ℕ) (t : List ℕ) (n : ℕ) (u : Bool) → u ≡ in_use net (map (entry_at t) (range 0 n)) → u ≡ true
    → (r : Track) → Measured t n net r → 0 < r.legs
unfolding legs_to
has-leg net t n u u-is used r m =
    omega (arith, m.legs, used-leg net (map (entry_at t) (range 0 n)) (sym u-is ∙ used))
