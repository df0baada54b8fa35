-- A step that only reads the foil: what it gives where it is refused, and where it writes an output list.
use Prim.Native.Nat.{ℕ}
use mathlib.Core.Path.{◌≡◌, refl, sym, ap, ◌∙◌}
use mathlib.Core.Bool.{Bool, true, false, not}
use mathlib.Core.List.{List}
use mathlib.Core.Option.{none, some}
use lib.ListN.{length}
use Rattle.foil_spec.specs.Ledger.{Room, short, Step, wrote, next, says, first, refusals, settle, refusal_of}
use Rattle.foil_spec.specs.Lent.{Lent, held, sound, step_on, over_front, output_after}
use Rattle.ledger_laws.proofs.Refusals.{own-refused}
use Rattle.ledger_laws.proofs.Sound.{of-sound, sound-store-is}
use Rattle.std.specs.Prelude.{Ok, Err}
use Rattle.foil.specs.Contract.{answer_of, Read}
use Rattle.foil.specs.declared.Accepted.TheVariants.{Wrote}

module _ (c : Step) (m : Lent) (o : List ℕ) (r : Room) where
  pub read-refused : (n : ℕ) → refusal_of r (not (sound m)) c (held m) ≡ some n → Read c r m o (Err n) o
  unfolding step_on settle answer_of output_after
  read-refused n e = record { answer = rw e refl; state = rw e refl; output = rw e refl }

  -- on a state that keeps the rules, in a room that is long enough
  module _ (g : sound m ≡ true) (long : short r ≡ false) where
    pub own : refusal_of r (not (sound m)) c (held m) ≡ first (refusals c r (held m))
    own =
        ap (λ (b : Bool). refusal_of r (not b) c (held m)) g ∙ own-refused r c (held m) false long refl

    pub own-unwritten : (n : ℕ) → first (refusals c r (held m)) ≡ some n → Read c r m o (Err n) o
    own-unwritten n e = read-refused n (own ∙ e)

    pub written : (bs o' : List ℕ) → first (refusals c r (held m)) ≡ none → says c (held m) ≡ wrote bs
        → next c (held m) ≡ held m → o' ≡ over_front bs o → Read c r m o (Ok (Wrote (length bs))) o'
    unfolding step_on settle answer_of output_after
    written bs o' e s n q =
        record {
          answer = rw (own ∙ e, s) refl;
          state = rw (own ∙ e, n) (sym (sound-store-is m (of-sound m g)));
          output = rw (own ∙ e, s) q;
        }
