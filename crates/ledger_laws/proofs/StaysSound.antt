-- Steps on a foil that keeps the rules leave one that does, and so does a new foil, whatever was lent, unless it ends
-- the job.
use Prim.Native.Nat.{ℕ}
use mathlib.Core.Path.{◌≡◌, refl, sym, ap, ◌∙◌}
use mathlib.Core.Bool.{true, false, not}
use mathlib.Core.List.{List, ◌∷◌}
use mathlib.Core.Option.{Option, none, some}
use Rattle.foil_spec.specs.Lists.{any}
use Rattle.foil_spec.specs.Ledger.{Room, short, Clearance, Step, new_foil, Answer}
use Rattle.foil_spec.specs.Ledger.{After, refusal_of, settle, ledger_step}
use Rattle.foil_spec.specs.Foil.{Layout}
use Rattle.foil_spec.specs.Lent.{Lent, store, held, layout_ok, sound, step_on}
use Rattle.foil_spec.specs.Calls.{ends_job, and_then, act_all}
use Rattle.list_laws.proofs.Tests.{both, clash}
use Rattle.ledger_laws.proofs.Stored.{sound-store}
use Rattle.ledger_laws.proofs.Sound.{of-sound, sound-store-is}
use Rattle.ledger_laws.proofs.Replies.{shown_by, steps-shown}
use Rattle.ledger_laws.proofs.Steps.{shown, step-shown}
use Rattle.ledger_laws.proofs.Lending.{new-blind, blind-refusal, blind-is, blind-state, new-ends}

module _ (r : Room) where
  pub steps-sound : (ss : List Step) (m : Lent) → sound m ≡ true → sound (act_all (step_on r) ss m).state ≡ true
  unfolding shown_by
  steps-sound ss m g =
      let k = of-sound m g in
      let h = steps-shown (λ (l : Layout). store l m) (λ (l : Layout). layout_ok l ≡ true) (ledger_step r) (step_on r)
      (λ s l. step-shown r s l m) ss (held m) k.kept in
      ap (λ (x : Lent). sound (act_all (step_on r) ss x).state) (sym (sound-store-is m k))
      ∙ ap (λ (a : After (List Answer) Lent). sound a.state) h.is
      ∙ sound-store (act_all (ledger_step r) ss (held m)).state m h.kept

  module _ (W H : ℕ) (d : Clearance) (m : Lent) (long : short r ≡ false) where
    abbrev new : Step
    new = new_foil W H d

    accepted-new : refusal_of r false new (held m) ≡ none → sound (step_on r new m).state ≡ true
    unfolding shown
    accepted-new e =
        ap (λ (a : After Answer Lent). sound a.state) (blind-is new (new-blind W H d) r (held m) e m)
        ∙ sound-store (ledger_step r new (held m)).state m (blind-state new (new-blind W H d) r (held m) e)

    refused-new : (n : ℕ) → refusal_of r false new (held m) ≡ some n → ends_job (step_on r new m).answer ≡ true
    unfolding step_on settle
    refused-new n e =
        rw (blind-refusal new (new-blind W H d) r (held m) (not (sound m)) (held m), e)
        (new-ends W H d r (held m) n e long)

    -- a new foil that does not end the job
    pub begun-sound : ends_job (step_on r new m).answer ≡ false → sound (step_on r new m).state ≡ true
    begun-sound h = go (refusal_of r false new (held m)) refl
      where
        go : (o : Option ℕ) → refusal_of r false new (held m) ≡ o → sound (step_on r new m).state ≡ true
        go none e = accepted-new e
        go (some n) e = clash (refused-new n e) h

  -- steps of which the first is a new foil and none ends the job
  pub first-sound : (W H : ℕ) (d : Clearance) (ss : List Step) (m : Lent) → short r ≡ false
      → any ends_job (act_all (step_on r) (new_foil W H d ∷ ss) m).answer ≡ false
      → sound (act_all (step_on r) (new_foil W H d ∷ ss) m).state ≡ true
  unfolding act_all and_then
  first-sound W H d ss m long h =
      both (ends_job (step_on r (new_foil W H d) m).answer)
      (λ e. clash (rw (e, e) refl) h)
      (λ e. rw e (steps-sound ss (step_on r (new_foil W H d) m).state (begun-sound W H d m long e)))
