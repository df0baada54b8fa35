-- What every accepted step keeps, every call keeps: that a layout keeps the rules, for one.
use Prim.Native.Nat.{ℕ}
use mathlib.Core.Path.{◌≡◌, refl}
use mathlib.Core.Bool.{true, false}
use mathlib.Core.Option.{Option, none, some}
use Rattle.foil_spec.specs.Foil.{Layout}
use Rattle.foil_spec.specs.Ledger.{Room, with_output, Step, says, next, settle, refusal_of, ledger_step}
use Rattle.foil_spec.specs.Lent.{layout_ok}
use Rattle.foil_spec.specs.Calls.{Call, ledger_call}
use Rattle.ledger_laws.proofs.Refusals.{unrefused-own}
use Rattle.ledger_laws.proofs.Line.{line}
use Rattle.ledger_laws.proofs.Replies.{reply-keeps}

-- what accepted steps keep, every step keeps
module _ (Q : Layout → Type 0) (r : Room)
    (keeps : (s : Step) (l : Layout) → Q l → refusal_of r false s l ≡ none → Q (next s l)) where
  settle-keeps : (o : Option ℕ) (s : Step) (l : Layout) → refusal_of r false s l ≡ o → Q l
      → Q (settle o (record { answer = says s l; state = next s l }) l).state
  unfolding settle
  settle-keeps (some n) s l e g = g
  settle-keeps none s l e g = keeps s l g e

  pub step_keeps : (s : Step) (l : Layout) → Q l → Q (ledger_step r s l).state
  unfolding ledger_step
  step_keeps s l g = settle-keeps (refusal_of r false s l) s l refl g

-- and in the room r, with any number of output, every call
pub call-keeps : (Q : Layout → Type 0) (r : Room)
    → ((n : ℕ) (s : Step) (l : Layout) → Q l → refusal_of (with_output r n) false s l ≡ none → Q (next s l))
    → (c : Call) (l : Layout) → Q l → Q (ledger_call r c l).state
unfolding ledger_call
call-keeps Q r keeps c l g =
    reply-keeps ledger_step Q r (λ n. step_keeps Q (with_output r n) (keeps n)) false c l l g

-- ---- the rules

abbrev Kept : Layout → Type 0
Kept l = layout_ok l ≡ true

next-keeps : (r : Room) (s : Step) (l : Layout) → Kept l → refusal_of r false s l ≡ none → Kept (next s l)
next-keeps r s l g e = (line s).kept r l (λ _. g) (unrefused-own r s l false e)

pub step_kept : (r : Room) (s : Step) (l : Layout) → layout_ok l ≡ true → layout_ok (ledger_step r s l).state ≡ true
step_kept r = step_keeps Kept r (next-keeps r)

pub call_kept : (r : Room) (c : Call) (l : Layout) → layout_ok l ≡ true → layout_ok (ledger_call r c l).state ≡ true
call_kept r = call-keeps Kept r (λ n. next-keeps (with_output r n))
