-- Steps and calls on what a layout is stored in go as on the ledger.
use Prim.Native.Nat.{ℕ}
use mathlib.Core.Path.{◌≡◌, refl, ap}
use mathlib.Core.Bool.{true, false}
use mathlib.Core.List.{List}
use mathlib.Core.Option.{Option, none, some}
use Rattle.foil_spec.specs.Foil.{Layout}
use Rattle.foil_spec.specs.Ledger.{Room, with_output, Step, Answer, says, next, After, settle, refusal_of, ledger_step}
use Rattle.foil_spec.specs.Lent.{Lent, store, layout_ok, step_on}
use Rattle.foil_spec.specs.Calls.{Call, run_record, reply, ledger_call, call_on, ledger_record, record_on}
use Rattle.ledger_laws.proofs.Stored.{held-store, store-again, sound-store}
use Rattle.ledger_laws.proofs.Replies.{shown_by, Shown, reply-shown, of-replied}
use Rattle.ledger_laws.proofs.Kept.{step_kept}

-- what the ledger answers and holds, stored in what is lent
unfoldable pub shown : {A : Type 0} → Lent → After A Layout → After A Lent
shown m a = record { answer = a.answer; state = store a.state m }

-- b is that, and what the ledger holds keeps the rules
abbrev pub ShownIn : {A : Type 0} → Lent → After A Layout → After A Lent → Type 0
ShownIn m a b = Shown (λ (l : Layout). store l m) (λ (l : Layout). layout_ok l ≡ true) a b

settle_is : {A : Type 0} (put : A → Lent) (o : Option ℕ) (a : After Answer Lent) (b : After Answer A) (x : A)
    → a ≡ record { answer = b.answer; state = put b.state }
    → settle o a (put x) ≡ record { answer = (settle o b x).answer; state = put (settle o b x).state }
unfolding settle
settle_is put (some n) a b x e = refl
settle_is put none a b x e = e

pub step_is : (r : Room) (s : Step) (l : Layout) (m : Lent) → layout_ok l ≡ true
    → step_on r s (store l m) ≡ shown m (ledger_step r s l)
unfolding step_on ledger_step shown
step_is r s l m g =
    rw (held-store l m, sound-store l m g)
    (settle_is (λ k. store k m) (refusal_of r false s l) _ (record { answer = says s l; state = next s l }) l
    (ap (λ (x : Lent). record { answer = says s l; state = x }) (store-again l (next s l) m g)))

pub step-shown : (r : Room) (s : Step) (l : Layout) (m : Lent) → layout_ok l ≡ true
    → ShownIn m (ledger_step r s l) (step_on r s (store l m))
unfolding shown shown_by
step-shown r s l m g = record { is = step_is r s l m g; kept = step_kept r s l g }

-- a call on lists that hold a layout
pub call-is : (r : Room) (c : Call) (l : Layout) (m : Lent) → layout_ok l ≡ true
    → call_on r c (store l m) ≡ shown m (ledger_call r c l)
unfolding call_on ledger_call shown shown_by
call-is r c l m g =
    rw (held-store l m, sound-store l m g)
    (reply-shown (λ (x : Layout). store x m) (λ (x : Layout). layout_ok x ≡ true) ledger_step step_on r
    (λ n s x. step-shown (with_output r n) s x m) false c l l g).is

-- a record goes as on the ledger where its call does
pub record-as : (r : Room) (bs : List ℕ) (at : ℕ) (l : Layout) (m n : Lent)
    → call_on r (run_record bs at) n ≡ shown m (ledger_call r (run_record bs at) l)
    → record_on r bs at n ≡ shown m (ledger_record r bs at l)
unfolding call_on ledger_call reply record_on ledger_record shown
record-as r bs at l m n e = of-replied (record_on r bs at n) (shown m (ledger_record r bs at l)) e
