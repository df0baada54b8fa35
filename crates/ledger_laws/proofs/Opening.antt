-- A record at place 0 on lists that hold anything: it ends the job with the ledger's reply, or it begins a foil.
use Prim.Native.Nat.{ℕ}
use native.Mathlib.Omega.{arith}
use mathlib.Core.Path.{◌≡◌, refl, sym, ap, ◌∙◌, subst}
use mathlib.Core.Bool.{Bool, true, false, not, cond}
use mathlib.Core.List.{List, [], ◌∷◌}
use mathlib.Core.Option.{Option, none, some}
use borrow.Author.Tests.{eqb-true}
use Rattle.foil_spec.specs.Lists.{any}
use Rattle.foil_spec.specs.Foil.{Layout}
use Rattle.foil_spec.specs.Ledger.{Clearance, Step, new_foil, Answer, refused, first, Room, short, After, settle}
use Rattle.foil_spec.specs.Ledger.{refusal_of, ledger_step, reads, accepted, says}
use Rattle.foil_spec.specs.Lent.{Lent, held, sound, step_on}
use Rattle.foil_spec.specs.Job.{map_byte, has, is_end, steps, record_end, record_checks}
use Rattle.foil_spec.specs.Calls.{Call, step, run_record, RecordReply, refused_whole, ran_steps, end_mark, Reply}
use Rattle.foil_spec.specs.Calls.{answered, ran, as_reply, ends_job, and_then, act_all, act_record, whole_refusals, reply}
use Rattle.foil_spec.specs.Calls.{ledger_call, call_on, ledger_record, record_on}
use Rattle.foil_spec.specs.Sequence.{Begins}
use Rattle.list_laws.proofs.Tests.{both, clash}
use Rattle.ledger_laws.proofs.Line.{line}
use Rattle.ledger_laws.proofs.Lending.{new-ends, new-blind, Begun, Opens, board-first, opens}
use Rattle.ledger_laws.proofs.Steps.{shown}
use Rattle.ledger_laws.proofs.Lending.{short_number, call-short, whole-at-0, begun-record, own-checks}
use Rattle.ledger_laws.proofs.Lending.{by-begins, blind-refusal, blind-answer, taken-on}

-- a reply after which there is no next place, and no strip is told
abbrev pub Over : RecordReply → Type 0
Over (refused_whole n) = Unit {0}
Over (ran_steps given none) = Unit {0}
Over (ran_steps given (some n)) = ⊥
Over end_mark = ⊥

-- how a record at place 0 goes on lists that hold anything
pub data Opening (r : Room) (bs : List ℕ) (l : Layout) (m : Lent) : Type 0 where
  over : (a : RecordReply) → (record_on r bs 0 m).answer ≡ a → (ledger_record r bs 0 l).answer ≡ a → Over a
      → Opening r bs l m
  begins : Begun r (run_record bs 0) l m → Opening r bs l m

-- the end mark has no board
pub end-no-board : (bs : List ℕ) (at : ℕ) → is_end bs at ≡ true → has bs at 0 ≡ false
unfolding is_end has
end-no-board bs at e = rw (eqb-true (map_byte bs at) 0 e) refl

not-at-end : (bs : List ℕ) → first (record_checks bs 0) ≡ none → is_end bs 0 ≡ false
not-at-end bs e = both (is_end bs 0) (λ h. clash (board-first bs e) (end-no-board bs 0 h)) (λ h. h)

module _ {S : Type 0} (act : Step → S → After Answer S) where
  -- a first step that ends the job
  ends-first : (c : Step) (cs : List Step) (s : S) (k : ℕ) → (act c s).answer ≡ refused k → ends_job (refused k) ≡ true
      → (act_all act (c ∷ cs) s).answer ≡ refused k ∷ []
  unfolding act_all and_then
  ends-first c cs s k e f = rw (e, f) refl

  ends-record : (ss : List Step) (p : ℕ) (s : S) (k : ℕ) → (act_all act ss s).answer ≡ refused k ∷ []
      → ends_job (refused k) ≡ true → (act_record act none false ss p s).answer ≡ ran_steps (refused k ∷ []) none
  unfolding act_record
  ends-record ss p s k e f = rw (e, f) refl

module _ (W H : ℕ) (d : Clearance) (r : Room) (l : Layout) where
  on-ledger : (k : ℕ) → refusal_of r false (new_foil W H d) l ≡ some k
      → (ledger_step r (new_foil W H d) l).answer ≡ refused k
  unfolding ledger_step settle
  on-ledger k e = rw e refl

  on-lists : (m : Lent) (k : ℕ) → refusal_of r false (new_foil W H d) l ≡ some k
      → (step_on r (new_foil W H d) m).answer ≡ refused k
  unfolding step_on settle
  on-lists m k e =
      rw (blind-refusal (new_foil W H d) (new-blind W H d) r l (not (sound m)) (held m), e) refl

  on-ledger-accepted : refusal_of r false (new_foil W H d) l ≡ none → (ledger_step r (new_foil W H d) l).answer ≡ accepted
  unfolding says
  on-ledger-accepted e = blind-answer (new_foil W H d) (new-blind W H d) r l e

  -- the steps after a board that is accepted, and the next place
  abbrev later : List Step → List Answer
  later ss = (act_all (ledger_step r) ss (ledger_step r (new_foil W H d) l).state).answer

  accepts : (ss : List Step) (p : ℕ) → refusal_of r false (new_foil W H d) l ≡ none
      → (act_record (ledger_step r) none false (new_foil W H d ∷ ss) p l).answer
      ≡ ran_steps (accepted ∷ later ss) (cond (any ends_job (later ss)) none (some p))
  unfolding act_record act_all and_then ends_job
  accepts ss p e = rw (on-ledger-accepted e) refl

module _ (r : Room) (bs : List ℕ) (l : Layout) (m : Lent) (long : short r ≡ false) where
  abbrev refusal : Option ℕ
  refusal = first (whole_refusals r false bs 0)

  call-at-0 : (o : Option ℕ) (e : Bool) → refusal ≡ o → is_end bs 0 ≡ e
      → (record_on r bs 0 m ≡ act_record (step_on r) o e (steps bs 0) (record_end bs 0) m)
      × (ledger_record r bs 0 l ≡ act_record (ledger_step r) o e (steps bs 0) (record_end bs 0) l)
  unfolding record_on ledger_record
  call-at-0 o e f g = (rw (whole-at-0 r (not (sound m)) bs, f, g) refl, rw (f, g) refl)

  refused-whole : (n : ℕ) → refusal ≡ some n → Opening r bs l m
  unfolding act_record
  refused-whole n e =
      let both-are = call-at-0 (some n) (is_end bs 0) e refl in
      over (refused_whole n)
      (ap (λ a. a.answer) both-are.0) (ap (λ a. a.answer) both-are.1) tt

  module _ (passed : refusal ≡ none) (b : Opens (steps bs 0)) (goes_on : is_end bs 0 ≡ false) where
    abbrev new : Step
    new = new_foil b.W b.H b.d

    board-refused : (k : ℕ) → refusal_of r false new l ≡ some k → Opening r bs l m
    board-refused k e =
        let both-are = call-at-0 none false passed goes_on in
        let f = new-ends b.W b.H b.d r l k e long in
        over (ran_steps (refused k ∷ []) none)
        (ap (λ a. a.answer) both-are.0
        ∙ ends-record (step_on r) (steps bs 0) (record_end bs 0) m k
        (ap (λ (ss : List Step). (act_all (step_on r) ss m).answer) b.is
        ∙ ends-first (step_on r) new b.later m k (on-lists b.W b.H b.d r l m k e) f) f)
        (ap (λ a. a.answer) both-are.1
        ∙ ends-record (ledger_step r) (steps bs 0) (record_end bs 0) l k
        (ap (λ (ss : List Step). (act_all (ledger_step r) ss l).answer) b.is
        ∙ ends-first (ledger_step r) new b.later l k (on-ledger b.W b.H b.d r l k e) f) f)
        tt

    board-accepted : refusal_of r false new l ≡ none → Opening r bs l m
    board-accepted e =
        let both-are = call-at-0 none false passed goes_on in
        begins (begun-record r bs _ _ l m
        (ap (λ c. c.answer) both-are.1
        ∙ ap (λ (ss : List Step). (act_record (ledger_step r) none false ss (record_end bs 0) l).answer) b.is
        ∙ accepts b.W b.H b.d r l b.later (record_end bs 0) e))

    by-board : (o : Option ℕ) → refusal_of r false new l ≡ o → Opening r bs l m
    by-board (some k) e = board-refused k e
    by-board none e = board-accepted e

  by-checks : (o : Option ℕ) → refusal ≡ o → Opening r bs l m
  by-checks (some n) e = refused-whole n e
  by-checks none e =
      let passed = own-checks r false bs 0 e in
      by-board e (opens bs passed) (not-at-end bs passed) _ refl

  pub opening : Opening r bs l m
  opening = by-checks refusal refl

-- ---- a call that begins a foil by what it answers on the lists begins one on the ledger

module _ (r : Room) (l : Layout) (m : Lent) where
  -- a step that reads nothing of what is lent, and answers a, which is no refusal
  blind-told : (s : Step) (blind : reads s ≡ false) (a : Answer) → ((n : ℕ) → refused n ≡ a → ⊥)
      → (step_on r s m).answer ≡ a → (ledger_step r s l).answer ≡ a
  blind-told s blind a never e =
      let u = taken-on r s m a never e in
      let q = sym (blind-refusal s blind r l (not (sound m)) (held m)) ∙ u in
      blind-answer s blind r l q ∙ ((line s).blind blind r l (held m)).1 ∙ sym (stepped s u) ∙ e
    where
      stepped : (s : Step) → refusal_of r (not (sound m)) s (held m) ≡ none → (step_on r s m).answer ≡ says s (held m)
      stepped s u = unfold step_on settle in rw u refl

  call-told : (s : Step) (blind : reads s ≡ false) (a : Answer) → ((n : ℕ) → refused n ≡ a → ⊥)
      → (call_on r (step s) m).answer ≡ answered a → (ledger_call r (step s) l).answer ≡ answered a
  unfolding call_on ledger_call reply
  call-told s blind a never e =
      let q : (step_on r s m).answer ≡ a = cc in
      ap answered (blind-told s blind a never q)

  same-opening : (bs : List ℕ) → Opening r bs l m
      → (call_on r (run_record bs 0) m).answer ≡ (ledger_call r (run_record bs 0) l).answer
  unfolding shown call_on ledger_call reply record_on ledger_record
  same-opening bs (over a e f o) = ap as_reply (e ∙ sym f)
  same-opening bs (begins b) = ap (λ (z : After Reply Lent). z.answer) b.is

  -- steps are run only on lists that are long enough
  ran-long : (bs : List ℕ) (given : List Answer) (n : Option ℕ) → (call_on r (run_record bs 0) m).answer ≡ ran given n
      → short r ≡ false
  ran-long bs given n e =
      both (short r)
      (λ t.
      let q : answered (refused (short_number (run_record bs 0))) ≡ ran given n =
      ap (λ (z : After Reply Lent). z.answer) (sym (call-short r (run_record bs 0) m t)) ∙ e in
      absurd (let z : ◌≡◌ {A = ℕ} 0 1 = cc in omega arith))
      (λ t. t)

  pub begins-told : (c : Call) → Begins c (call_on r c m).answer → Begins c (ledger_call r c l).answer
  begins-told c b =
      subst (Begins c)
      (by-begins (λ x a. (call_on r x m).answer ≡ a → (call_on r x m).answer ≡ (ledger_call r x l).answer)
      (λ s blind a never e. e ∙ sym (call-told s blind a never e))
      (λ bs xs n e. same-opening bs (opening r bs l m (ran-long bs (accepted ∷ xs) n e))) c (call_on r c m).answer
      b refl)
      b
