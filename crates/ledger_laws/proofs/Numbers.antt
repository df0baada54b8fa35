-- A test that the numbers of all steps and records pass is passed by all numbers that a list of calls answers.
use Prim.Native.Nat.{ℕ, zero, suc, ◌/◌}
use native.Mathlib.Decide.{ℕ_discrete}
use mathlib.Core.Path.{◌≡◌, refl, sym, ap, ◌∙◌, subst}
use mathlib.Core.Bool.{Bool, true, false, not, or-true}
use mathlib.Core.List.{List, [], ◌∷◌, map}
use mathlib.Core.Logic.{inl, inr, by_cases}
use mathlib.Core.Option.{Option, none, some, some-injective}
use lib.Dec.{eqb}
use lib.ListN.{length}
use lib.Ieee.{Float}
use borrow.Author.Tests.{ne_eqb}
use Rattle.foil_spec.specs.Lists.{range, cons_if, all}
use Rattle.foil_spec.specs.Foil.{Layout}
use Rattle.foil_spec.specs.Ledger.{Room, short, Step, Answer, number_of, says, next, Refusal, first, refusals, after_lent}
use Rattle.foil_spec.specs.Ledger.{After, settle, refusal_of, ledger_step}
use Rattle.foil_spec.specs.Lent.{Lent, room_left}
use Rattle.foil_spec.specs.Wishes.{wish_at, wishes}
use Rattle.foil_spec.specs.Job.{RecordStep, as_step, has, step_bits, step_at, steps_at, record_steps, steps, is_end}
use Rattle.foil_spec.specs.Job.{record_end, record_checks}
use Rattle.foil_spec.specs.Calls.{Call, step, run_record, ohms, lay_list, as_reply, ends_job, and_then, act_all, act_record}
use Rattle.foil_spec.specs.Calls.{in_front, act_each, act_list, whole_refusals, list_refusals, ohms_reply, reply, ledger_call}
use Rattle.foil_spec.specs.Calls.{answers_in}
use Rattle.foil_spec.specs.Ohms.{ohms_refusals}
use Rattle.foil_spec.specs.declared.Ink.{Ink}
use Rattle.foil_spec.specs.Sequence.{Lending, room_for, told, Left, leaves, run_ledger}
use Rattle.list_laws.proofs.Tests.{both, clash, and_l, and_r, and_i, not_t, not-ff, all_append}
use Rattle.list_laws.proofs.Members.{In, of-all, none_of, in-keep, all-places}
use Rattle.ledger_laws.specs.Line.{but, numbers_from, own_numbers, no_carry}
use Rattle.ledger_laws.specs.Moments.{is_list}
use Rattle.ledger_laws.specs.Numbers.{steps_in, numbers_in, numbers_of, among, carries_over, besides_carries}
use Rattle.ledger_laws.specs.Numbers.{NeverBroken}
use Rattle.ledger_laws.proofs.Refusals.{first_passes, first-in}
use Rattle.ledger_laws.proofs.Line.{line}
use Rattle.ledger_laws.proofs.Kept.{step_keeps}
use Rattle.ledger_laws.proofs.Demand3.{behaves-as-ledger}

-- a test p that 0 passes, and each number that a step is refused by, is passed by what the step answers
module _ (p : ℕ → Bool) (zero-passes : p 0 ≡ true) where
  settled-passes : (o : Option ℕ) (s : Step) (l : Layout) → ((n : ℕ) → o ≡ some n → p n ≡ true)
      → p (number_of (settle o (record { answer = says s l; state = next s l }) l).answer) ≡ true
  unfolding settle number_of
  settled-passes (some n) s l h = h n refl
  settled-passes none s l h = ap p ((line s).accepts l) ∙ zero-passes

  pub answer-passes : (r : Room) (s : Step) (l : Layout) → ((n : ℕ) → refusal_of r false s l ≡ some n → p n ≡ true)
      → p (number_of (ledger_step r s l).answer) ≡ true
  unfolding ledger_step
  answer-passes r s l h = settled-passes (refusal_of r false s l) s l h

-- the lays of a list, all of the kind K, where R k r says that the room r is enough for k of them
module _ (p : ℕ → Bool) (zero-passes : p 0 ≡ true) (K : Step → Type 0) (Q : Layout → Type 0) (R : ℕ → Room → Type 0)
    (step-passes : (k : ℕ) (r : Room) → R (suc k) r → (s : Step) → K s → (l : Layout) → Q l → (n : ℕ)
    → refusal_of r false s l ≡ some n → p n ≡ true)
    (goes_on : (k : ℕ) (r : Room) → R (suc k) r → (s : Step) → K s → (l : Layout) → Q l
    → R k (room_left (ledger_step r s l).answer r) × Q (ledger_step r s l).state) where
  pub each-passes : (ss : List Step) → ((s : Step) → In s ss → K s) → (r : Room) → R (length ss) r → (l : Layout) → Q l
      → all p (map number_of (act_each ledger_step r ss l).answer) ≡ true
  unfolding act_each in_front
  each-passes [] k r e l g = refl
  each-passes (s ∷ ss) k r e l g =
      let of-kind = k s (inl refl) in
      let (e', g') = goes_on (length ss) r e s of-kind l g in
      and_i {a = p (number_of (ledger_step r s l).answer)}
      (answer-passes p zero-passes r s l (step-passes (length ss) r e s of-kind l g))
      (each-passes ss (λ t i. k t (inr i)) _ e' (ledger_step r s l).state g')

-- a list that is refused by a number that passes, or whose lays' numbers pass
pub list-passes : (p : ℕ → Bool) (o : Option ℕ) (r : Room) (ss : List Step) (l : Layout)
    → ((n : ℕ) → o ≡ some n → p n ≡ true)
    → (o ≡ none → all p (map number_of (act_each ledger_step r ss l).answer) ≡ true)
    → all p (numbers_in (act_list ledger_step o r ss l).answer) ≡ true
unfolding act_list numbers_in answers_in number_of
list-passes p (some n) r ss l h k = and_i {a = p n} (h n refl) refl
list-passes p none r ss l h k = k refl

-- a test p that 0 passes, and each number that a step of some kind on a layout with Q, a record or the ohms are refused
-- by
module _ (p : ℕ → Bool) (zero-passes : p 0 ≡ true) (kind : Step → Bool) (Q : Layout → Type 0) (r : Room)
    (step-passes : (s : Step) → kind s ≡ true → (l : Layout) → Q l → (n : ℕ) → refusal_of r false s l ≡ some n
    → p n ≡ true)
    (next-keeps : (s : Step) (l : Layout) → Q l → refusal_of r false s l ≡ none → Q (next s l)) where
  then-pass : (a : After Answer Layout) (b : After (List Answer) Layout) → p (number_of a.answer) ≡ true
      → all p (map number_of b.answer) ≡ true → all p (map number_of (and_then a b).answer) ≡ true
  unfolding and_then
  then-pass a b h k =
      both (ends_job a.answer)
      (λ t. rw t (and_i {a = p (number_of a.answer)} h refl))
      (λ t. rw t (and_i {a = p (number_of a.answer)} h k))

  steps-pass : (ss : List Step) → all kind ss ≡ true → (l : Layout) → Q l
      → all p (map number_of (act_all (ledger_step r) ss l).answer) ≡ true
  unfolding act_all
  steps-pass [] k l g = refl
  steps-pass (s ∷ ss) k l g =
      then-pass (ledger_step r s l) _ (answer-passes p zero-passes r s l (step-passes s (and_l (kind s) _ k) l g))
      (steps-pass ss (and_r (kind s) _ k) (ledger_step r s l).state (step_keeps Q r next-keeps s l g))

  record-passes : (o : Option ℕ) (e : Bool) (ss : List Step) (place : ℕ) → all kind ss ≡ true → (l : Layout) → Q l
      → ((n : ℕ) → o ≡ some n → p n ≡ true)
      → all p (numbers_in (as_reply (act_record (ledger_step r) o e ss place l).answer)) ≡ true
  unfolding act_record as_reply numbers_in answers_in number_of
  record-passes (some n) e ss place k l g h = and_i {a = p n} (h n refl) refl
  record-passes none true ss place k l g h = refl
  record-passes none false ss place k l g h = steps-pass ss k l g

  ohms-pass : (o : Option ℕ) (x : Float) → ((n : ℕ) → o ≡ some n → p n ≡ true)
      → all p (numbers_in (ohms_reply o x)) ≡ true
  unfolding ohms_reply numbers_in answers_in number_of
  ohms-pass (some n) x h = and_i {a = p n} (h n refl) refl
  ohms-pass none x h = refl

  pub call_passes : ((bs : List ℕ) (at n : ℕ) → first (whole_refusals r false bs at) ≡ some n → p n ≡ true)
      → ((net : ℕ) (i : Ink) (l : Layout) (n : ℕ) → first (after_lent r false (ohms_refusals net i l)) ≡ some n
      → p n ≡ true)
      → (c : Call) → is_list c ≡ false → all kind (steps_in c) ≡ true → (l : Layout) → Q l
      → all p (numbers_in (ledger_call r c l).answer) ≡ true
  unfolding ledger_call reply steps_in is_list
  call_passes h k (step s) e a l g =
      unfold numbers_in answers_in in
      and_i {a = p (number_of (ledger_step r s l).answer)}
      (answer-passes p zero-passes r s l (step-passes s (and_l (kind s) _ a) l g)) refl
  call_passes h k (run_record bs at) e a l g =
      record-passes _ (is_end bs at) (steps bs at) (record_end bs at) a l g (h bs at)
  call_passes h k (ohms net i) e a l g = ohms-pass _ _ (k net i l)
  call_passes h k (lay_list ws n) e a l g = clash refl e

-- the numbers of a list of calls each of which passes the test and keeps Q
module _ (p : ℕ → Bool) (Q : Layout → Type 0) (m : Lent) where
  pub record Passes (c : Lending) : Type 0 where
    pub answers : (l : Layout) → Q l → all p (numbers_in (told m c l).answer) ≡ true
    pub keeps : (l : Layout) → Q l → Q (told m c l).state

  pub run-passes : (cs : List Lending) (l : Layout) → Q l → ((c : Lending) → In c cs → Passes c)
      → all p (numbers_of (run_ledger m l cs)) ≡ true
  unfolding numbers_of run_ledger leaves
  run-passes [] l g h = refl
  run-passes (c ∷ cs) l g h =
      let k = h c (inl refl) in
      all_append p (numbers_in (told m c l).answer) _ (k.answers l g)
      (run-passes cs (told m c l).state (k.keeps l g) (λ d i. h d (inr i)))

-- where all numbers of a list are others than n, it is not among them
pub not-among : (n : ℕ) (ns : List ℕ) → all (but n) ns ≡ true → among n ns ≡ false
unfolding among but
not-among n ns h = none_of (eqb n) ns (λ k i. not_t (eqb n k) (of-all (but n) k ns h i))

-- ---- 13

-- the first refusal that applies after those for what is lent, where the lists are long or p lets 12 pass
pub lent-passes : (p : ℕ → Bool) (r : Room) (rs : List Refusal) → (short r ≡ true → p 12 ≡ true)
    → ((n : ℕ) → first rs ≡ some n → p n ≡ true) → (n : ℕ) → first (after_lent r false rs) ≡ some n → p n ≡ true
unfolding after_lent first
lent-passes p r rs short-passes own n e =
    both (short r)
    (λ t.
    let same : some 12 ≡ some n = rw t at e in
    subst (λ (k : ℕ). p k ≡ true) (some-injective 12 n same) (short-passes t))
    (λ t. own n (rw t at e))

-- a number that a step's own refusals give passes a test that the numbers of the step pass, and 12 if it is given
pub own-passes : (p : ℕ → Bool) (s : Step) (r : Room) (l : Layout) → all p (own_numbers s) ≡ true
    → (first (refusals s r l) ≡ some 12 → p 12 ≡ true) → (n : ℕ) → first (refusals s r l) ≡ some n → p n ≡ true
unfolding but numbers_from
own-passes p s r l h twelve n e =
    by_cases (ℕ_discrete 12 n)
    (λ q. subst (λ (k : ℕ). p k ≡ true) q (twelve (e ∙ ap {A = ℕ} {B = Option ℕ} some (sym q))))
    (λ q.
    of-all p n (own_numbers s) h
    (subst (In n) ((line s).numbers r l)
    (in-keep (but 12) n (numbers_from (refusals s r l)) (first-in (refusals s r l) n e) (ap not (ne_eqb 12 n q)))))

step-but-13 : (r : Room) (s : Step) → no_carry s ≡ true → (l : Layout) (n : ℕ) → refusal_of r false s l ≡ some n
    → but 13 n ≡ true
unfolding refusal_of but
step-but-13 r s c l =
    lent-passes (but 13) r (refusals s r l) (λ _. refl) (own-passes (but 13) s r l ((line s).unbroken c) (λ _. refl))

file-but-13 : (r : Room) (bs : List ℕ) (at n : ℕ) → first (whole_refusals r false bs at) ≡ some n → but 13 n ≡ true
unfolding whole_refusals after_lent record_checks but
file-but-13 r bs at = first_passes (but 13) _ (simp or-true)

ohms-but-13 : (r : Room) (net : ℕ) (i : Ink) (l : Layout) (n : ℕ)
    → first (after_lent r false (ohms_refusals net i l)) ≡ some n → but 13 n ≡ true
unfolding after_lent ohms_refusals but
ohms-but-13 r net i l = first_passes (but 13) _ (simp or-true)

-- a test that the step of each bit of a record passes
pub steps_all : (p : Step → Bool) (bs : List ℕ) (at : ℕ) → ((k : ℕ) → p (as_step (step_at bs at k)) ≡ true)
    → all p (steps bs at) ≡ true
unfolding steps record_steps steps_at
steps_all p bs at passes = go (range 0 step_bits)
  where
    put : (b : Bool) (s : RecordStep) (ss : List RecordStep) → p (as_step s) ≡ true → all p (map as_step ss) ≡ true
        → all p (map as_step (cons_if b s ss)) ≡ true
    put true s ss e h = and_i {a = p (as_step s)} e h
    put false s ss e h = h

    go : (ks : List ℕ) → all p (map as_step (steps_at bs at ks)) ≡ true
    go [] = refl
    go (k ∷ ks) = put (has bs at k) (step_at bs at k) (steps_at bs at ks) (passes k) (go ks)

no-carry-at : (bs : List ℕ) (at k : ℕ) → no_carry (as_step (step_at bs at k)) ≡ true
unfolding step_at as_step no_carry
no-carry-at bs at zero = refl
no-carry-at bs at (suc zero) = refl
no-carry-at bs at (suc (suc zero)) = refl
no-carry-at bs at (suc (suc (suc zero))) = refl
no-carry-at bs at (suc (suc (suc (suc k)))) = refl

wishes-no-carry : (ws : List ℕ) → all no_carry (wishes ws) ≡ true
unfolding wishes wish_at no_carry
wishes-no-carry ws = all-places no_carry (wish_at ws) (length ws / 5) (λ k h. refl)

-- no record and no list carries a foil over
none-carried : (c : Call) → not (carries_over c) ≡ true → all no_carry (steps_in c) ≡ true
unfolding carries_over steps_in
none-carried (step s) h = and_i {a = no_carry s} (not-ff (no_carry s) (not_t (not (no_carry s)) h)) refl
none-carried (run_record bs at) h = steps_all no_carry bs at (no-carry-at bs at)
none-carried (ohms net i) h = refl
none-carried (lay_list ws n) h = wishes-no-carry ws

list-but-13 : (r : Room) (ws : List ℕ) (k n : ℕ) → first (list_refusals r false ws k) ≡ some n → but 13 n ≡ true
unfolding list_refusals after_lent but
list-but-13 r ws k = first_passes (but 13) _ (simp or-true)

lays-but-13 : (r : Room) (ws : List ℕ) (n : ℕ) (l : Layout)
    → all (but 13) (numbers_in (ledger_call r (lay_list ws n) l).answer) ≡ true
unfolding ledger_call reply but
lays-but-13 r ws n l =
    list-passes (but 13) _ r (wishes ws) l (list-but-13 r ws n)
    (λ _. each-passes (but 13) refl (λ s. no_carry s ≡ true) (λ k. Unit {0}) (λ k q. Unit {0})
    (λ k q e s a x g. step-but-13 q s a x) (λ k q e s a x g. (tt, tt)) (wishes ws)
    (λ s i. of-all no_carry s (wishes ws) (wishes-no-carry ws) i) r tt l tt)

others-but-13 : (r : Room) (c : Call) (l : Layout) → is_list c ≡ false → not (carries_over c) ≡ true
    → all (but 13) (numbers_in (ledger_call r c l).answer) ≡ true
unfolding but
others-but-13 r c l e h =
    call_passes (but 13) refl no_carry (λ k. Unit {0}) r (λ s a k g. step-but-13 r s a k) (λ s k g e. tt)
    (file-but-13 r) (ohms-but-13 r) c e (none-carried c h) l tt

pub call-but-13 : (r : Room) (c : Call) (l : Layout) → not (carries_over c) ≡ true
    → all (but 13) (numbers_in (ledger_call r c l).answer) ≡ true
unfolding is_list
call-but-13 r (step s) l h = others-but-13 r (step s) l refl h
call-but-13 r (run_record bs at) l h = others-but-13 r (run_record bs at) l refl h
call-but-13 r (ohms net i) l h = others-but-13 r (ohms net i) l refl h
call-but-13 r (lay_list ws n) l h = lays-but-13 r ws n l

run-but-13 : (m : Lent) (cs : List Lending) (l : Layout)
    → all (but 13) (numbers_of (besides_carries cs (run_ledger m l cs))) ≡ true
unfolding numbers_of besides_carries run_ledger leaves
run-but-13 m [] l = refl
run-but-13 m (c ∷ cs) l =
    both (not (carries_over c.call))
    (λ t.
    rw t
    (all_append (but 13) (numbers_in (told m c l).answer) _ (unfold told in call-but-13 (room_for c m) c.call l t)
    (run-but-13 m cs (told m c l).state)))
    (λ t. rw t (run-but-13 m cs (told m c l).state))

pub never-broken : NeverBroken
never-broken m l c cs h =
    not-among 13 _
    (ap (λ (os : List Left). all (but 13) (numbers_of (besides_carries (c ∷ cs) os))) (behaves-as-ledger m l c cs h)
    ∙ run-but-13 m (c ∷ cs) l)
