-- What a reply says of its record: where the job goes on, which checks it has passed, which bits its answers come
-- from, and where the corners of a track stand.
use Prim.Native.Nat.{ℕ, zero, suc, ◌+◌, ◌/◌, ◌≤◌}
use native.Mathlib.Omega.{arith}
use mathlib.Core.Path.{◌≡◌, refl, sym, ap, ◌∙◌, subst}
use mathlib.Core.Bool.{Bool, true, false, cond, not, ◌&&◌, ◌||◌, and-true, xor}
use mathlib.Core.List.{List, [], ◌∷◌, ◌++◌, map}
use mathlib.Core.Logic.{◌⊎◌, inl, inr, ⊎_elim}
use mathlib.Core.Option.{Option, none, some}
use lib.Dec.{leb, ltb, eqb}
use lib.ListN.{length, drop}
use borrow.Author.Tests.{ltb-false, leb-false}
use Rattle.foil_spec.specs.Lists.{range}
use Rattle.foil_spec.specs.Limits.{max_bytes}
use Rattle.foil_spec.specs.Foil.{Point, Layout}
use Rattle.foil_spec.specs.Ledger.{Step, lay, Answer, accepted, laid, booked, says, first, After, settle}
use Rattle.foil_spec.specs.Ledger.{Refusal, Room, corner_room, corners_of, after_lent, refusals}
use Rattle.foil_spec.specs.Corners.{corners_in}
use Rattle.foil_spec.specs.Lent.{Lent, held, sound, step_on, over_front, output_after}
use Rattle.foil_spec.specs.Job.{as_step, has, is_end, record_end, step_at, steps_at, steps, record_checks}
use Rattle.foil_spec.specs.Calls.{RecordReply, refused_whole, ran_steps, end_mark, ends_job, and_then, act_all, act_record}
use Rattle.foil_spec.specs.Calls.{too_large, whole_refusals, record_on, output_all, place_after}
use Rattle.list_laws.proofs.Tests.{both, or_l, not-ff}
use Rattle.ledger_laws.proofs.Refusals.{none-applies, unrefused-own}
use Rattle.ledger_laws.proofs.CornerLists.{corners-read}
use Rattle.ledger_laws.proofs.Lay.{lay-seeks, laid_on}
use Rattle.ledger_laws.proofs.Opening.{end-no-board}
use Rattle.std.specs.Prelude.{Option as Maybe, Ok, Err}
use Rattle.job.specs.Contract.{set_below, answers_of, next_of, next_in, reply_of}
use Rattle.job.specs.Parts.{Whole, ran_to}
use Rattle.job.specs.declared.Answers.{Answers}
use Rattle.job.specs.declared.Progress.TheVariants.{Ran, AtEnd}
use Rattle.job.proofs.Acting.{ran-from}
use Rattle.job.proofs.Bits.{still-output}

-- ---- which reply it is

-- a refusal of the record as a whole
pub was-refused : (on : ℕ → Bool) (o : RecordReply) (n : ℕ) → Err n ≡ reply_of on o → o ≡ refused_whole n
unfolding reply_of
was-refused on (refused_whole k) n e = let same : k ≡ n = cc in ap refused_whole same
was-refused on (ran_steps given p) n e = cc
was-refused on end_mark n e = cc

-- the answers of the steps
pub record HasRun (on : ℕ → Bool) (o : RecordReply) (a : Answers) (n : Maybe ℕ) : Type 0 where
  pub given : List Answer
  pub place : Option ℕ
  pub is : o ≡ ran_steps given place
  pub answers : a ≡ answers_of on given
  pub next : n ≡ next_of place

pub has-run : (on : ℕ → Bool) (o : RecordReply) (a : Answers) (n : Maybe ℕ) → Ok (Ran a n) ≡ reply_of on o
    → HasRun on o a n
unfolding reply_of
has-run on (refused_whole k) a n e = cc
has-run on (ran_steps given p) a n e = record { given = given; place = p; is = refl; answers = cc; next = cc }
has-run on end_mark a n e = cc

-- ---- where the job goes on

pub next-is : (on : ℕ → Bool) (o : RecordReply) → next_in (reply_of on o) ≡ next_of (place_after o)
unfolding next_in reply_of next_of place_after
next-is on (refused_whole n) = refl
next-is on (ran_steps given place) = refl
next-is on end_mark = refl

-- ---- the checks that it has passed

module _ {S : Type 0} (act : Step → S → After Answer S) where
  -- steps that were run: no check refused the record, and it was not the end mark
  pub record RanAll (o : Option ℕ) (e : Bool) (ss : List Step) (s : S) (given : List Answer) : Type 0 where
    pub unrefused : o ≡ none
    pub not_end : e ≡ false
    pub answers : given ≡ (act_all act ss s).answer

  pub ran-all : (o : Option ℕ) (e : Bool) (ss : List Step) (p : ℕ) (s : S) (given : List Answer) (n : Option ℕ)
      → (act_record act o e ss p s).answer ≡ ran_steps given n → RanAll o e ss s given
  unfolding act_record
  ran-all (some k) e ss p s given n h = absurd (let z : ◌≡◌ {A = ℕ} 0 1 = cc in omega arith)
  ran-all none true ss p s given n h = absurd (let z : ◌≡◌ {A = ℕ} 0 1 = cc in omega arith)
  ran-all none false ss p s given n h = record { unrefused = refl; not_end = refl; answers = cc }

  -- the end mark that was met
  met-end : (on : ℕ → Bool) (o : Option ℕ) (e : Bool) (ss : List Step) (p : ℕ) (s : S)
      → Ok AtEnd ≡ reply_of on (act_record act o e ss p s).answer → (o ≡ none) × (e ≡ true)
  unfolding act_record reply_of
  met-end on (some k) e ss p s h = absurd (let z : ◌≡◌ {A = ℕ} 0 1 = cc in omega arith)
  met-end on none true ss p s h = (refl, refl)
  met-end on none false ss p s h = absurd (let z : ◌≡◌ {A = ℕ} 0 1 = cc in omega arith)

module _ (r : Room) (bs : List ℕ) (at : ℕ) (m : Lent) where
  abbrev checks : List Refusal
  checks = whole_refusals r (not (sound m)) bs at

  -- a record whose steps were run, and what it left
  pub record Stepped (given : List Answer) : Type 0 where
    pub whole : Whole bs at
    pub answers : given ≡ (act_all (step_on r) (steps bs at) m).answer
    pub state : (record_on r bs at m).state ≡ (act_all (step_on r) (steps bs at) m).state

  whole-record : first checks ≡ none → is_end bs at ≡ false → Whole bs at
  unfolding whole_refusals after_lent record_checks too_large
  whole-record e f =
      let large : ltb max_bytes (length bs) ≡ false = search none-applies in
      let there : leb (length bs) at ≡ false = search none-applies depth 9 in
      let ends : (not (is_end bs at) && ltb (length bs) (record_end bs at)) ≡ false = search none-applies depth 12 in
      record {
        begun = record { there = leb-false (length bs) at there; few = ltb-false max_bytes (length bs) large };
        ends = ltb-false (length bs) (record_end bs at) (rw f at ends);
      }

  pub stepped : (given : List Answer) (n : Option ℕ) → (record_on r bs at m).answer ≡ ran_steps given n → Stepped given
  unfolding record_on act_record
  stepped given n h =
      let a = ran-all (step_on r) (first checks) (is_end bs at) (steps bs at) (record_end bs at) m given n h in
      record {
        whole = whole-record a.unrefused a.not_end;
        answers = a.answers;
        state = rw (a.unrefused, a.not_end) refl;
      }

  -- a place at which the end mark was met is not 0, so that 13 was tried, and nothing is changed
  pub record Ended : Type 0 where
    pub answer : (record_on r bs at m).answer ≡ end_mark
    pub fine : sound m ≡ true
    pub state : (record_on r bs at m).state ≡ m

  later-place : first (record_checks bs at) ≡ none → is_end bs at ≡ true → eqb at 0 ≡ false
  unfolding record_checks xor
  later-place e h =
      let x : (xor (eqb at 0) (has bs at 0) || has bs at 5 && not (has bs at 0)) ≡ false =
      search none-applies depth 9 in
      go (eqb at 0) (rw (end-no-board bs at h) at (or_l (xor (eqb at 0) (has bs at 0)) _ x))
    where
      go : (z : Bool) → xor z false ≡ false → z ≡ false
      go true q = q
      go false q = refl

  pub ended : (on : ℕ → Bool) → Ok AtEnd ≡ reply_of on (record_on r bs at m).answer → Ended
  unfolding record_on act_record whole_refusals after_lent
  ended on h =
      let a = met-end (step_on r) on (first checks) (is_end bs at) (steps bs at) (record_end bs at) m h in
      let e = a.0 in
      let checked : first (record_checks bs at) ≡ none = search none-applies depth 9 in
      let broken : (not (sound m) && not (eqb at 0)) ≡ false = search none-applies depth 9 in
      let tried : not (sound m) ≡ false = rw (later-place checked a.1, and-true (not (sound m))) at broken in
      record { answer = rw (a.0, a.1) refl; fine = not-ff (sound m) tried; state = rw (a.0, a.1) refl }

-- ---- the corner list

-- where a step was answered a, its corners fit an output list of so many numbers, and stand at the front of out; it is
-- no booking
pub record Tracked (a : Answer) (room : ℕ) (out : List ℕ) : Type 0 where
  pub fits : (cs : List Point) (n : ℕ) → a ≡ laid cs n → length cs ≤ room / 2
  pub front : (cs : List Point) (n : ℕ) → a ≡ laid cs n → corners_in out (length cs) ≡ cs
  pub unbooked : (k n : ℕ) → a ≡ booked k n → ⊥

settled-still : (o : Option ℕ) (a : After Answer Lent) (m : Lent) (cs : List Point) (n : ℕ) → a.answer ≡ accepted
    → (settle o a m).answer ≡ laid cs n → ⊥
unfolding settle
settled-still none a m cs n e h = let z : ◌≡◌ {A = ℕ} 0 1 = cc in omega arith
settled-still (some k) a m cs n e h = let z : ◌≡◌ {A = ℕ} 0 1 = cc in omega arith

-- a step that writes no corners answers none
still-laid : (r : Room) (c : Step) (m : Lent) → ((l : Layout) → says c l ≡ accepted) → (cs : List Point) (n : ℕ)
    → (step_on r c m).answer ≡ laid cs n → ⊥
unfolding step_on
still-laid r c m still cs n h = settled-still _ _ m cs n (still (held m)) h

settled-unbooked : (o : Option ℕ) (a : After Answer Lent) (m : Lent) → ((k n : ℕ) → a.answer ≡ booked k n → ⊥)
    → (k n : ℕ) → (settle o a m).answer ≡ booked k n → ⊥
unfolding settle
settled-unbooked none a m never k n h = never k n h
settled-unbooked (some j) a m never k n h = let z : ◌≡◌ {A = ℕ} 0 1 = cc in omega arith

still-same : (r : Room) (c : Step) (m : Lent) (out : List ℕ) → ((l : Layout) → says c l ≡ accepted)
    → output_after (step_on r c m).answer out ≡ out
unfolding step_on
still-same r c m out still = sym (still-output _ _ m out (still (held m)))

lay-fits : (r : Room) (m : Lent) (net : ℕ) (S T : Point) (cs : List Point) (n : ℕ)
    → (step_on r (lay net S T) m).answer ≡ laid cs n → length cs ≤ r.output / 2
unfolding refusals corner_room
lay-fits r m net S T cs n h =
    let a = laid_on (lay-seeks net S T) r m cs n h in
    let own = unrefused-own r (lay net S T) (held m) (not (sound m)) a.unrefused in
    let f : ltb (r.output / 2) (length (corners_of (held m) S T)) ≡ false = search none-applies depth 12 in
    omega (arith, ltb-false (r.output / 2) (length (corners_of (held m) S T)) f, ap length a.corners)

outputs-append : (xs ys : List Answer) (out : List ℕ) → output_all (xs ++ ys) out ≡ output_all ys (output_all xs out)
unfolding output_all
outputs-append [] ys out = refl
outputs-append (x ∷ xs) ys out = outputs-append xs ys (output_after x out)

-- what the first of some steps answered, and what the others did
record Heads (r : Room) (c : Step) (ss : List Step) (m : Lent) (x : Answer) (rest : List Answer) : Type 0 where
  is : (step_on r c m).answer ≡ x
  later : (rest ≡ []) ⊎ (rest ≡ (act_all (step_on r) ss (step_on r c m).state).answer)

heads : (r : Room) (c : Step) (ss : List Step) (m : Lent) (x : Answer) (rest : List Answer)
    → (act_all (step_on r) (c ∷ ss) m).answer ≡ x ∷ rest → Heads r c ss m x rest
unfolding act_all and_then
heads r c ss m x rest h = go (ends_job (step_on r c m).answer) h
  where
    go : (t : Bool)
        → (cond {A = After (List Answer) Lent} t
        (record { answer = (step_on r c m).answer ∷ []; state = (step_on r c m).state })
        (record {
          answer = (step_on r c m).answer ∷ (act_all (step_on r) ss (step_on r c m).state).answer;
          state = (act_all (step_on r) ss (step_on r c m).state).state;
        })).answer
        ≡ x ∷ rest → Heads r c ss m x rest
    go true k = record { is = cc; later = inl cc }
    go false k = record { is = cc; later = inr cc }

quiet-first : (r : Room) (c : Step) (ss : List Step) (m : Lent) (out : List ℕ)
    → output_after (step_on r c m).answer out ≡ out
    → output_all (act_all (step_on r) ss (step_on r c m).state).answer out ≡ out
    → output_all (act_all (step_on r) (c ∷ ss) m).answer out ≡ out
unfolding act_all and_then output_all
quiet-first r c ss m out same later = go (ends_job (step_on r c m).answer)
  where
    rest : After (List Answer) Lent
    rest = act_all (step_on r) ss (step_on r c m).state

    go : (t : Bool)
        → output_all (cond {A = After (List Answer) Lent} t
        (record { answer = (step_on r c m).answer ∷ []; state = (step_on r c m).state })
        (record { answer = (step_on r c m).answer ∷ rest.answer; state = rest.state })).answer out ≡ out
    go true = same
    go false = ap (output_all rest.answer) same ∙ later

module _ (r : Room) (bs : List ℕ) (at : ℕ) where
  stills : (i : ℕ) (l : Layout) → says (as_step (step_at bs at (suc (suc (suc i))))) l ≡ accepted
  unfolding step_at as_step says
  stills zero l = refl
  stills (suc i) l = refl

  -- no bit is a booking
  says-unbooked : (i : ℕ) (l : Layout) (k n : ℕ) → says (as_step (step_at bs at i)) l ≡ booked k n → ⊥
  unfolding step_at as_step says
  says-unbooked zero l k n h = let z : ◌≡◌ {A = ℕ} 0 1 = cc in omega arith
  says-unbooked (suc zero) l k n h = let z : ◌≡◌ {A = ℕ} 0 1 = cc in omega arith
  says-unbooked (suc (suc zero)) l k n h = let z : ◌≡◌ {A = ℕ} 0 1 = cc in omega arith
  says-unbooked (suc (suc (suc zero))) l k n h = let z : ◌≡◌ {A = ℕ} 0 1 = cc in omega arith
  says-unbooked (suc (suc (suc (suc i)))) l k n h = let z : ◌≡◌ {A = ℕ} 0 1 = cc in omega arith

  -- the bits after the track's write no corners
  quiet : (i j : ℕ) (m : Lent) (out : List ℕ)
      → output_all (act_all (step_on r) (map as_step (steps_at bs at (range (suc (suc (suc i))) j))) m).answer out ≡ out
  unfolding steps_at
  quiet i zero m out = unfold act_all output_all in refl
  quiet i (suc j) m out =
      let c : Step = as_step (step_at bs at (suc (suc (suc i)))) in
      both (has bs at (suc (suc (suc i))))
      (λ set.
      rw set
      (quiet-first r c (map as_step (steps_at bs at (range (suc (suc (suc (suc i)))) j))) m out
      (still-same r c m out (stills i)) (quiet (suc i) j (step_on r c m).state out)))
      (λ unset. rw unset (quiet (suc i) j m out))

  module _ (m : Lent) (out : List ℕ) (k j : ℕ) (x : Answer) (rest : List Answer) (set : has bs at k ≡ true)
      (h : drop (set_below (has bs at) k) (ran_to r bs at (k + suc j) m).answer ≡ x ∷ rest) where
    abbrev before : Lent
    before = (ran_to r bs at k m).state

    abbrev later-steps : List Step
    later-steps = map as_step (steps_at bs at (range (suc k) j))

    abbrev this : Step
    this = as_step (step_at bs at k)

    abbrev Done : Type 0
    Done = Tracked x r.output (output_all (ran_to r bs at (k + suc j) m).answer out)

    whole : (ran_to r bs at (k + suc j) m).answer ≡ (ran_to r bs at k m).answer ++ (x ∷ rest)
    whole = (ran-from bs at r m k (suc j) x rest h).0

    met : Heads r this later-steps before x rest
    unfolding steps_at
    met = heads r this later-steps before x rest (rw set at (ran-from bs at r m k (suc j) x rest h).1)

    unbooked : (i n : ℕ) → x ≡ booked i n → ⊥
    unfolding step_on
    unbooked i n e = settled-unbooked _ _ before (says-unbooked k (held before)) i n (met.is ∙ e)

    still : ((l : Layout) → says this l ≡ accepted) → Done
    still s =
        record {
          fits = λ cs n e. absurd (still-laid r this before s cs n (met.is ∙ e));
          front = λ cs n e. absurd (still-laid r this before s cs n (met.is ∙ e));
          unbooked = unbooked;
        }

    -- what was written before does not matter, and nothing is written after
    only-last : (i : ℕ) → k ≡ suc (suc i)
        → output_all (ran_to r bs at (k + suc j) m).answer out
        ≡ output_after x (output_all (ran_to r bs at k m).answer out)
    only-last i e =
        ap (λ (given : List Answer). output_all given out) whole
        ∙ outputs-append (ran_to r bs at k m).answer (x ∷ rest) out ∙ unfold output_all in nothing
        (output_after x (output_all (ran_to r bs at k m).answer out))
      where
        nothing : (o : List ℕ) → output_all rest o ≡ o
        nothing o =
            ⊎_elim
            (λ (q : rest ≡ []). rw q (unfold output_all in refl))
            (λ (q : rest ≡ (act_all (step_on r) later-steps (step_on r this before).state).answer).
            rw q
            (subst (λ (n : ℕ). output_all
            (act_all (step_on r) (map as_step (steps_at bs at (range (suc n) j))) (step_on r this before).state).answer o
            ≡ o)
            (sym e) (quiet i j (step_on r this before).state o)))
            met.later

    lay-front : (i : ℕ) → k ≡ suc (suc i) → (cs : List Point) (n : ℕ) → x ≡ laid cs n
        → corners_in (output_all (ran_to r bs at (k + suc j) m).answer out) (length cs) ≡ cs
    unfolding output_after over_front
    lay-front i e cs n q =
        ap (λ (o : List ℕ). corners_in o (length cs)) (only-last i e)
        ∙ subst (λ (y : Answer). corners_in (output_after y (output_all (ran_to r bs at k m).answer out)) (length cs) ≡ cs)
        (sym q) (corners-read cs _)

    laid-bit : (c : Step) → this ≡ c → (net : ℕ) (S T : Point) → c ≡ lay net S T → (cs : List Point) (n : ℕ)
        → x ≡ laid cs n → length cs ≤ r.output / 2
    laid-bit c e net S T f cs n q =
        lay-fits r before net S T cs n
        (ap (λ (s : Step). (step_on r s before).answer) (sym (e ∙ f)) ∙ met.is ∙ q)

    by_bit : (i : ℕ) → k ≡ i → Done
    unfolding step_at as_step
    by_bit zero e = still (λ l. rw e (unfold says in refl))
    by_bit (suc zero) e = still (λ l. rw e (unfold says in refl))
    by_bit (suc (suc zero)) e =
        record {
          fits = laid-bit (as_step (step_at bs at 2)) (ap (λ (n : ℕ). as_step (step_at bs at n)) e) _ _ _ refl;
          front = lay-front 0 e;
          unbooked = unbooked;
        }
    by_bit (suc (suc (suc i))) e = still (λ l. rw e (stills i l))

    -- the corners of the answer of a bit that is set, of the bits up to k + j
    pub bit-tracked : Done
    bit-tracked = by_bit k refl
