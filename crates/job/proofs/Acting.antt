-- Steps that are run one after the other, and those of one bit more.
use Prim.Native.Nat.{ℕ, zero, suc, ◌+◌, ◌≤◌}
use native.Mathlib.Omega.{arith}
use native.Mathlib.Numerals.{add-one}
use mathlib.Core.Path.{◌≡◌, refl, sym, ap, ◌∙◌}
use mathlib.Core.Bool.{Bool, true, false}
use mathlib.Core.List.{List, [], ◌∷◌, ◌++◌, map, append-nil}
use lib.ListN.{length, drop, length-append, drop_of_length-le}
use lib.Seq.{drop_at}
use Rattle.foil_spec.specs.Lists.{range, cons_if, any}
use Rattle.foil_spec.specs.Ledger.{Step, Answer, Room, After}
use Rattle.foil_spec.specs.Lent.{Lent, step_on}
use Rattle.foil_spec.specs.Job.{as_step, has, step_at, steps_at}
use Rattle.foil_spec.specs.Calls.{ends_job, and_then, act_all}
use Rattle.list_laws.proofs.Tests.{both, clash}
use Rattle.job.specs.Contract.{set_below}
use Rattle.job.specs.Parts.{ran_to}

-- ---- steps after others

module _ {S : Type 0} (act : Step → S → After Answer S) where
  -- none is run after one that ends the job
  acts-ended : (xs ys : List Step) (s : S) → any ends_job (act_all act xs s).answer ≡ true
      → act_all act (xs ++ ys) s ≡ act_all act xs s
  unfolding act_all and_then
  acts-ended [] ys s h = clash h refl
  acts-ended (c ∷ xs) ys s h =
      both (ends_job (act c s).answer)
      (λ t. rw t refl)
      (λ t.
      let later : any ends_job (act_all act xs (act c s).state).answer ≡ true = rw t at (rw t at h) in
      rw t
      (ap (λ (b : After (List Answer) S). record { answer = (act c s).answer ∷ b.answer; state = b.state })
      (acts-ended xs ys (act c s).state later)))

  -- else they go on from what the others left
  acts-on : (xs ys : List Step) (s : S) → any ends_job (act_all act xs s).answer ≡ false
      → act_all act (xs ++ ys) s
      ≡ record {
        answer = (act_all act xs s).answer ++ (act_all act ys (act_all act xs s).state).answer;
        state = (act_all act ys (act_all act xs s).state).state;
      }
  unfolding act_all and_then
  acts-on [] ys s h = refl
  acts-on (c ∷ xs) ys s h =
      both (ends_job (act c s).answer)
      (λ t. clash (rw t refl) (rw t at h))
      (λ t.
      let later : any ends_job (act_all act xs (act c s).state).answer ≡ false = rw t at (rw t at h) in
      rw t
      (ap (λ (b : After (List Answer) S). record { answer = (act c s).answer ∷ b.answer; state = b.state })
      (acts-on xs ys (act c s).state later)))

  acts-one : (c : Step) (s : S)
      → act_all act (c ∷ []) s ≡ record { answer = (act c s).answer ∷ []; state = (act c s).state }
  unfolding act_all and_then
  acts-one c s = both (ends_job (act c s).answer) (λ t. rw t refl) (λ t. rw t refl)

-- ---- the steps of one bit more

range-append : (a n j : ℕ) → range a (n + j) ≡ range a n ++ range (a + n) j
range-append a zero j =
    let e : 0 + j ≡ j = omega arith in
    let f : a ≡ a + 0 = omega arith in
    ap (range a) e ∙ ap (λ (k : ℕ). range k j) f
range-append a (suc n) j =
    let e : suc n + j ≡ suc (n + j) = omega arith in
    let f : suc a + n ≡ a + suc n = omega arith in
    ap (range a) e
    ∙ ap (λ (l : List ℕ). a ∷ l) (range-append (suc a) n j ∙ ap (λ (k : ℕ). range (suc a) n ++ range k j) f)

-- the bits below k, then j more
pub range_split : (k j : ℕ) → range 0 (k + j) ≡ range 0 k ++ range k j
range_split k j = range-append 0 k j ∙ ap (λ (i : ℕ). range 0 k ++ range i j) (let e : 0 + k ≡ k = omega arith in e)

module _ (bs : List ℕ) (at : ℕ) where
  -- the steps of some bits, as steps of the ledger
  abbrev steps_of : List ℕ → List Step
  steps_of ks = map as_step (steps_at bs at ks)

  steps-append : (js ks : List ℕ) → steps_of (js ++ ks) ≡ steps_of js ++ steps_of ks
  unfolding steps_at
  steps-append [] ks = refl
  steps-append (j ∷ js) ks = go (has bs at j) (steps-append js ks)
    where
      go : (b : Bool) → steps_of (js ++ ks) ≡ steps_of js ++ steps_of ks
          → map as_step (cons_if b (step_at bs at j) (steps_at bs at (js ++ ks)))
          ≡ map as_step (cons_if b (step_at bs at j) (steps_at bs at js)) ++ steps_of ks
      go true e = ap (λ (ss : List Step). as_step (step_at bs at j) ∷ ss) e
      go false e = e

  steps-more : (k : ℕ) → steps_of (range 0 (suc k))
      ≡ steps_of (range 0 k) ++ map as_step (cons_if (has bs at k) (step_at bs at k) [])
  steps-more k =
      ap (λ (n : ℕ). steps_of (range 0 n)) (sym (add-one k)) ∙ ap (λ (ks : List ℕ). steps_of ks) (range_split k 1)
      ∙ steps-append (range 0 k) (k ∷ []) ∙ unfold steps_at in refl

  module _ (r : Room) (m : Lent) (k : ℕ) where
    -- the bit is not set
    pub ran-unset : has bs at k ≡ false → ran_to r bs at (suc k) m ≡ ran_to r bs at k m
    ran-unset e =
        ap (λ (ss : List Step). act_all (step_on r) ss m)
        (steps-more k ∙ ap (λ (b : Bool). steps_of (range 0 k) ++ map as_step (cons_if b (step_at bs at k) [])) e
        ∙ append-nil (steps_of (range 0 k)))

    -- the job has ended
    pub ran-ended : any ends_job (ran_to r bs at k m).answer ≡ true → ran_to r bs at (suc k) m ≡ ran_to r bs at k m
    ran-ended e =
        ap (λ (ss : List Step). act_all (step_on r) ss m) (steps-more k)
        ∙ acts-ended (step_on r) (steps_of (range 0 k)) _ m e

    -- the bit's step is run
    pub ran-more : has bs at k ≡ true → any ends_job (ran_to r bs at k m).answer ≡ false
        → ran_to r bs at (suc k) m
        ≡ record {
          answer =
              (ran_to r bs at k m).answer ++ ((step_on r (as_step (step_at bs at k)) (ran_to r bs at k m).state).answer ∷ []);
          state = (step_on r (as_step (step_at bs at k)) (ran_to r bs at k m).state).state;
        }
    ran-more e f =
        ap (λ (ss : List Step). act_all (step_on r) ss m)
        (steps-more k ∙ ap (λ (b : Bool). steps_of (range 0 k) ++ map as_step (cons_if b (step_at bs at k) [])) e)
        ∙ acts-on (step_on r) (steps_of (range 0 k)) (as_step (step_at bs at k) ∷ []) m f
        ∙ ap (λ (b : After (List Answer) Lent).
        record { answer = (ran_to r bs at k m).answer ++ b.answer; state = b.state })
        (acts-one (step_on r) (as_step (step_at bs at k)) (ran_to r bs at k m).state)

  -- where the job has not ended, each bit that is set has its answer
  pub ran-length : (r : Room) (m : Lent) (k : ℕ) → any ends_job (ran_to r bs at k m).answer ≡ false
      → length (ran_to r bs at k m).answer ≡ set_below (has bs at) k
  unfolding set_below
  ran-length r m zero h = unfold steps_at act_all in refl
  ran-length r m (suc k) h =
      both (any ends_job (ran_to r bs at k m).answer)
      (λ e. clash (ap (λ (a : After (List Answer) Lent). any ends_job a.answer) (ran-ended r m k e) ∙ e) h)
      (λ e.
      let count = ran-length r m k e in
      both (has bs at k)
      (λ o. rw (ran-more r m k o e, o) (simp length-append (omega arith)))
      (λ o. rw (ran-unset r m k o, o) (omega arith)))

  -- there are never more answers than bits that are set
  pub ran-few : (r : Room) (m : Lent) (k : ℕ) → length (ran_to r bs at k m).answer ≤ set_below (has bs at) k
  unfolding set_below
  ran-few r m zero = unfold steps_at act_all in omega arith
  ran-few r m (suc k) =
      both (any ends_job (ran_to r bs at k m).answer)
      (λ e. rw (ran-ended r m k e) (omega (arith, ran-few r m k)))
      (λ e.
      both (has bs at k)
      (λ o. rw (ran-more r m k o e, o) (simp length-append (omega (arith, ran-few r m k))))
      (λ o. rw (ran-unset r m k o, o) (omega (arith, ran-few r m k))))

  -- the answers from the one of bit k on, where it has one, are those of the bits from k on
  pub ran-from : (r : Room) (m : Lent) (k j : ℕ) (x : Answer) (rest : List Answer)
      → drop (set_below (has bs at) k) (ran_to r bs at (k + j) m).answer ≡ x ∷ rest
      → ((ran_to r bs at (k + j) m).answer ≡ (ran_to r bs at k m).answer ++ (x ∷ rest))
      × ((act_all (step_on r) (map as_step (steps_at bs at (range k j))) (ran_to r bs at k m).state).answer ≡ x ∷ rest)
  ran-from r m k j x rest h =
      let xs : List Step = steps_of (range 0 k) in
      let ys : List Step = steps_of (range k j) in
      let split : ran_to r bs at (k + j) m ≡ act_all (step_on r) (xs ++ ys) m =
      ap (λ (ss : List Step). act_all (step_on r) ss m)
      (ap (λ (ks : List ℕ). steps_of ks) (range_split k j) ∙ steps-append (range 0 k) (range k j)) in
      both (any ends_job (ran_to r bs at k m).answer)
      (λ e.
      let same = split ∙ acts-ended (step_on r) xs ys m e in
      let gone : drop (set_below (has bs at) k) (ran_to r bs at (k + j) m).answer ≡ [] =
      ap (λ (a : After (List Answer) Lent). drop (set_below (has bs at) k) a.answer) same
      ∙ drop_of_length-le (ran_to r bs at k m).answer (ran-few r m k) in
      absurd (let z = ap length (sym gone ∙ h) in omega arith))
      (λ e.
      let later : List Answer = (act_all (step_on r) ys (ran_to r bs at k m).state).answer in
      let whole : (ran_to r bs at (k + j) m).answer ≡ (ran_to r bs at k m).answer ++ later =
      ap (λ (a : After (List Answer) Lent). a.answer) (split ∙ acts-on (step_on r) xs ys m e) in
      let is : later ≡ x ∷ rest =
      sym (drop_at (ran_to r bs at k m).answer later (set_below (has bs at) k) (ran-length r m k e))
      ∙ ap (drop (set_below (has bs at) k)) (sym whole) ∙ h in
      (whole ∙ ap (λ (l : List Answer). (ran_to r bs at k m).answer ++ l) is, is))
