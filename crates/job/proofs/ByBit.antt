-- What each bit told, where one bit more has told something.
use Prim.Native.Nat.{ℕ, zero, suc, ◌≤◌, ◌<◌}
use native.Mathlib.Omega.{arith}
use mathlib.Core.Path.{◌≡◌, refl, sym, ap, ◌∙◌, fun_ext}
use mathlib.Core.Bool.{Bool, true}
use mathlib.Core.List.{List, [], ◌∷◌, ◌++◌}
use mathlib.Core.Logic.{by_cases, ⊎_elim}
use native.Mathlib.Decide.{ℕ_discrete}
use borrow.Author.Tests.{eq-eqb, ne_eqb}
use lib.ListN.{length, drop}
use Rattle.foil_spec.specs.Ledger.{Answer}
use Rattle.foil_spec.specs.Job.{step_bits}
use Rattle.std.specs.Prelude.{Some, None}
use Rattle.foil.specs.Contract.{answer_of}
use Rattle.foil.specs.Contract.{Answer as Answered}
use Rattle.list_laws.proofs.Tests.{both, lt-or-le}
use Rattle.job.specs.Contract.{set_below, said_at, told_at, by_bit, told_by_bits, answers_of}
use Rattle.job.specs.Parts.{told_with_more, ToldMore}
use Rattle.job.specs.declared.Answers.{Answers}

-- ---- before any step

told_none : (on : ℕ → Bool) (k : ℕ) → None ≡ told_at on [] k
unfolding told_at said_at
told_none on k = both (on k) (λ e. rw e refl) (λ e. rw e refl)

pub none_told : (on : ℕ → Bool)
    → record { board = None; patch = None; track = None; lift = None; leg = None } ≡ answers_of on []
unfolding answers_of by_bit
none_told on =
    λ i. record {
      board = told_none on 0 i;
      patch = told_none on 1 i;
      track = told_none on 2 i;
      lift = told_none on 3 i;
      leg = told_none on 4 i;
    }

-- ---- the answer of one step more

said-last : (given : List Answer) (a : Answer) → said_at (given ++ (a ∷ [])) (length given) ≡ Some (answer_of a)
unfolding said_at
said-last [] a = refl
said-last (x ∷ given) a = said-last given a

said-other : (given : List Answer) (a : Answer) (i : ℕ) → (i ≡ length given → ⊥)
    → said_at (given ++ (a ∷ [])) i ≡ said_at given i
unfolding said_at
said-other [] a zero h = absurd (h refl)
said-other [] a (suc i) h = refl
said-other (x ∷ given) a zero h = refl
said-other (x ∷ given) a (suc i) h = said-other given a i (λ e. h (ap suc e))

below-rises : (on : ℕ → Bool) (j k : ℕ) → on j ≡ true → j < k → set_below on j < set_below on k
unfolding set_below
below-rises on j zero e h = absurd (omega arith)
below-rises on j (suc k) e h =
    ⊎_elim
    (λ (l : j < k). omega (arith, below-rises on j k e l))
    (λ (l : k ≤ j). let q : j ≡ k = omega arith in rw (sym q, e) (omega arith))
    (lt-or-le j k)

module _ (on : ℕ → Bool) (given : List Answer) (k : ℕ) (a : Answer) (set : on k ≡ true)
    (count : length given ≡ set_below on k) where
  told_more : (j : ℕ) → told_with_more (told_at on given) k (Some (answer_of a)) j ≡ told_at on (given ++ (a ∷ [])) j
  unfolding told_with_more told_at
  told_more j =
      by_cases (ℕ_discrete j k)
      (λ e. rw (eq-eqb j k e, e, set, ← count) (sym (said-last given a)))
      (λ ne.
      rw (ne_eqb j k ne)
      (both (on j)
      (λ o.
      let other : set_below on j ≡ length given → ⊥ =
      λ q.
      ⊎_elim
      (λ (l : j < k). omega (arith, below-rises on j k o l, count))
      (λ (l : k ≤ j). omega (arith, below-rises on k j set (omega arith), count))
      (lt-or-le j k) in
      rw o (sym (said-other given a (set_below on j) other)))
      (λ o. rw o refl)))

  pub answers-more : (old new : Answers) → old ≡ answers_of on given → ToldMore old k (Some (answer_of a)) new
      → new ≡ answers_of on (given ++ (a ∷ []))
  unfolding answers_of
  answers-more old new e t = t.is (told_at on given) e ∙ ap by_bit (fun_ext told_more)

-- ---- the answer that a bit told

pub said-none : (given : List Answer) (i : ℕ) → drop i given ≡ [] → said_at given i ≡ None
unfolding said_at
said-none [] i e = refl
said-none (x ∷ given) zero e = absurd (let z = ap length e in omega arith)
said-none (x ∷ given) (suc i) e = said-none given i e

pub said_here : (given : List Answer) (i : ℕ) (x : Answer) (rest : List Answer) → drop i given ≡ x ∷ rest
    → said_at given i ≡ Some (answer_of x)
unfolding said_at
said_here [] zero x rest e = absurd (let z = ap length e in omega arith)
said_here [] (suc i) x rest e = absurd (let z = ap length e in omega arith)
said_here (y ∷ given) zero x rest e = let q : y ≡ x = cc in ap (λ (z : Answer). Some (answer_of z)) q
said_here (y ∷ given) (suc i) x rest e = said_here given i x rest e

-- it is the first of those that are left after the bits below
pub record SaidBy (on : ℕ → Bool) (given : List Answer) (k : ℕ) (y : Answered) : Type 0 where
  pub set : on k ≡ true
  pub answer : Answer
  pub rest : List Answer
  pub from : drop (set_below on k) given ≡ answer ∷ rest
  pub is : answer_of answer ≡ y

said-by : (given : List Answer) (i : ℕ) (y : Answered) → said_at given i ≡ Some y
    → (x : Answer) × (rest : List Answer) × (drop i given ≡ x ∷ rest) × (answer_of x ≡ y)
unfolding said_at
said-by [] i y e = absurd (let z : ◌≡◌ {A = ℕ} 0 1 = cc in omega arith)
said-by (x ∷ given) zero y e = (x, given, refl, cc)
said-by (x ∷ given) (suc i) y e = said-by given i y e

pub told-by : (on : ℕ → Bool) (given : List Answer) (k : ℕ) (y : Answered) → told_at on given k ≡ Some y
    → SaidBy on given k y
unfolding told_at
told-by on given k y e =
    both (on k)
    (λ o.
    let s = said-by given (set_below on k) y (rw o at e) in
    record { set = o; answer = s.0; rest = s.1; from = s.2; is = s.3 })
    (λ o. absurd (let f : None ≡ Some y = rw o at e in let z : ◌≡◌ {A = ℕ} 0 1 = cc in omega arith))

-- ---- a bit's field

pub told_in : (on : ℕ → Bool) (given : List Answer) (k : ℕ) → k < step_bits
    → told_by_bits (answers_of on given) k ≡ told_at on given k
unfolding told_by_bits answers_of by_bit
told_in on given zero h = refl
told_in on given (suc zero) h = refl
told_in on given (suc (suc zero)) h = refl
told_in on given (suc (suc (suc zero))) h = refl
told_in on given (suc (suc (suc (suc zero)))) h = refl
told_in on given (suc (suc (suc (suc (suc k))))) h = absurd (omega arith)
