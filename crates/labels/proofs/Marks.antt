-- Laws of the marks: where, on each line, labels are.
use Prim.Native.Nat.{ℕ, zero, suc, ◌+◌, ◌-◌, ◌*◌, ◌≤◌, ◌<◌}
use native.Mathlib.Omega.{arith}
use native.Mathlib.Decide.{dec_lt}
use mathlib.Core.Path.{◌≡◌, sym, ◌∙◌}
use mathlib.Core.List.{List, [], ◌∷◌}
use Rattle.std.specs.List.{fold, sum, slice_range}
use Rattle.std.proofs.lemmas.List.{length-take-le, length-drop, get_or-take, get_or-drop}
use lib.ListN.{get_or, length, drop, replicate}
use borrow.Author.Count.{below_more}
use Rattle.grid.specs.Size.{stride}
use Rattle.grid.proofs.Marking.{blank}
use Rattle.runs.specs.Line.{along}
use Rattle.labels.specs.Pass.{Spans, Marks, Marked, Widened, NextNew, Summed}

-- fresh marks span nothing
pub no-marks : (size n : ℕ) → Marks (replicate size 0) n
no-marks size n =
    record { from = λ i. omega (arith, blank size (2 * i)); to = λ i. omega (arith, blank size (2 * i + 1)) }

pub next-less : {lab : List ℕ} {line at end v r : ℕ} (k : ℕ) → k < at → k < end → NextNew lab line at end v r →
    end - r < end - k
next-less {end = end} {r = r} k a b N = pick (dec_lt r end)
  where
    pick : Dec (r < end) → end - r < end - k
    pick (yes y) = omega (arith, (N.found y).0)
    pick (no y) = omega arith

-- Sums of numbers that are 1 at most: they count those that are not 0.
Ones : List ℕ → Type 0
Ones xs = (k : ℕ) → k < length xs → get_or xs k 0 ≤ 1

ones-few : (xs : List ℕ) (a : ℕ) → Ones xs →
    (a ≤ fold (λ a x. a + x) a xs) × (fold (λ a x. a + x) a xs ≤ a + length xs)
unfolding Ones
ones-few [] a o = (omega arith, omega arith)
ones-few (x ∷ xs) a o =
    let e = o 0 (omega arith) in
    let r = ones-few xs (a + x) (λ k l. o (suc k) (omega arith)) in (omega (arith, r.0), omega (arith, r.1))

ones-none : (xs : List ℕ) (a : ℕ) → Ones xs → fold (λ a x. a + x) a xs ≡ 0 → (k : ℕ) → k < length xs → get_or xs k 0 ≡ 0
unfolding Ones
ones-none [] a o e k l = absurd (omega arith)
ones-none (x ∷ xs) a o e zero l =
    let r = ones-few xs (a + x) (λ k l. o (suc k) (omega arith)) in omega (arith, r.0)
ones-none (x ∷ xs) a o e (suc k) l = ones-none xs (a + x) (λ k l. o (suc k) (omega arith)) e k (omega arith)

-- the first n labels of a line
abbrev front : List ℕ → ℕ → ℕ → List ℕ
front lab line n = slice_range lab (line * stride) (line * stride + n)

module _ (lab : List ℕ) (line n : ℕ) (fit : line * stride + n ≤ length lab)
    (o : (k : ℕ) → k < n → along lab line k ≤ 1) where
  front-length : length (front lab line n) ≡ n
  front-length = length-take-le (line * stride + n - line * stride) (drop (line * stride) lab)
      (omega (arith, length-drop (line * stride) lab)) ∙ omega arith

  front-at : (k : ℕ) → k < n → get_or (front lab line n) k 0 ≡ along lab line k
  front-at k l = get_or-take (line * stride + n - line * stride) (drop (line * stride) lab) k 0 (omega arith)
      ∙ get_or-drop (line * stride) lab k 0

  front-ones : Ones (front lab line n)
  unfolding Ones
  front-ones k l = let e = front-length in
      let le : k < n = omega arith in omega (arith, front-at k le, o k le)

  pub sum-few : sum (front lab line n) ≤ n
  sum-few = omega (arith, (ones-few (front lab line n) 0 front-ones).1, front-length)

  pub summed : {s : ℕ} → s ≡ sum (front lab line n) → Summed lab line n s
  summed e =
      record {
        le = omega (arith, sum-few);
        none = λ z k l.
            let f = front-length in
            sym (front-at k l) ∙ ones-none (front lab line n) 0 front-ones (sym e ∙ z) k (omega arith);
      }

pub marked_more : {t t' lab : List ℕ} {m n s : ℕ} → Summed lab m n s → Widened m 0 n s t t' → Marked t m n lab 1 →
    Marked t' (m + 1) n lab 1
marked_more {t} {t'} {lab} {m} {n} {s} S W M =
    record {
      fit = W.marks n (omega arith) M.fit;
      whole = below_more (λ i. (k : ℕ) → k < n → along lab i k ≡ 1 → Spans t' i k) m
          (λ i li k lk e. W.old i k (M.whole i li k lk e))
          (λ k lk e. W.new (λ z. let none = S.none z k lk in omega arith) k (omega arith) lk);
    }
