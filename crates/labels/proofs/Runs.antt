-- Laws of runs that get labels: each crossing without a label gets one.
use Prim.Native.Nat.{ℕ, zero, suc, ◌+◌, ◌*◌, ◌≤◌, ◌<◌}
use native.Mathlib.Nat.{add-zero}
use native.Mathlib.Omega.{arith}
use native.Mathlib.Numerals.{add-one}
use mathlib.Core.Path.{◌≡◌, refl, sym, ◌∙◌}
use mathlib.Core.Logic.{◌≢◌}
use mathlib.Core.List.{List, [], ◌∷◌}
use lib.ListN.{get_or, set, length, length-set}
use lib.Seq.{get_or-set_same, get_or-set_other}
use borrow.Author.Count.{below_more}
use Rattle.grid.specs.Size.{stride}
use Rattle.runs.specs.Line.{along}
use Rattle.labels.specs.Pass.{zeros, CellFilled, stays, puts, Fill, held, fresh, RunFilled}

-- Places without a label.
pub zeros-set : (l : List ℕ) (i v : ℕ) → i < length l → get_or l i 0 ≡ 0 → zeros (set l i (v + 1)) + 1 ≡ zeros l
unfolding zeros
zeros-set [] i v h e = absurd (omega arith)
zeros-set (zero ∷ l) zero v h e = simp add-one
zeros-set (suc x ∷ l) zero v h e = absurd (omega arith)
zeros-set (zero ∷ l) (suc i) v h e = let r = zeros-set l i v (omega arith) e in omega arith
zeros-set (suc x ∷ l) (suc i) v h e = zeros-set l i v (omega arith) e

pub zeros-le : (l : List ℕ) → zeros l ≤ length l
unfolding zeros
zeros-le [] = omega arith
zeros-le (zero ∷ l) = let h = zeros-le l in omega arith
zeros-le (suc x ∷ l) = let h = zeros-le l in omega arith

-- The labels of a run.
fill-eq : {v a b a' b' : ℕ} → a ≡ a' → b ≡ b' → Fill v a b → Fill v a' b'
fill-eq p q h = rw (← p, ← q) h

module _ {line lo k v : ℕ} {l₀ l : List ℕ} {c : ℕ} (R : RunFilled line lo k v l₀ l c) where
  filled-stays : along l line k ≢ 0 → RunFilled line lo (k + 1) v l₀ l c
  filled-stays x = record {
    size = R.size;
    fill = below_more (λ j. lo ≤ j → Fill v (along l₀ line j) (along l line j)) k R.fill
        (λ p. fill-eq (R.high (line * stride + k) (omega arith)) refl (held x));
    low = R.low;
    high = λ i p. R.high i (omega arith);
    count = R.count;
    same = R.same;
    new = λ e. let w = R.new e in (w.0, w.1, omega (arith, w.2), w.3);
  }

  pub filled-puts : line * stride + k < length l₀ → lo ≤ k → along l line k ≡ 0 →
      RunFilled line lo (k + 1) v l₀ (set l (line * stride + k) (v + 1)) (c + 1)
  filled-puts fit p z =
      let s = R.size in
      let at = line * stride + k in
      record {
        size = length-set l at (v + 1) ∙ s;
        fill = below_more (λ j. lo ≤ j → Fill v (along l₀ line j) (along (set l at (v + 1)) line j)) k
            (λ j a b.
            fill-eq refl (sym (get_or-set_other l at (line * stride + j) (v + 1) 0 (omega arith))) (R.fill j a b))
            (λ a. fill-eq (sym z ∙ R.high at (omega arith)) (sym (get_or-set_same l at (v + 1) 0 (omega arith))) fresh);
        low = λ i a. get_or-set_other l at i (v + 1) 0 (omega arith) ∙ R.low i a;
        high = λ i a. get_or-set_other l at i (v + 1) 0 (omega arith) ∙ R.high i (omega arith);
        count = omega (arith, zeros-set l at v (omega arith) z, R.count);
        same = λ e. absurd (omega arith);
        new = λ e. (k, p, omega arith, sym (R.high at (omega arith)) ∙ z);
      }

-- crossing after crossing
pub filled_more : {line lo k v : ℕ} {l₀ l l' : List ℕ} {c d : ℕ} → line * stride + k < length l₀ → lo ≤ k →
    RunFilled line lo k v l₀ l c → CellFilled line k v l l' d → RunFilled line lo (k + 1) v l₀ l' (c + d)
filled_more {line} {lo} {k} {v} {l₀} {l} {l'} {c} fit le R (stays x) =
    rw (add-zero c) (filled-stays R x)
filled_more fit le R (puts z) = filled-puts R fit le z

pub cell-few : {line k v : ℕ} {l l' : List ℕ} {c : ℕ} → CellFilled line k v l l' c → c ≤ 1
cell-few (stays x) = omega arith
cell-few (puts x) = omega arith
