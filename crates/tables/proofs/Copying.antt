-- A list copied to another that is as long, one number a turn.
use Prim.Native.Nat.{ℕ, ◌+◌, ◌≤◌, ◌<◌}
use native.Mathlib.Omega.{arith}
use native.Mathlib.Nat.{zero-add}
use native.Mathlib.Numerals.{add-one}
use mathlib.Core.Path.{◌≡◌, refl, sym, ap, ap₂, ◌∙◌}
use mathlib.Core.List.{List, ◌++◌, append-nil}
use lib.ListN.{length, get_or, set, length-set}
use lib.Seq.{paste, paste-zero, paste-suc, take_all}
use Rattle.std.proofs.lemmas.List.{drop_all}

paste-whole : (d s : List ℕ) (n : ℕ) → n ≡ length s → n ≡ length d → paste d 0 s n ≡ s
paste-whole d s n e f =
    ap₂ (λ (x y : List ℕ). x ++ y) (take_all n s (omega arith)) (drop_all (0 + n) d (omega arith)) ∙ append-nil s

-- the first i numbers of s stand at the front of what was d
pub record Copied (d s : List ℕ) (n : ℕ) (l : List ℕ) (i : ℕ) : Type 0 where
  pub le : i ≤ n
  pub is : l ≡ paste d 0 s i
  pub same : length l ≡ length d

module _ (d s : List ℕ) (n : ℕ) where
  pub copied_none : Copied d s n d 0
  copied_none = record { le = omega arith; is = paste-zero d 0 s; same = refl }

  pub copied_more : (l : List ℕ) (i : ℕ) → i < n → n ≤ length d → n ≤ length s → Copied d s n l i
      → Copied d s n (set l i (get_or s i 0)) (i + 1)
  copied_more l i h ld ls c =
      let e : i ≡ 0 + i = sym (zero-add i) in
      let b : 0 + i < length d = omega arith in
      record {
        le = omega arith;
        is =
            ap (λ (x : List ℕ). set x i (get_or s i 0)) c.is
            ∙ ap (λ (k : ℕ). set (paste d 0 s i) k (get_or s i 0)) e
            ∙ paste-suc d 0 s i 0 b (omega arith)
            ∙ ap (paste d 0 s) (sym (add-one i));
        same = length-set l i (get_or s i 0) ∙ c.same;
      }

  pub copied_all : (l : List ℕ) (i : ℕ) → n ≡ length s → length d ≡ n → n ≤ i → Copied d s n l i → l ≡ s
  copied_all l i e f h c =
      c.is ∙ paste-whole d s i (omega (arith, c.le)) (omega (arith, c.le))
