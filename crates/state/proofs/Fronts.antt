-- Zeros in a part of a list.
use Prim.Native.Nat.{ℕ, ◌+◌, ◌-◌, ◌≤◌, ◌<◌}
use native.Mathlib.Omega.{arith}
use mathlib.Core.Path.{◌≡◌, sym, ap, ◌∙◌}
use mathlib.Core.List.{List}
use mathlib.Core.Bool.{Bool, true, false}
use lib.ListN.{length, get_or, take, drop, length-take, length-drop}
use lib.Seq.{get_or-drop, get_or-take}
use Rattle.std.specs.Bool.{MatchBool}
use Rattle.std.specs.List.{AllWithin, HoldsAt}
use Rattle.strips.specs.Decided.{Decided}
use Rattle.state.specs.Tests.{Zeros}

module _ (l : List ℕ) (a b : ℕ) (p : a ≤ b) (q : b ≤ length l) where
  part : List ℕ
  part = take (b - a) (drop a l)

  at : (i : ℕ) → i < b - a → get_or part i 0 ≡ get_or l (a + i) 0
  unfolding part
  at i h = get_or-take (b - a) (drop a l) i 0 h ∙ get_or-drop a l i 0

  -- by the numbers of the part
  pub told-zeros : (r : Bool)
      → MatchBool r (AllWithin (λ x. x ≡ 0) (take (b - a) (drop a l)) 0 (length (take (b - a) (drop a l))))
      ((k : ℕ) × (k < length (take (b - a) (drop a l))) × HoldsAt (λ x. x ≡ 0 → ⊥) (take (b - a) (drop a l)) k)
      → Decided (Zeros l a b) r
  unfolding part
  told-zeros true h =
      record {
        zero-at = λ k u v.
            let e : a + (k - a) ≡ k = omega arith in
            ap (λ (i : ℕ). get_or l i 0) (sym e) ∙ sym (at (k - a) (omega arith))
            ∙ h (k - a) 0 (omega arith) (omega (arith, length-take (b - a) (drop a l), length-drop a l));
      }
  told-zeros false (k, v, n) =
      λ z.
      let s : k < b - a = omega (arith, length-take (b - a) (drop a l), length-drop a l) in
      n 0 (at k s ∙ z.zero-at (a + k) (omega arith) (omega arith))
