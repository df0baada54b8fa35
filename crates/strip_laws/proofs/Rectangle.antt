-- A strip is a rectangle of free points, and free points side by side on a row are in one strip.
use Prim.Native.Nat.{ℕ, pred, ◌≤◌, ◌<◌, min, max}
use native.Mathlib.Omega.{arith}
use mathlib.Core.Path.{◌≡◌}
use mathlib.Core.Bool.{Bool, true}
use mathlib.Core.Logic.{⊎_elim}
use Rattle.foil_spec.specs.Foil.{Point, point}
use Rattle.foil_spec.specs.Strips.{row_of, Strip, strips, holds}
use Rattle.list_laws.proofs.Tests.{clash, lt-or-le}
use Rattle.list_laws.proofs.Members.{In}
use Rattle.strip_laws.specs.Rules.{columns, IsRun, IsStrip}
use Rattle.strip_laws.proofs.Strips.{Held, of-holds, to-holds}
use Rattle.strip_laws.proofs.Laws.{listed-strip, only-free}

module _ (f : ℕ → ℕ → Bool) (W H : ℕ) (s : Strip) (listed : In s (strips f W H)) where
  -- two points of a strip span a rectangle of free points
  pub free-between : (p q : Point) → holds p s ≡ true → holds q s ≡ true → (x y : ℕ)
      → min p.x q.x ≤ x → x ≤ max p.x q.x → min p.y q.y ≤ y → y ≤ max p.y q.y → f x y ≡ true
  free-between p q hp hq x y a b c d =
      let j : Held p s = of-holds p s hp in
      let k : Held q s = of-holds q s hq in
      (only-free f W H (point x y) s listed
      (to-holds (point x y) s
      (record {
        right = omega (arith, j.right, k.right);
        left = omega (arith, j.left, k.left);
        below = omega (arith, j.below, k.below);
        above = omega (arith, j.above, k.above);
      }))).2

  -- from a point of the strip along free points of its row to another column
  pub same-strip : (x y c : ℕ) → holds (point x y) s ≡ true → c < W
      → ((k : ℕ) → min x c ≤ k → k ≤ max x c → f k y ≡ true) → holds (point c y) s ≡ true
  same-strip x y c h inside free =
      let k : Held (point x y) s = of-holds (point x y) s h in
      let a : IsStrip f W H s = listed-strip f W H s listed in
      let r : IsRun (row_of f y) W (columns s) = a.are-runs y k.below k.above in
      let begins = k.right in
      let ends = k.left in
      let from : s.x0 ≤ c =
      ⊎_elim
      (λ (l : c < s.x0).
      ⊎_elim (λ e. absurd (omega arith)) (λ e. clash (free (pred s.x0) (omega arith) (omega arith)) e) r.left)
      (λ (l : s.x0 ≤ c). l)
      (lt-or-le c s.x0) in
      let to : c < s.x1 =
      ⊎_elim
      (λ (l : c < s.x1). l)
      (λ (l : s.x1 ≤ c).
      ⊎_elim (λ e. absurd (omega arith)) (λ e. clash (free s.x1 (omega arith) (omega arith)) e) r.right)
      (lt-or-le c s.x1) in
      to-holds (point c y) s (record { right = from; left = to; below = k.below; above = k.above })
