-- Boxes that have no point in common with a target box need not be tried for its points.
use Prim.Native.Nat.{ℕ, ◌+◌}
use native.Mathlib.Omega.{arith}
use mathlib.Core.Path.{◌≡◌, refl, sym, ap, ◌∙◌, subst}
use mathlib.Core.Bool.{Bool, true, false, not, ◌&&◌, ◌||◌, or-false}
use mathlib.Core.List.{List}
use lib.ListN.{get_or}
use borrow.Author.Tests.{lt-ltb}
use Rattle.foil_spec.specs.Foil.{Entry}
use Rattle.foil_spec.specs.Lent.{entry_at}
use Rattle.list_laws.proofs.Tests.{both, clash, and_l, and_r}
use Rattle.zones.specs.Boxes.{inside, covers}
use Rattle.zones.proofs.Free.{of-inside}
use Rattle.grid.specs.Extent.{turned}
use Rattle.sowing.specs.Seeds.{boxed, overlap, Enough, clear_at, aimed_one, Sows}
use Rattle.sowing.proofs.Boxed.{boxed-more}
use Rattle.sowing.proofs.Seeds.{sows-same}

-- ---- two boxes

module _ (a b : Entry) where
  -- a point in both
  shared : (x y : ℕ) → covers a x y ≡ true → covers b x y ≡ true → overlap a b ≡ true
  unfolding covers overlap
  shared x y h k =
      let p = of-inside a.x0 a.x1 x (and_l _ _ h) in
      let q = of-inside a.y0 a.y1 y (and_r (inside a.x0 a.x1 x) _ h) in
      let u = of-inside b.x0 b.x1 x (and_l _ _ k) in
      let v = of-inside b.y0 b.y1 y (and_r (inside b.x0 b.x1 x) _ k) in
      simp (
        lt-ltb a.x0 b.x1 (omega (arith, p, u)),
        lt-ltb b.x0 a.x1 (omega (arith, p, u)),
        lt-ltb a.y0 b.y1 (omega (arith, q, v)),
        lt-ltb b.y0 a.y1 (omega (arith, q, v)),
      )

  -- the points of one are none of the other's
  missed : overlap a b ≡ false → (upright : Bool) (x y : ℕ) → turned upright (covers b) x y ≡ true
      → turned upright (covers a) x y ≡ false
  missed o false x y h = both (covers a x y) (λ t. clash (shared x y t h) o) (λ f. f)
  missed o true x y h = both (covers a y x) (λ t. clash (shared y x t h) o) (λ f. f)

-- ---- the boxes of a table, from the last one down

module _ (n : ℕ) (z : List ℕ) (e : Entry) where
  pub enough-less : (k j : ℕ) → k ≡ j + 1 → (a : Entry) → a ≡ entry_at z j → (r : Bool) → r ≡ overlap a e → r ≡ false
      → Enough n z e k → Enough n z e j
  enough-less k j q a a-is r is clear E =
      record {
        le = omega (arith, E.le);
        same = λ upright x y h.
            sym
            (boxed-more z upright x y j
            ∙ ap (λ (b : Bool). boxed j z upright x y || b) (missed (entry_at z j) e apart upright x y h)
            ∙ or-false (boxed j z upright x y))
            ∙ ap (λ (m : ℕ). boxed m z upright x y) (sym q)
            ∙ E.same upright x y h;
      }
    where
      apart : overlap (entry_at z j) e ≡ false
      apart = ap (λ (b : Entry). overlap b e) (sym a-is) ∙ sym is ∙ clear

-- the crossings of a target box are left free by the boxes that are enough for it just if they are by all
pub near-sown : (n : ℕ) (z : List ℕ) (e : Entry) (upright : Bool) (lines cross : List ℕ) {m c r : ℕ}
    {l₀ w₀ l w : List ℕ} {a : Entry} → a ≡ e → Enough n z a r
    → Sows (aimed_one r z e upright lines cross) m c l₀ w₀ l w
    → Sows (aimed_one n z e upright lines cross) m c l₀ w₀ l w
unfolding aimed_one clear_at
near-sown n z e upright lines cross {r = r} a-is E S =
    sows-same
    (λ i li k lk.
    both (turned upright (covers e) (get_or cross k 0) (get_or lines i 0))
    (λ t.
    ap (λ (b : Bool). turned upright (covers e) (get_or cross k 0) (get_or lines i 0) && not b)
    (sym ((subst (λ (a : Entry). Enough n z a r) a-is E).same upright (get_or cross k 0) (get_or lines i 0) t)))
    (λ f. rw f refl))
    S
