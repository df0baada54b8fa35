-- What is free: a point is free where it is on the foil, not too near its edge, and no entry, widened by the rule, or
-- no box has it; so each law of `free_by` and of `box_free` is one of a test of places below n.
use Prim.Native.Nat.{ℕ, zero, suc, ◌+◌, ◌≤◌, ◌<◌}
use native.Mathlib.Omega.{arith}
use mathlib.Core.Path.{◌≡◌, refl, ap, ap₂, sym, ◌∙◌}
use mathlib.Core.Bool.{Bool, true, false, not, ◌&&◌}
use mathlib.Core.List.{List, [], map}
use lib.Dec.{leb, ltb}
use borrow.Author.Tests.{le-leb, lt-ltb, lt-leb, le-ltb, leb-true, leb-false, ltb-true, ltb-false}
use Rattle.foil_spec.specs.Lists.{range, all}
use Rattle.foil_spec.specs.Foil.{Entry, Pen, Rule, Layout, within, blocks, pen_rule, margin, near_edge, free_by, free}
use Rattle.foil_spec.specs.Lent.{entry_at}
use Rattle.list_laws.proofs.Tests.{both, clash, and_l, and_r, and_i, and-no-r, or_l, or_r, not_f, not_t, parts}
use Rattle.list_laws.proofs.Members.{all-places, at_place}
use Rattle.zones.specs.Boxes.{inside, covers, box_free, Covered}

-- ---- along one axis

module _ (lo hi d v : ℕ) where
  pub within-yes : lo ≤ v + d → v < hi + d → within lo hi d v ≡ true
  unfolding within
  within-yes a b = and_i (le-leb lo (v + d) a) (lt-ltb v (hi + d) b)

  pub within-below : v + d < lo → within lo hi d v ≡ false
  unfolding within
  within-below a = simp (lt-leb lo (v + d) a)

  pub within-above : hi + d ≤ v → within lo hi d v ≡ false
  unfolding within
  within-above b = and-no-r (leb lo (v + d)) _ (le-ltb v (hi + d) b)

module _ (lo hi v : ℕ) where
  pub inside-yes : lo ≤ v → v < hi → inside lo hi v ≡ true
  unfolding inside
  inside-yes a b = and_i (le-leb lo v a) (lt-ltb v hi b)

  pub inside-below : v < lo → inside lo hi v ≡ false
  unfolding inside
  inside-below a = simp (lt-leb lo v a)

  pub inside-above : hi ≤ v → inside lo hi v ≡ false
  unfolding inside
  inside-above b = and-no-r (leb lo v) _ (le-ltb v hi b)

  pub of-inside : inside lo hi v ≡ true → (lo ≤ v) × (v < hi)
  unfolding inside
  of-inside h = (leb-true lo v (and_l _ _ h), ltb-true v hi (and_r (leb lo v) _ h))

-- ---- one box

module _ (e : Entry) (x y : ℕ) where
  pub covers-yes : inside e.x0 e.x1 x ≡ true → inside e.y0 e.y1 y ≡ true → covers e x y ≡ true
  unfolding covers
  covers-yes a b = and_i a b

  pub off-column : inside e.x0 e.x1 x ≡ false → covers e x y ≡ false
  unfolding covers
  off-column a = simp a

  pub off-row : inside e.y0 e.y1 y ≡ false → covers e x y ≡ false
  unfolding covers
  off-row b = and-no-r (inside e.x0 e.x1 x) _ b

-- ---- all boxes of a table

-- a test that agrees at the places from a on
module _ (p q : Entry → Bool) (s t : ℕ → Entry) where
  none-same : (n a : ℕ) → ((k : ℕ) → a ≤ k → k < a + n → p (s k) ≡ q (t k))
      → all (λ (e : Entry). not (p e)) (map s (range a n)) ≡ all (λ (e : Entry). not (q e)) (map t (range a n))
  none-same zero a h = refl
  none-same (suc n) a h =
      ap₂ (λ (b c : Bool). not b && c) (h a (omega arith) (omega arith))
      (none-same n (suc a) (λ k l m. h k (omega arith) (omega arith)))

module _ (w h n : ℕ) (z : List ℕ) (x y : ℕ) where
  -- free are the points of the foil that no box has
  pub box-free-at : x < w → y < h → ((k : ℕ) → k < n → covers (entry_at z k) x y ≡ false)
      → box_free w h n z x y ≡ true
  unfolding box_free
  box-free-at lx ly none =
      and_i (and_i (lt-ltb x w lx) (lt-ltb y h ly))
      (all-places (λ (e : Entry). not (covers e x y)) (entry_at z) n (λ k l. not_f (none k l)))

  -- and no others
  pub not_covered : box_free w h n z x y ≡ true
      → (x < w) × (y < h) × ((k : ℕ) → k < n → covers (entry_at z k) x y ≡ false)
  unfolding box_free
  not_covered f =
      let on = and_l (ltb x w && ltb y h) _ f in (
        ltb-true x w (and_l _ _ on),
        ltb-true y h (and_r (ltb x w) _ on),
        λ k l.
            not_t (covers (entry_at z k) x y)
            (at_place (λ (e : Entry). not (covers e x y)) (entry_at z) n (and_r (ltb x w && ltb y h) _ f) k l),
      )

  pub covered-at : Covered z n x y → box_free w h n z x y ≡ false
  covered-at c =
      both (box_free w h n z x y) (λ f. clash c.yes ((not_covered f).2 c.place c.lt)) (λ f. f)

-- two rows of the foil on which the same boxes have points
pub row_same : (w h n : ℕ) (z : List ℕ) (x u y : ℕ) → u < h → y < h
    → ((k : ℕ) → k < n → inside (entry_at z k).y0 (entry_at z k).y1 u ≡ inside (entry_at z k).y0 (entry_at z k).y1 y)
    → box_free w h n z x u ≡ box_free w h n z x y
unfolding box_free covers
row_same w h n z x u y lu ly same =
    ap₂ (λ (b c : Bool). ltb x w && b && c) (lt-ltb u h lu ∙ sym (lt-ltb y h ly))
    (none-same (λ e. covers e x u) (λ e. covers e x y) (entry_at z) (entry_at z) n 0
    (λ k a b. ap (λ (c : Bool). inside (entry_at z k).x0 (entry_at z k).x1 x && c) (same k (omega arith))))

-- ---- entries and the edge, by a rule

module _ (r : Rule) (w h n : ℕ) (t : List ℕ) (x y : ℕ) where
  -- free are the points of the foil that are not too near its edge and that no entry blocks
  pub free-at : x < w → y < h → near_edge r.edge w x ≡ false → near_edge r.edge h y ≡ false
      → ((k : ℕ) → k < n → blocks (margin r (entry_at t k)) (entry_at t k) x y ≡ false)
      → free_by r w h (map (entry_at t) (range 0 n)) x y ≡ true
  unfolding free_by
  free-at lx ly ex ey none =
      and_i (and_i (and_i (lt-ltb x w lx) (lt-ltb y h ly)) (rw (ex, ey) refl))
      (all-places (λ (e : Entry). not (blocks (margin r e) e x y)) (entry_at t) n (λ k l. not_f (none k l)))

  -- and no others
  pub of-free : free_by r w h (map (entry_at t) (range 0 n)) x y ≡ true
      → (x < w) × (y < h) × (near_edge r.edge w x ≡ false) × (near_edge r.edge h y ≡ false)
      × ((k : ℕ) → k < n → blocks (margin r (entry_at t k)) (entry_at t k) x y ≡ false)
  unfolding free_by
  of-free f =
      let lx : ltb x w ≡ true = search parts in
      let ly : ltb y h ≡ true = search parts in
      let ex : near_edge r.edge w x ≡ false = search parts depth 9 in
      let ey : near_edge r.edge h y ≡ false = search parts depth 9 in
      let none : all (λ (e : Entry). not (blocks (margin r e) e x y)) (map (entry_at t) (range 0 n)) ≡ true =
      search parts in (
        ltb-true x w lx,
        ltb-true y h ly,
        ex,
        ey,
        λ k l.
            not_t (blocks (margin r (entry_at t k)) (entry_at t k) x y)
            (at_place (λ (e : Entry). not (blocks (margin r e) e x y)) (entry_at t) n none k l),
      )

-- what is free is on the foil
pub free-inside : (l : Layout) (x y : ℕ) → free l x y ≡ true → (x < l.width) × (y < l.height)
unfolding free free_by
free-inside l x y h =
    let a : ltb x l.width ≡ true = search parts in
    let b : ltb y l.height ≡ true = search parts in
    (ltb-true x l.width a, ltb-true y l.height b)

-- ---- the edge

-- a coordinate that is m or more away from both ends
module _ (m size v : ℕ) where
  pub far : m ≤ v → v + m < size → near_edge m size v ≡ false
  unfolding near_edge
  far a b = simp (le-ltb v m a, lt-leb size (v + m) b)

  pub of-far : near_edge m size v ≡ false → (m ≤ v) × (v + m < size)
  unfolding near_edge
  of-far e = (
    ltb-false v m (or_l (ltb v m) (leb size (v + m)) e),
    leb-false size (v + m) (or_r (ltb v m) (leb size (v + m)) e),
  )

-- what is free is h + g or more away from the edge
pub free-far : (l : Layout) (x y : ℕ) → free l x y ≡ true
    → (l.pen.half + l.pen.gap ≤ x) × (x + (l.pen.half + l.pen.gap) < l.width)
    × (l.pen.half + l.pen.gap ≤ y) × (y + (l.pen.half + l.pen.gap) < l.height)
unfolding free free_by pen_rule
free-far l x y h =
    let m : ℕ = l.pen.half + l.pen.gap in
    let ex : near_edge m l.width x ≡ false = search parts depth 9 in
    let ey : near_edge m l.height y ≡ false = search parts depth 9 in
    let (left, right) = of-far m l.width x ex in
    let (above, below) = of-far m l.height y ey in
    (left, right, above, below)

-- and every such point of a foil without entries is
pub bare-free : (p : Pen) (W H x y : ℕ) → p.half + p.gap ≤ x → x + (p.half + p.gap) < W
    → p.half + p.gap ≤ y → y + (p.half + p.gap) < H
    → free (record { width = W; height = H; pen = p; entries = [] }) x y ≡ true
unfolding free free_by pen_rule
bare-free p W H x y left right above below =
    let m : ℕ = p.half + p.gap in
    simp (lt-ltb x W (omega arith), lt-ltb y H (omega arith), far m W x left right, far m H y above below)
