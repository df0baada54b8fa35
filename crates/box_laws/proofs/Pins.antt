-- Each strip that boxes leave holds a pin, one of some points by the boxes' corners, so there are no more strips than
-- pins. A strip that begins where a box ends begins in column 0 or right of another box. Any other begins in the corner
-- (0, 0) or on the first row of a box beside it, right or left, for else it would begin higher.
use Prim.Native.Nat.{ℕ, zero, suc, pred, ◌+◌, ◌*◌, ◌≤◌, ◌<◌}
use native.Mathlib.Nat.{zero-mul, suc-mul, mul-suc}
use native.Mathlib.Omega.{arith}
use native.Mathlib.Decide.{dec_le, ℕ_discrete}
use mathlib.Core.Path.{◌≡◌, refl, sym, ap, ◌∙◌}
use mathlib.Core.Bool.{Bool, true, false, cond, ◌&&◌}
use mathlib.Core.List.{List, ◌∷◌, map}
use mathlib.Core.Logic.{◌⊎◌, inl, inr, by_cases, ◌≢◌}
use lib.Dec.{ltb, eqb}
use lib.ListN.{length, length-append, length-map}
use borrow.Author.Tests.{eq-eqb, ne_eqb, eqb-true, eqb-false}
use Rattle.foil_spec.specs.Lists.{range, each, any, keep}
use Rattle.foil_spec.specs.Foil.{Point, point, Entry}
use Rattle.foil_spec.specs.Strips.{row_of, Strip, strips, holds}
use Rattle.foil_spec.specs.Lent.{entry_at}
use Rattle.list_laws.proofs.Tests.{both, clash, and_l, and_r}
use Rattle.list_laws.proofs.Members.{In, in-any, of-any, not-any, in-each, in_map, in-range, of_range, length-range}
use Rattle.list_laws.proofs.Counting.{few-elements}
use Rattle.zones.specs.Boxes.{inside, covers, box_free}
use Rattle.zones.proofs.Free.{inside-yes, of-inside, covers-yes, box-free-at, covered-at}
use Rattle.strip_laws.specs.Rules.{columns, IsRun, IsStrip}
use Rattle.strip_laws.proofs.Strips.{to-holds}
use Rattle.strip_laws.proofs.Laws.{listed-strip, partition}
use Rattle.box_laws.specs.Boxed.{BoxStrips}
use Rattle.box_laws.proofs.Trails.{meets}

-- ---- the pins

-- of box k of n: in column 0, where it ends; left of it, where it begins; right of each box, where box k ends, but of
-- itself, where it begins
pins_of : List ℕ → ℕ → ℕ → List Point
pins_of z n k =
    point 0 (entry_at z k).y1
    ∷ point (pred (entry_at z k).x0) (entry_at z k).y0
    ∷ map (λ (j : ℕ). point (entry_at z j).x1 (cond (eqb j k) (entry_at z k).y0 (entry_at z k).y1)) (range 0 n)

-- of all n
pins : List ℕ → ℕ → List Point
pins z n = point 0 0 ∷ each (pins_of z n) (range 0 n)

each-length : (g : ℕ → List Point) (c a n : ℕ) → ((k : ℕ) → length (g k) ≡ c) → length (each g (range a n)) ≡ n * c
each-length g c a zero h = sym (zero-mul c)
each-length g c a (suc n) h =
    omega (arith, length-append (g a) (each g (range (suc a) n)), h a, each-length g c (suc a) n h, suc-mul n c)

pins-many : (z : List ℕ) (n : ℕ) → length (pins z n) ≡ (n + 1) * (n + 1)
unfolding pins pins_of
pins-many z n =
    omega (
      arith,
      each-length (pins_of z n) (suc (suc n)) 0 n
          (λ k. ap (λ (m : ℕ). suc (suc m)) (length-map (range 0 n) _ ∙ length-range 0 n)),
      mul-suc n (suc n),
      suc-mul n (suc n),
    )

-- a place below n that passes the test, or there is none
place-or-none : (p : ℕ → Bool) (n : ℕ)
    → ((k : ℕ) × (k < n) × (p k ≡ true)) ⊎ ((k : ℕ) → k < n → p k ≡ false)
place-or-none p n =
    both (any p (range 0 n))
    (λ t. let (k, i, c) = of-any p (range 0 n) t in inl (k, omega (arith, (of_range k 0 n i).1), c))
    (λ t. inr (λ k l. not-any p k (range 0 n) t (in-range k 0 n (omega arith) (omega arith))))

-- ---- what a box has

-- the point (x, y) is in the box
abbrev Has : Entry → ℕ → ℕ → Type 0
Has e x y = (e.x0 ≤ x) × (x < e.x1) × (e.y0 ≤ y) × (y < e.y1)

of-covers : (e : Entry) (x y : ℕ) → covers e x y ≡ true → Has e x y
unfolding covers
of-covers e x y c =
    let a = of-inside e.x0 e.x1 x (and_l (inside e.x0 e.x1 x) (inside e.y0 e.y1 y) c) in
    let b = of-inside e.y0 e.y1 y (and_r (inside e.x0 e.x1 x) (inside e.y0 e.y1 y) c) in
    (a.0, a.1, b.0, b.1)

module _ (z : List ℕ) (n w h : ℕ) where
  -- what is in a box is blocked
  blocked : (j x y : ℕ) → j < n → Has (entry_at z j) x y → box_free w h n z x y ≡ false
  blocked j x y l (a, b, c, d) =
      covered-at w h n z x y
      (record { place = j; lt = l; yes = covers-yes _ x y (inside-yes _ _ x a b) (inside-yes _ _ y c d) })

  -- what is blocked on the foil is in a box
  blocker : (x y : ℕ) → x < w → y < h → box_free w h n z x y ≡ false → (j : ℕ) × (j < n) × Has (entry_at z j) x y
  blocker x y lx ly e = go (place-or-none (λ (j : ℕ). covers (entry_at z j) x y) n)
    where
      go : ((j : ℕ) × (j < n) × (covers (entry_at z j) x y ≡ true))
          ⊎ ((j : ℕ) → j < n → covers (entry_at z j) x y ≡ false)
          → (j : ℕ) × (j < n) × Has (entry_at z j) x y
      go (inl (j, l, c)) = (j, l, of-covers (entry_at z j) x y c)
      go (inr t) = clash (box-free-at w h n z x y lx ly t) e

-- ---- a strip holds a pin

-- strip s, and the run of its first row
module _ (z : List ℕ) (n w h : ℕ) (s : Strip) (strip : IsStrip (box_free w h n z) w h s)
    (run : IsRun (row_of (box_free w h n z) s.y0) w (columns s)) where
  abbrev f : ℕ → ℕ → Bool
  f = box_free w h n z

  abbrev box : ℕ → Entry
  box k = entry_at z k

  abbrev Pinned : Type 0
  Pinned = meets (pins z n) s ≡ true

  pinned : (p : Point) → In p (pins z n) → s.x0 ≤ p.x → p.x < s.x1 → p.y ≡ s.y0 → Pinned
  pinned p i lo hi e =
      in-any (λ (p : Point). holds p s) p (pins z n) i
      (to-holds p s (record { right = lo; left = hi; below = omega arith; above = omega arith }))

  pinned-by : (k : ℕ) → k < n → (p : Point) → In p (pins_of z n k) → s.x0 ≤ p.x → p.x < s.x1 → p.y ≡ s.y0
      → Pinned
  unfolding pins
  pinned-by k l p i =
      pinned p (inr (in-each (pins_of z n) p k (range 0 n) (in-range k 0 n (omega arith) (omega arith)) i))

  -- in column 0, below a box
  below : (k : ℕ) → k < n → (box k).y1 ≡ s.y0 → s.x0 ≡ 0 → Pinned
  unfolding pins_of
  below k l y x = pinned-by k l (point 0 (box k).y1) (inl refl) (omega arith) (omega arith) y

  -- right of box j, where box k ends, or, if it is the same, begins
  right_of : (k j : ℕ) → k < n → j < n → (box j).x1 ≡ s.x0 → cond (eqb j k) (box k).y0 (box k).y1 ≡ s.y0 → Pinned
  unfolding pins_of
  right_of k j lk lj x y =
      pinned-by k lk (point (box j).x1 (cond (eqb j k) (box k).y0 (box k).y1))
      (inr (inr (in_map (λ (j : ℕ). point (box j).x1 (cond (eqb j k) (box k).y0 (box k).y1)) j (range 0 n)
      (in-range j 0 n (omega arith) (omega arith)))))
      (omega arith) (omega arith) y

  -- left of a box, where that begins
  left-of : (j : ℕ) → j < n → (box j).x0 ≡ s.x1 → (box j).y0 ≡ s.y0 → Pinned
  unfolding pins_of
  left-of j l x y =
      let lo : s.x0 ≤ pred (box j).x0 = omega arith in
      let hi : pred (box j).x0 < s.x1 = omega arith in
      pinned-by j l (point (pred (box j).x0) (box j).y0) (inr (inl refl)) lo hi y

  -- the box on the left of the first row
  on-left : f (pred s.x0) s.y0 ≡ false
      → (j : ℕ) × (j < n) × ((box j).x1 ≡ s.x0) × Has (box j) (pred s.x0) s.y0
  on-left t =
      let (j, l, q) = blocker z n w h (pred s.x0) s.y0 (omega arith) (omega arith) t in
      let ends : (box j).x1 ≤ s.x0 =
      by_cases (dec_le (box j).x1 s.x0) (λ m. m)
      (λ m.
      clash (run.all-free s.x0 (omega arith) (omega arith))
      (blocked z n w h j s.x0 s.y0 l (omega (arith, q.0), omega arith, q.2, q.3))) in
      (j, l, omega (arith, q.1), q)

  -- and on the right
  on-right : s.x1 < w → f s.x1 s.y0 ≡ false
      → (j : ℕ) × (j < n) × ((box j).x0 ≡ s.x1) × Has (box j) s.x1 s.y0
  on-right lw t =
      let (j, l, q) = blocker z n w h s.x1 s.y0 lw (omega arith) t in
      let begins : s.x1 ≤ (box j).x0 =
      by_cases (dec_le s.x1 (box j).x0) (λ m. m)
      (λ m.
      clash (run.all-free (pred s.x1) (omega arith) (omega arith))
      (blocked z n w h j (pred s.x1) s.y0 l (omega arith, omega (arith, q.1), q.2, q.3))) in
      (j, l, omega (arith, q.0), q)

  -- on row 0
  at_top : s.y0 ≡ 0 → (s.x0 ≡ 0) ⊎ (f (pred s.x0) s.y0 ≡ false) → Pinned
  unfolding pins
  at_top y (inl x) = pinned (point 0 0) (inl refl) (omega arith) (omega arith) (sym y)
  at_top y (inr t) =
      let (j, l, x, q) = on-left t in
      right_of j j l l x (rw (eq-eqb j j refl) (omega (arith, q.2)))

  -- where box k ends
  at-end : (k : ℕ) → k < n → (box k).y1 ≡ s.y0 → (s.x0 ≡ 0) ⊎ (f (pred s.x0) s.y0 ≡ false) → Pinned
  at-end k lk y (inl x) = below k lk y x
  at-end k lk y (inr t) =
      let (j, l, x, q) = on-left t in
      right_of k j lk l x (rw (ne_eqb j k (λ d. let m = ap (λ (i : ℕ). (box i).y1) d in omega (arith, q.3))) y)

  -- where none ends: the row above is free too, and blocked beside the strip where no box begins
  module _ (none : (k : ℕ) → k < n → (box k).y1 ≢ s.y0) where
    free-above : (x : ℕ) → s.x0 ≤ x → x < s.x1 → f x (pred s.y0) ≡ true
    free-above x lo hi =
        both (f x (pred s.y0)) (λ t. t)
        (λ t.
        let (j, l, q) = blocker z n w h x (pred s.y0) (omega arith) (omega arith) t in
        let apart = none j l in
        clash (run.all-free x lo hi)
        (blocked z n w h j x s.y0 l (q.0, q.1, omega (arith, q.2), omega (arith, q.3))))

    above-left : (s.x0 ≡ 0) ⊎ (f (pred s.x0) s.y0 ≡ false)
        → Pinned ⊎ ((s.x0 ≡ 0) ⊎ (f (pred s.x0) (pred s.y0) ≡ false))
    above-left (inl x) = inr (inl x)
    above-left (inr t) =
        let (j, l, x, q) = on-left t in
        by_cases (ℕ_discrete (box j).y0 s.y0)
        (λ y. inl (right_of j j l l x (rw (eq-eqb j j refl) y)))
        (λ y. inr (inr
        (blocked z n w h j (pred s.x0) (pred s.y0) l (q.0, q.1, omega (arith, q.2), omega (arith, q.3)))))

    above-right : (s.x1 ≡ w) ⊎ (f s.x1 s.y0 ≡ false)
        → Pinned ⊎ ((s.x1 ≡ w) ⊎ (f s.x1 (pred s.y0) ≡ false))
    above-right (inl x) = inr (inl x)
    above-right (inr t) =
        by_cases (ℕ_discrete s.x1 w) (λ x. inr (inl x))
        (λ x.
        let (j, l, x, q) = on-right (omega arith) t in
        by_cases (ℕ_discrete (box j).y0 s.y0)
        (λ y. inl (left-of j l x y))
        (λ y. inr (inr
        (blocked z n w h j s.x1 (pred s.y0) l (q.0, q.1, omega (arith, q.2), omega (arith, q.3))))))

    -- with neither side pinned it would be a run above
    not-above : Pinned ⊎ ((s.x0 ≡ 0) ⊎ (f (pred s.x0) (pred s.y0) ≡ false))
        → Pinned ⊎ ((s.x1 ≡ w) ⊎ (f s.x1 (pred s.y0) ≡ false))
        → (IsRun (row_of f (pred s.y0)) w (columns s) → ⊥) → Pinned
    not-above (inl p) right top = p
    not-above (inr left) (inl p) top = p
    not-above (inr left) (inr right) top =
        absurd
        (top
        (record {
          not-empty = run.not-empty;
          on-board = run.on-board;
          all-free = free-above;
          left = left;
          right = right;
        }))

    elsewhere : (s.y0 ≡ 0) ⊎ (IsRun (row_of f (pred s.y0)) w (columns s) → ⊥) → Pinned
    elsewhere (inl y) = at_top y run.left
    elsewhere (inr top) = not-above (above-left run.left) (above-right run.right) top

  holds-pin : Pinned
  holds-pin = go (place-or-none (λ (k : ℕ). eqb (box k).y1 s.y0) n)
    where
      go : ((k : ℕ) × (k < n) × (eqb (box k).y1 s.y0 ≡ true))
          ⊎ ((k : ℕ) → k < n → eqb (box k).y1 s.y0 ≡ false) → Pinned
      go (inl (k, l, y)) = at-end k l (eqb-true _ _ y) run.left
      go (inr none) = elsewhere (λ k l. eqb-false _ _ (none k l)) strip.above

-- ---- the bound

one-most : (b : Bool) → cond b 1 0 ≤ 1
one-most true = omega arith
one-most false = omega arith

pub box-strips : BoxStrips
box-strips z n w h =
    let f : ℕ → ℕ → Bool = box_free w h n z in
    let once : (p : Point) → length (keep (holds p) (strips f w h)) ≤ 1 =
    λ p. rw (partition f w h p) (one-most (ltb p.x w && (ltb p.y h && f p.x p.y))) in
    let few =
    few-elements holds (strips f w h) once (pins z n)
    (λ s i.
    let strip = listed-strip f w h s i in
    holds-pin z n w h s strip (strip.are-runs s.y0 (omega arith) strip.not-empty)) in
    omega (arith, pins-many z n)
