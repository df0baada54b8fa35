-- A box has free points only just if it is on the foil and meets none of the blocked boxes.
use Prim.Native.Nat.{ℕ, ◌≤◌, ◌<◌, max}
use native.Mathlib.Omega.{arith}
use native.Mathlib.Nat.{zero-add}
use mathlib.Core.Path.{◌≡◌, refl, ◌∙◌, subst}
use mathlib.Core.Bool.{Bool, true, false, not}
use mathlib.Core.List.{List}
use mathlib.Core.Logic.{◌⊎◌, inl, inr}
use lib.Dec.{leb, ltb}
use lib.ListN.{length, get_or}
use Rattle.std.specs.Bool.{MatchBool}
use Rattle.std.specs.List.{range_with_len, HoldsAt, AllWithin}
use Rattle.std.proofs.lemmas.List.FromFn.{length-range_with_len, get_or-range_with_len}
use borrow.Author.Tests.{le-leb, lt-ltb, leb-true, ltb-true}
use Rattle.foil_spec.specs.Foil.{Point, Entry}
use Rattle.foil_spec.specs.Lent.{entry_at}
use Rattle.list_laws.proofs.Tests.{both, clash, and_l, and_r, parts}
use Rattle.zones.specs.Boxes.{inside, covers, box_free, Boxes}
use Rattle.zones.proofs.Free.{inside-yes, of-inside, covers-yes, box-free-at, not_covered, covered-at}
use Rattle.booking.specs.Clear.{meets, Inside, Cleared}

-- ---- two boxes

module _ (e : Entry) (a b : Point) where
  covered-meets : (x y : ℕ) → Inside a b x y → covers e x y ≡ true → meets e a b ≡ true
  unfolding covers meets
  covered-meets x y i h =
      let u = of-inside e.x0 e.x1 x (and_l _ _ h) in
      let v = of-inside e.y0 e.y1 y (and_r (inside e.x0 e.x1 x) _ h) in
      simp (
        le-leb e.x0 b.x (omega (arith, u.0, i.right)),
        lt-ltb a.x e.x1 (omega (arith, u.1, i.left)),
        le-leb e.y0 b.y (omega (arith, v.0, i.bottom)),
        lt-ltb a.y e.y1 (omega (arith, v.1, i.top)),
      )

  -- a box that it does not meet has none of its points
  missed : meets e a b ≡ false → (x y : ℕ) → Inside a b x y → covers e x y ≡ false
  missed m x y i = both (covers e x y) (λ h. clash (covered-meets x y i h) m) (λ h. h)

  -- one that it meets has this one
  shared : e.x0 < e.x1 → e.y0 < e.y1 → a.x ≤ b.x → a.y ≤ b.y → meets e a b ≡ true
      → Inside a b (max a.x e.x0) (max a.y e.y0)
      × (covers e (max a.x e.x0) (max a.y e.y0) ≡ true)
  unfolding meets
  shared ex ey lx ly m =
      let p : leb e.x0 b.x ≡ true = search parts in
      let q : ltb a.x e.x1 ≡ true = search parts in
      let u : leb e.y0 b.y ≡ true = search parts in
      let v : ltb a.y e.y1 ≡ true = search parts in
      let p' = leb-true e.x0 b.x p in
      let q' = ltb-true a.x e.x1 q in
      let u' = leb-true e.y0 b.y u in
      let v' = ltb-true a.y e.y1 v in (
        record { left = omega arith; right = omega arith; top = omega arith; bottom = omega arith },
        covers-yes e (max a.x e.x0) (max a.y e.y0)
            (inside-yes e.x0 e.x1 (max a.x e.x0) (omega arith) (omega arith))
            (inside-yes e.y0 e.y1 (max a.y e.y0) (omega arith) (omega arith)),
      )

-- ---- a box against all that are blocked

-- whether box k of the table z is met
abbrev pub Hit : List ℕ → Point → Point → ℕ → Type 0
Hit z a b k = meets (entry_at z k) a b ≡ true

abbrev pub Missed : List ℕ → Point → Point → ℕ → Type 0
Missed z a b k = meets (entry_at z k) a b ≡ false

module _ (z : List ℕ) (n w h : ℕ) (B : Boxes z n w h) (a b : Point) (lx : a.x ≤ b.x) (ly : a.y ≤ b.y) where
  -- the corner b is in the box
  corner : Inside a b b.x b.y
  corner = record { left = lx; right = omega arith; top = ly; bottom = omega arith }

  not_free : box_free w h n z b.x b.y ≡ false → Cleared (box_free w h n z) a b false
  not_free f = record { yes = λ t. clash t refl; no = λ t. (b.x, b.y, corner, f) }

  pub past-end : (w ≤ b.x) ⊎ ((b.x < w) × (h ≤ b.y)) → Cleared (box_free w h n z) a b false
  past-end (inl l) =
      not_free
      (both (box_free w h n z b.x b.y)
      (λ t. absurd (omega (arith, (not_covered w h n z b.x b.y t).0))) (λ t. t))
  past-end (inr l) =
      not_free
      (both (box_free w h n z b.x b.y)
      (λ t. absurd (omega (arith, l.1, (not_covered w h n z b.x b.y t).1))) (λ t. t))

  met : (k : ℕ) → k < n → Hit z a b k → Cleared (box_free w h n z) a b false
  met k l m =
      let at = shared (entry_at z k) a b (B.x-order k l) (B.y-order k l) lx ly m in
      record {
        yes = λ t. clash t refl;
        no = λ t. (_, _, at.0, covered-at w h n z _ _ (record { place = k; lt = l; yes = at.1 }));
      }

  missed-all : b.x < w → b.y < h → ((k : ℕ) → k < n → Missed z a b k) → Cleared (box_free w h n z) a b true
  missed-all rx ry m =
      record {
        yes = λ t x y i.
            box-free-at w h n z x y (omega (arith, i.right)) (omega (arith, i.bottom))
            (λ j u. missed (entry_at z j) a b (m j u) x y i);
        no = λ t. clash refl t;
      }

  place-is : (k : ℕ) → k < n → get_or (range_with_len 0 n) k 0 ≡ k
  place-is k l = get_or-range_with_len 0 n k 0 l ∙ zero-add k

  -- r says whether one of them is met
  pub cleared-by : b.x < w → b.y < h → (r : Bool)
      → MatchBool r ((k : ℕ) × (k < length (range_with_len 0 n)) × HoldsAt (Hit z a b) (range_with_len 0 n) k)
      (AllWithin (Missed z a b) (range_with_len 0 n) 0 (length (range_with_len 0 n)))
      → Cleared (box_free w h n z) a b (not r)
  cleared-by rx ry true m =
      let l : m.0 < n = omega (arith, m.1, length-range_with_len 0 n) in
      met m.0 l (subst (Hit z a b) (place-is m.0 l) (m.2 0))
  cleared-by rx ry false m =
      missed-all rx ry
      (λ i l. subst (Missed z a b) (place-is i l) (m i 0 (omega arith) (omega (arith, length-range_with_len 0 n))))
