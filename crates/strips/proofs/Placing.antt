-- The place of a point's strip: along the list, and for the strips of a foil, which stand by y0.
use Prim.Native.Nat.{ℕ, zero, suc, ◌+◌, ◌≤◌, ◌<◌}
use native.Mathlib.Omega.{arith}
use native.Mathlib.Decide.{ℕ_discrete}
use mathlib.Core.Path.{◌≡◌, refl, sym, ap, ◌∙◌, subst}
use mathlib.Core.Bool.{Bool, true, false, ◌&&◌}
use mathlib.Core.List.{List, map}
use mathlib.Core.Logic.{⊎_elim, by_cases}
use lib.Dec.{leb, ltb, eqb}
use borrow.Author.Tests.{lt-leb, le-ltb, ltb-true, eqb-true}
use Rattle.std.specs.Prelude.{Some, None}
use Rattle.foil_spec.specs.Lists.{range, any}
use Rattle.foil_spec.specs.Foil.{Point}
use Rattle.foil_spec.specs.Strips.{Strip, strips, holds, place_of}
use Rattle.foil_spec.specs.Lent.{listed_strip, listed_strips}
use Rattle.list_laws.proofs.Tests.{both, clash, and_l, and-no-r, or_cases, lt-or-le}
use Rattle.list_laws.proofs.Members.{in-any, none_of, Sorted, sorted-places}
use Rattle.strip_laws.specs.Rules.{strip_before}
use Rattle.strip_laws.proofs.Laws.{in-a-strip, only-free, strips-in-order}
use Rattle.strips.specs.Places.{place_in, ByRow}

-- a point beside a strip
module _ (p : Point) (s : Strip) where
  pub left-of : p.x < s.x0 → holds p s ≡ false
  unfolding holds
  left-of a = simp (lt-leb _ _ a)

  pub right_of : s.x1 ≤ p.x → holds p s ≡ false
  unfolding holds
  right_of a = and-no-r (leb s.x0 p.x) _ (simp (le-ltb _ _ a))

  pub above : p.y < s.y0 → holds p s ≡ false
  unfolding holds
  above a = and-no-r (leb s.x0 p.x) _ (and-no-r (ltb p.x s.x1) _ (simp (lt-leb _ _ a)))

  pub below : s.y1 ≤ p.y → holds p s ≡ false
  unfolding holds
  below a =
      and-no-r (leb s.x0 p.x) _
      (and-no-r (ltb p.x s.x1) _ (and-no-r (leb s.y0 p.y) _ (le-ltb _ _ a)))

module _ (p : Point) where
  place-yes : (ss : List Strip) → any (holds p) ss ≡ true → place_in p ss ≡ Some (place_of p ss)
  unfolding place_in
  place-yes ss e = rw e refl

  place-no : (ss : List Strip) → any (holds p) ss ≡ false → place_in p ss ≡ None
  unfolding place_in
  place-no ss e = rw e refl

  -- the strips g a, g (a + 1), .. along the list
  module _ (g : ℕ → Strip) where
    none-holds : (n a : ℕ) → ((i : ℕ) → a ≤ i → i < a + n → holds p (g i) ≡ false)
        → any (holds p) (map g (range a n)) ≡ false
    none-holds zero a h = refl
    none-holds (suc n) a h =
        rw (h a (omega arith) (omega arith)) (none-holds n (suc a) (λ i l m. h i (omega arith) (omega arith)))

    first_holds : (n m a : ℕ) → m < n → ((i : ℕ) → a ≤ i → i < a + m → holds p (g i) ≡ false)
        → holds p (g (a + m)) ≡ true
        → (any (holds p) (map g (range a n)) ≡ true) × (place_of p (map g (range a n)) ≡ m)
    unfolding place_of
    first_holds zero m a l h e = absurd (omega arith)
    first_holds (suc n) zero a l h e =
        let q : a + 0 ≡ a = omega arith in
        let k : holds p (g a) ≡ true = rw q at e in
        rw k (refl, refl)
    first_holds (suc n) (suc m) a l h e =
        let q : a + suc m ≡ suc a + m = omega arith in
        let r = first_holds n m (suc a) (omega arith) (λ i j k. h i (omega arith) (omega arith)) (rw q at e) in
        rw (h a (omega arith) (omega arith)) (r.0, ap suc r.1)

  -- the loop's answers
  module _ (l : List ℕ) (count : ℕ) where
    pub place_none : ((i : ℕ) → i < count → holds p (listed_strip l i) ≡ false)
        → place_in p (listed_strips l count) ≡ None
    unfolding listed_strips
    place_none h =
        place-no (map (listed_strip l) (range 0 count))
        (none-holds (listed_strip l) count 0 (λ i a b. h i (omega arith)))

    pub place_at : (k : ℕ) → k < count → ((i : ℕ) → i < k → holds p (listed_strip l i) ≡ false)
        → holds p (listed_strip l k) ≡ true → place_in p (listed_strips l count) ≡ Some k
    unfolding listed_strips
    place_at k lt h e =
        let q : 0 + k ≡ k = omega arith in
        let r = first_holds (listed_strip l) count k 0 lt (λ i a b. h i (omega arith)) (rw q e) in
        place-yes (map (listed_strip l) (range 0 count)) r.0 ∙ ap Some r.1

    -- a list by y0 has nothing more for a point once a strip begins past it
    pub place-past : (k : ℕ) → ((i : ℕ) → i < k → holds p (listed_strip l i) ≡ false)
        → p.y < (listed_strip l k).y0 → ByRow l count → place_in p (listed_strips l count) ≡ None
    place-past k h past by =
        place_none λ i lt.
        ⊎_elim
        (h i)
        (λ (le : k ≤ i). above p (listed_strip l i) (omega (arith, past, by k i le lt)))
        (lt-or-le i k)

-- on a foil a free point has a place, and no other point has
module _ (f : ℕ → ℕ → Bool) (W H : ℕ) (p : Point) where
  pub place-free : p.x < W → p.y < H → f p.x p.y ≡ true
      → place_in p (strips f W H) ≡ Some (place_of p (strips f W H))
  place-free lx ly e =
      let s = in-a-strip f W H p lx ly e in
      place-yes p (strips f W H) (in-any (holds p) s.0 (strips f W H) s.1 s.2)

  pub place-blocked : f p.x p.y ≡ false → place_in p (strips f W H) ≡ None
  place-blocked e =
      place-no p (strips f W H)
      (none_of (holds p) (strips f W H)
      (λ s i. both (holds p s) (λ k. clash (only-free f W H p s i k).2 e) (λ k. k)))

before-row : (s t : Strip) → strip_before s t ≡ true → s.y0 ≤ t.y0
unfolding strip_before
before-row s t e =
    ⊎_elim
    (λ (l : ltb s.y0 t.y0 ≡ true). omega (arith, ltb-true s.y0 t.y0 l))
    (λ l. omega (arith, eqb-true s.y0 t.y0 (and_l (eqb s.y0 t.y0) (ltb s.x0 t.x0) l)))
    (or_cases (ltb s.y0 t.y0) (eqb s.y0 t.y0 && ltb s.x0 t.x0) e)

-- the strips of a foil stand by y0 in a list that has them all
pub by_row : (f : ℕ → ℕ → Bool) (W H : ℕ) (l : List ℕ) (n : ℕ) → listed_strips l n ≡ strips f W H → ByRow l n
unfolding listed_strips
by_row f W H l n e a b le lt =
    by_cases (ℕ_discrete a b)
    (λ q. ap-le q)
    (λ q.
    before-row (listed_strip l a) (listed_strip l b)
    (sorted-places strip_before (listed_strip l) 0 n (subst (Sorted strip_before) (sym e) (strips-in-order f W H)) a b
    (omega arith) (omega arith) (omega arith)))
  where
    ap-le : a ≡ b → (listed_strip l a).y0 ≤ (listed_strip l b).y0
    ap-le q = omega (arith, ap (λ (k : ℕ). (listed_strip l k).y0) q)
