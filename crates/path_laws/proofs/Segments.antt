-- Points and segments: what the tests of a segment say, and the points of the foil in their order.
use Prim.Native.Nat.{ℕ, suc, ◌-◌, ◌*◌, ◌≤◌, ◌<◌, min, max}
use native.Mathlib.Omega.{arith}
use native.Mathlib.Decide.{dec_le}
use mathlib.Core.Path.{◌≡◌, refl, ap, ◌∙◌, subst}
use mathlib.Core.Bool.{Bool, true, false, ◌&&◌}
use mathlib.Core.List.{List, [], ◌∷◌, map}
use mathlib.Core.Logic.{◌⊎◌, inl, inr, ⊎_elim, by_cases}
use lib.Dec.{ltb, eqb}
use lib.ListN.{length, length-append, length-map}
use borrow.Author.Tests.{eqb-true, eqb-false, eq-eqb, ne_eqb, lt-ltb, ltb-true}
use Rattle.foil_spec.specs.Lists.{range, each}
use Rattle.foil_spec.specs.Foil.{Point, point, same}
use Rattle.foil_spec.specs.Paths.{Heading, either, level, upright, between, level_free, upright_free, segment}
use Rattle.foil_spec.specs.Paths.{after, leads, point_before, points}
use Rattle.list_laws.proofs.Tests.{and_l, and_r, and_i, or_cases, or-il, or-ir, parts}
use Rattle.list_laws.proofs.Members.{In, Sorted, in-range, of_range, in_map, of_map, in-each, of-all, to-all}
use Rattle.list_laws.proofs.Members.{length-range, sorted-range, sorted-map, sorted-each}

pub same-eq : (p q : Point) → same p q ≡ true → p ≡ q
same-eq p q h =
    let ex : p.x ≡ q.x = eqb-true p.x q.x (and_l (eqb p.x q.x) (eqb p.y q.y) h) in
    let ey : p.y ≡ q.y = eqb-true p.y q.y (and_r (eqb p.x q.x) (eqb p.y q.y) h) in
    λ i. point (ex i) (ey i)

pub same_self : (p : Point) → same p p ≡ true
same_self p = and_i {a = eqb p.x p.x} (eq-eqb p.x p.x refl) (eq-eqb p.y p.y refl)

module _ (g : ℕ → Bool) where
  pub between-at : (a b k : ℕ) → between g a b ≡ true → min a b ≤ k → k ≤ max a b → g k ≡ true
  unfolding between
  between-at a b k h l u =
      of-all g k (range (min a b) (suc (max a b - min a b))) h
      (in-range k (min a b) (suc (max a b - min a b)) l (omega arith))

  pub between-to : (a b : ℕ) → ((k : ℕ) → min a b ≤ k → k ≤ max a b → g k ≡ true) → between g a b ≡ true
  unfolding between
  between-to a b h =
      to-all g (range (min a b) (suc (max a b - min a b)))
      (λ k m. let r = of_range k (min a b) (suc (max a b - min a b)) m in h k r.0 (omega arith))

  pub between_join : (a b c : ℕ) → between g a b ≡ true → between g b c ≡ true → between g a c ≡ true
  between_join a b c h j =
      between-to a c
      (λ k l u.
      by_cases (dec_le a c)
      (λ ac.
      by_cases (dec_le k b)
      (λ kb. between-at a b k h (omega arith) (omega arith))
      (λ kb. between-at b c k j (omega arith) (omega arith)))
      (λ ac.
      by_cases (dec_le k b)
      (λ kb. between-at b c k j (omega arith) (omega arith))
      (λ kb. between-at a b k h (omega arith) (omega arith))))

module _ (f : ℕ → ℕ → Bool) where
  -- what a level segment is
  pub record Level (p q : Point) : Type 0 where
    pub row : p.y ≡ q.y
    pub apart : ¬ (p.x ≡ q.x)
    pub clear : between (λ (x : ℕ). f x p.y) p.x q.x ≡ true

  -- what an upright segment is
  pub record Upright (p q : Point) : Type 0 where
    pub column : p.x ≡ q.x
    pub apart : ¬ (p.y ≡ q.y)
    pub clear : between (λ (y : ℕ). f p.x y) p.y q.y ≡ true

  pub of-level : (p q : Point) → level_free f p q ≡ true → Level p q
  unfolding level_free
  of-level p q h =
      let e : eqb p.y q.y ≡ true = search parts in
      let n : eqb p.x q.x ≡ false = search parts in
      record { row = eqb-true p.y q.y e; apart = eqb-false p.x q.x n; clear = search parts }

  pub to_level : (p q : Point) → Level p q → level_free f p q ≡ true
  unfolding level_free
  to_level p q s = simp (eq-eqb p.y q.y s.row, ne_eqb p.x q.x s.apart, s.clear)

  pub of-upright : (p q : Point) → upright_free f p q ≡ true → Upright p q
  unfolding upright_free
  of-upright p q h =
      let e : eqb p.x q.x ≡ true = search parts in
      let n : eqb p.y q.y ≡ false = search parts in
      record { column = eqb-true p.x q.x e; apart = eqb-false p.y q.y n; clear = search parts }

  pub to-upright : (p q : Point) → Upright p q → upright_free f p q ≡ true
  unfolding upright_free
  to-upright p q s = simp (eq-eqb p.x q.x s.column, ne_eqb p.y q.y s.apart, s.clear)

  pub of-segment : (h : Heading) (p q : Point) → segment f h p q ≡ true → Level p q ⊎ Upright p q
  unfolding segment
  of-segment either p q s =
      ⊎_elim (λ k. inl (of-level p q k)) (λ k. inr (of-upright p q k))
      (or_cases (level_free f p q) (upright_free f p q) s)
  of-segment level p q s = inl (of-level p q s)
  of-segment upright p q s = inr (of-upright p q s)

  pub either-segment : (h : Heading) (p q : Point) → segment f h p q ≡ true → segment f either p q ≡ true
  unfolding segment
  either-segment either p q s = s
  either-segment level p q s = or-il (upright_free f p q) s
  either-segment upright p q s = or-ir (level_free f p q) s

  pub end-free : (h : Heading) (p q : Point) → segment f h p q ≡ true → f q.x q.y ≡ true
  end-free h p q s =
      ⊎_elim
      (λ (a : Level p q).
      subst (λ (y : ℕ). f q.x y ≡ true) a.row
      (between-at (λ (x : ℕ). f x p.y) p.x q.x q.x a.clear (omega arith) (omega arith)))
      (λ (a : Upright p q).
      subst (λ (x : ℕ). f x q.y ≡ true) a.column
      (between-at (λ (y : ℕ). f p.x y) p.y q.y q.y a.clear (omega arith) (omega arith)))
      (of-segment h p q s)

  pub start-free : (h : Heading) (p q : Point) → segment f h p q ≡ true → f p.x p.y ≡ true
  start-free h p q s =
      ⊎_elim
      (λ (a : Level p q).
      between-at (λ (x : ℕ). f x p.y) p.x q.x p.x a.clear (omega arith) (omega arith))
      (λ (a : Upright p q).
      between-at (λ (y : ℕ). f p.x y) p.y q.y p.y a.clear (omega arith) (omega arith))
      (of-segment h p q s)

  pub after-level : (p q : Point) → Level p q → after p q ≡ upright
  unfolding after
  after-level p q s = rw (eq-eqb p.y q.y s.row) refl

  pub after-upright : (p q : Point) → Upright p q → after p q ≡ level
  unfolding after
  after-upright p q s = rw (ne_eqb p.y q.y s.apart) refl

  pub leads-either : (T : Point → Bool) (h : Heading) (p : Point) (cs : List Point)
      → leads f T h p cs ≡ true → leads f T either p cs ≡ true
  unfolding leads
  leads-either T h p [] l = l
  leads-either T h p (q ∷ cs) l =
      and_i {a = segment f either p q}
      (either-segment h p q (and_l (segment f h p q) (leads f T (after p q) q cs) l))
      (and_r (segment f h p q) (leads f T (after p q) q cs) l)

-- the points of row y
abbrev row : ℕ → ℕ → List Point
row W y = map (λ (x : ℕ). point x y) (range 0 W)

pub in-points : (W H : ℕ) (p : Point) → p.x < W → p.y < H → In p (points W H)
unfolding points
in-points W H p hx hy =
    in-each (row W) p p.y (range 0 H)
    (in-range p.y 0 H (omega arith) (omega arith))
    (in_map (λ (x : ℕ). point x p.y) p.x (range 0 W) (in-range p.x 0 W (omega arith) (omega arith)))

-- how many points the foil has
length-rows : (W : ℕ) (ys : List ℕ) → length (each (row W) ys) ≡ length ys * W
length-rows W [] = omega arith
length-rows W (y ∷ ys) =
    length-append (row W y) (each (row W) ys)
    ∙ omega (arith, length-map (range 0 W) (λ (x : ℕ). point x y), length-range 0 W, length-rows W ys)

pub length-points : (W H : ℕ) → length (points W H) ≡ W * H
unfolding points
length-points W H = omega (arith, length-rows W (range 0 H), ap (λ (n : ℕ). n * W) (length-range 0 H))

pub before-row : (p q : Point) → p.y ≡ q.y → p.x < q.x → point_before p q ≡ true
unfolding point_before
before-row p q e l =
    or-ir (ltb p.y q.y)
    (and_i {a = eqb p.y q.y} (eq-eqb p.y q.y e) (lt-ltb p.x q.x l))

pub before-rows : (p q : Point) → p.y < q.y → point_before p q ≡ true
unfolding point_before
before-rows p q l = or-il (eqb p.y q.y && ltb p.x q.x) (lt-ltb p.y q.y l)

pub sorted-points : (W H : ℕ) → Sorted point_before (points W H)
unfolding points
sorted-points W H =
    sorted-each ltb point_before (row W) (range 0 H) (sorted-range 0 H)
    (λ y h.
    sorted-map ltb point_before (λ (x : ℕ). point x y) (range 0 W) (sorted-range 0 W)
    (λ a b l. before-row (point a y) (point b y) refl (ltb-true a b l)))
    (λ y z u v l hu hv.
    let a = of_map (λ (x : ℕ). point x y) u (range 0 W) hu in
    let b = of_map (λ (x : ℕ). point x z) v (range 0 W) hv in
    rw (a.2, b.2) (before-rows (point a.0 y) (point b.0 z) (ltb-true y z l)))
