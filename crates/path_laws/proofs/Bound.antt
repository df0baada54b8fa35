-- More than W * H segments are never needed.
use Prim.Native.Nat.{ℕ, zero, suc, ◌+◌, ◌*◌, ◌≤◌, ◌<◌}
use native.Mathlib.Omega.{arith}
use native.Mathlib.Nat.{zero-add, suc-add}
use native.Mathlib.Decide.{ℕ_discrete}
use mathlib.Core.Path.{◌≡◌, sym, ◌∙◌, subst}
use mathlib.Core.Bool.{Bool, true, false, not, ◌&&◌, ◌||◌}
use mathlib.Core.List.{List, [], ◌∷◌}
use mathlib.Core.Logic.{◌⊎◌, inl, inr, ⊎_elim, by_cases}
use lib.ListN.{length}
use Rattle.foil_spec.specs.Lists.{any}
use Rattle.foil_spec.specs.Foil.{Point, point, same}
use Rattle.foil_spec.specs.Paths.{Heading, either, level, upright, between, level_free, upright_free, segment}
use Rattle.foil_spec.specs.Paths.{after, leads, points}
use Rattle.list_laws.proofs.Tests.{and_l, and_r, and_i, or_cases, or-il, or-ir, not_t, not-ff, true-or-false}
use Rattle.list_laws.proofs.Members.{in-any, of-any, not-any}
use Rattle.list_laws.proofs.Counting.{count, count-lt, count-length}
use Rattle.path_laws.proofs.Segments.{same-eq, same_self, end-free, start-free, in-points, length-points}
use Rattle.path_laws.proofs.Segments.{Level, Upright, to_level, to-upright, of-segment, either-segment}
use Rattle.path_laws.proofs.Segments.{between_join, leads-either, after-level, after-upright}

-- from p to q by one free segment, or standing still
unfoldable linked : (ℕ → ℕ → Bool) → Point → Point → Bool
linked f p q = same p q || segment f either p q

-- the target T is arrived at from p by n segments, each of which may stand still or go on the same way
unfoldable arrives_by : (ℕ → ℕ → Bool) → ℕ → ℕ → (Point → Bool) → ℕ → Point → Bool
arrives_by f W H T zero p = T p && f p.x p.y
arrives_by f W H T (suc n) p = any (λ (q : Point). linked f p q && arrives_by f W H T n q) (points W H)

module _ (f : ℕ → ℕ → Bool) (W H : ℕ) (inside : (x y : ℕ) → f x y ≡ true → (x < W) × (y < H)) (T : Point → Bool) where
  abbrev arrives : ℕ → Point → Bool
  arrives = arrives_by f W H T

  of-linked : (p q : Point) → linked f p q ≡ true → (p ≡ q) ⊎ (segment f either p q ≡ true)
  unfolding linked
  of-linked p q h =
      ⊎_elim (λ k. inl (same-eq p q k)) (λ k. inr k) (or_cases (same p q) (segment f either p q) h)

  of-arrives : (n : ℕ) (p : Point)
      → arrives (suc n) p ≡ true → (q : Point) × (linked f p q ≡ true) × (arrives n q ≡ true)
  unfolding arrives_by
  of-arrives n p h =
      let r = of-any (λ (q : Point). linked f p q && arrives n q) (points W H) h in
      (r.0, and_l (linked f p r.0) (arrives n r.0) r.2, and_r (linked f p r.0) (arrives n r.0) r.2)

  arrives-free : (n : ℕ) (p : Point) → arrives n p ≡ true → f p.x p.y ≡ true
  unfolding arrives_by
  arrives-free zero p h = and_r (T p) (f p.x p.y) h
  arrives-free (suc n) p h =
      let r = of-arrives n p h in
      ⊎_elim
      (λ (e : p ≡ r.0). subst (λ (q : Point). f q.x q.y ≡ true) (sym e) (arrives-free n r.0 r.2))
      (λ (s : segment f either p r.0 ≡ true). start-free f either p r.0 s)
      (of-linked p r.0 r.1)

  arrives_more : (n : ℕ) (p q : Point) → linked f p q ≡ true → arrives n q ≡ true → arrives (suc n) p ≡ true
  unfolding arrives_by
  arrives_more n p q l h =
      let i = inside q.x q.y (arrives-free n q h) in
      in-any (λ (q : Point). linked f p q && arrives n q) q (points W H)
      (in-points W H q i.0 i.1) (and_i {a = linked f p q} l h)

  arrives-up : (n : ℕ) (p : Point) → arrives n p ≡ true → arrives (suc n) p ≡ true
  unfolding linked
  arrives-up n p h = arrives_more n p p (or-il (segment f either p p) (same_self p)) h

  arrives-mono : (k n : ℕ) (p : Point) → arrives n p ≡ true → arrives (k + n) p ≡ true
  arrives-mono zero n p h = rw zero-add h
  arrives-mono (suc k) n p h = rw suc-add (arrives-up (k + n) p (arrives-mono k n p h))

  leads-arrives : (h : Heading) (p : Point) (cs : List Point)
      → f p.x p.y ≡ true → leads f T h p cs ≡ true → arrives (length cs) p ≡ true
  unfolding leads arrives_by linked
  leads-arrives h p [] e l = and_i {a = T p} l e
  leads-arrives h p (q ∷ cs) e l =
      let s : segment f h p q ≡ true = and_l (segment f h p q) (leads f T (after p q) q cs) l in
      arrives_more (length cs) p q (or-ir (same p q) (either-segment f h p q s))
      (leads-arrives (after p q) q cs (end-free f h p q s)
      (and_r (segment f h p q) (leads f T (after p q) q cs) l))

  -- ---- each round takes in a point more, or none takes in more from there on
  abbrev Stable : ℕ → Type 0
  Stable n = (p : Point) → arrives (suc n) p ≡ true → arrives n p ≡ true

  stable-all : (n : ℕ) → Stable n → (k : ℕ) (p : Point) → arrives (k + n) p ≡ true → arrives n p ≡ true
  stable-all n s zero p h = rw zero-add at h
  stable-all n s (suc k) p h =
      let g : arrives (suc (k + n)) p ≡ true = rw suc-add at h in
      let r = of-arrives (k + n) p g in
      s p (arrives_more n p r.0 r.1 (stable-all n s k r.0 r.2))

  grown : ℕ → Point → Bool
  grown k p = arrives (suc k) p && not (arrives k p)

  not-grown : (k : ℕ) (p : Point) → grown k p ≡ false → arrives (suc k) p ≡ true → arrives k p ≡ true
  unfolding grown
  not-grown k p e h = not-ff (arrives k p) (subst (λ (b : Bool). (b && not (arrives k p)) ≡ false) h e)

  stable-or : (k : ℕ) → ((n : ℕ) × (n < k) × Stable n) ⊎ (k ≤ count (arrives k) (points W H))
  unfolding grown
  stable-or zero = inr (omega arith)
  stable-or (suc k) =
      ⊎_elim
      (λ (r : (n : ℕ) × (n < k) × Stable n). let l : r.0 < suc k = omega arith in inl (r.0, l, r.2))
      (λ (l : k ≤ count (arrives k) (points W H)). next l (true-or-false (any (grown k) (points W H))))
      (stable-or k)
    where
      next : k ≤ count (arrives k) (points W H)
          → (any (grown k) (points W H) ≡ true) ⊎ (any (grown k) (points W H) ≡ false)
          → ((n : ℕ) × (n < suc k) × Stable n) ⊎ (suc k ≤ count (arrives (suc k)) (points W H))
      next l (inl t) =
          let r = of-any (grown k) (points W H) t in
          let c : count (arrives k) (points W H) < count (arrives (suc k)) (points W H) =
          count-lt (arrives k) (arrives (suc k)) r.0 (points W H) (arrives-up k) r.1
          (not_t (arrives k r.0) (and_r (arrives (suc k) r.0) (not (arrives k r.0)) r.2))
          (and_l (arrives (suc k) r.0) (not (arrives k r.0)) r.2) in
          inr (omega arith)
      next l (inr t) =
          inl (
            k,
            omega arith,
            λ p h.
                let i = inside p.x p.y (arrives-free (suc k) p h) in
                not-grown k p (not-any (grown k) p (points W H) t (in-points W H p i.0 i.1)) h,
          )

  -- what arrives arrives by W * H segments at most
  bounded : (m : ℕ) (p : Point) → arrives m p ≡ true → (n : ℕ) × (n ≤ W * H) × (arrives n p ≡ true)
  bounded m p h =
      ⊎_elim
      (λ (r : (n : ℕ) × (n < suc (W * H)) × Stable n).
      let l : r.0 ≤ W * H = omega arith in
      let e : r.0 + m ≡ m + r.0 = omega arith in
      (r.0, l, stable-all r.0 r.2 m p (subst (λ (k : ℕ). arrives k p ≡ true) e (arrives-mono r.0 m p h))))
      (λ (l : suc (W * H) ≤ count (arrives (suc (W * H))) (points W H)).
      absurd (let c = count-length (arrives (suc (W * H))) (points W H) in let d = length-points W H in omega arith))
      (stable-or (suc (W * H)))

  -- ---- back from there to segments that alternate
  abbrev Going : Point → ℕ → Type 0
  Going p n = (cs : List Point) × (leads f T either p cs ≡ true) × (length cs ≤ n)

  -- one more corner in front
  onto : (h : Heading) (p q : Point) (cs : List Point) → segment f either p q ≡ true → after p q ≡ h
      → leads f T h q cs ≡ true → leads f T either p (q ∷ cs) ≡ true
  unfolding leads
  onto h p q cs s e l = and_i {a = segment f either p q} s (rw e l)

  level-either : (p q : Point) → Level f p q → segment f either p q ≡ true
  unfolding segment
  level-either p q a = or-il (upright_free f p q) (to_level f p q a)

  upright-either : (p q : Point) → Upright f p q → segment f either p q ≡ true
  unfolding segment
  upright-either p q a = or-ir (level_free f p q) (to-upright f p q a)

  -- p to q to r on one row: p to r, or p is r
  over-level : (p q r : Point) (cs : List Point) → Level f p q → Level f q r
      → leads f T (after q r) r cs ≡ true → Going p (suc (length cs))
  over-level p q r cs a b h =
      by_cases (ℕ_discrete p.x r.x)
      (λ (e : p.x ≡ r.x).
      let here : r ≡ p = λ i. point (sym e i) (sym (a.row ∙ b.row) i) in
      let l : length cs ≤ suc (length cs) = omega arith in
      (cs, subst (λ (z : Point). leads f T either z cs ≡ true) here (leads-either f T (after q r) r cs h), l))
      (λ (n : ¬ (p.x ≡ r.x)).
      let c : Level f p r =
      record {
        row = a.row ∙ b.row;
        apart = n;
        clear = between_join (λ (x : ℕ). f x p.y) p.x q.x r.x a.clear
            (subst (λ (y : ℕ). between (λ (x : ℕ). f x y) q.x r.x ≡ true) (sym a.row) b.clear);
      } in
      let l : length (r ∷ cs) ≤ suc (length cs) = omega arith in
      (r ∷ cs, onto (after q r) p r cs (level-either p r c) (after-level f p r c ∙ sym (after-level f q r b)) h, l))

  -- the same on one column
  over-upright : (p q r : Point) (cs : List Point) → Upright f p q → Upright f q r
      → leads f T (after q r) r cs ≡ true → Going p (suc (length cs))
  over-upright p q r cs a b h =
      by_cases (ℕ_discrete p.y r.y)
      (λ (e : p.y ≡ r.y).
      let here : r ≡ p = λ i. point (sym (a.column ∙ b.column) i) (sym e i) in
      let l : length cs ≤ suc (length cs) = omega arith in
      (cs, subst (λ (z : Point). leads f T either z cs ≡ true) here (leads-either f T (after q r) r cs h), l))
      (λ (n : ¬ (p.y ≡ r.y)).
      let c : Upright f p r =
      record {
        column = a.column ∙ b.column;
        apart = n;
        clear = between_join (λ (y : ℕ). f p.x y) p.y q.y r.y a.clear
            (subst (λ (x : ℕ). between (λ (y : ℕ). f x y) q.y r.y ≡ true) (sym a.column) b.clear);
      } in
      let l : length (r ∷ cs) ≤ suc (length cs) = omega arith in (
        r ∷ cs,
        onto (after q r) p r cs (upright-either p r c) (after-upright f p r c ∙ sym (after-upright f q r b)) h,
        l,
      ))

  -- p to q, and on from q to r the other way
  turn-upright : (p q r : Point) (cs : List Point) → Level f p q → Upright f q r
      → leads f T (after q r) r cs ≡ true → leads f T either p (q ∷ r ∷ cs) ≡ true
  unfolding leads segment
  turn-upright p q r cs a b h =
      onto upright p q (r ∷ cs) (level-either p q a) (after-level f p q a)
      (and_i {a = upright_free f q r} (to-upright f q r b) h)

  turn_level : (p q r : Point) (cs : List Point) → Upright f p q → Level f q r
      → leads f T (after q r) r cs ≡ true → leads f T either p (q ∷ r ∷ cs) ≡ true
  unfolding leads segment
  turn_level p q r cs a b h =
      onto level p q (r ∷ cs) (upright-either p q a) (after-upright f p q a)
      (and_i {a = level_free f q r} (to_level f q r b) h)

  grow : (p q r : Point) (cs : List Point) → Level f p q ⊎ Upright f p q → Level f q r ⊎ Upright f q r
      → leads f T (after q r) r cs ≡ true → Going p (suc (suc (length cs)))
  grow p q r cs (inl a) (inl b) h = let g = over-level p q r cs a b h in (g.0, g.1, omega arith)
  grow p q r cs (inl a) (inr b) h = (q ∷ r ∷ cs, turn-upright p q r cs a b h, omega arith)
  grow p q r cs (inr a) (inl b) h = (q ∷ r ∷ cs, turn_level p q r cs a b h, omega arith)
  grow p q r cs (inr a) (inr b) h = let g = over-upright p q r cs a b h in (g.0, g.1, omega arith)

  join : (p q : Point) (cs : List Point) → segment f either p q ≡ true → leads f T either q cs ≡ true
      → Going p (suc (length cs))
  unfolding leads
  join p q [] s h = (q ∷ [], and_i {a = segment f either p q} s h, omega arith)
  join p q (r ∷ cs) s h =
      grow p q r cs (of-segment f either p q s)
      (of-segment f either q r (and_l (segment f either q r) (leads f T (after q r) r cs) h))
      (and_r (segment f either q r) (leads f T (after q r) r cs) h)

  alternate : (n : ℕ) (p : Point) → arrives n p ≡ true → Going p n
  unfolding arrives_by leads
  alternate zero p h = ([], and_l (T p) (f p.x p.y) h, omega arith)
  alternate (suc n) p h =
      let r = of-arrives n p h in
      let g = alternate n r.0 r.2 in
      ⊎_elim
      (λ (e : p ≡ r.0).
      let l : length g.0 ≤ suc n = omega arith in
      (g.0, subst (λ (z : Point). leads f T either z g.0 ≡ true) (sym e) g.1, l))
      (λ (s : segment f either p r.0 ≡ true).
      let j = join p r.0 g.0 s g.1 in
      let l : length j.0 ≤ suc n = omega arith in
      (j.0, j.1, l))
      (of-linked p r.0 r.1)

  -- where the segments lead to T at all, W * H of them are enough
  pub enough : (h : Heading) (p : Point) (cs : List Point) → f p.x p.y ≡ true → leads f T h p cs ≡ true
      → (ds : List Point) × (leads f T either p ds ≡ true) × (length ds ≤ W * H)
  enough h p cs e l =
      let b = bounded (length cs) p (leads-arrives h p cs e l) in
      let g = alternate b.0 p b.2 in
      (g.0, g.1, omega arith)
