-- The legs of a way are entries that a table may hold, over the points of the way, and how many they are.
use Prim.Native.Nat.{ℕ, suc, ◌-◌, ◌≤◌, ◌<◌, min, max}
use native.Mathlib.Omega.{arith}
use mathlib.Core.Path.{◌≡◌, refl, ap, subst}
use mathlib.Core.Bool.{Bool, true, ◌||◌, or-true}
use mathlib.Core.List.{List, [], ◌∷◌}
use mathlib.Core.Logic.{◌⊎◌, inl, inr, ⊎_elim}
use lib.Dec.{eqb}
use lib.ListN.{length}
use borrow.Author.Tests.{lt-ltb, le-leb, eq-eqb}
use Rattle.foil_spec.specs.Lists.{all}
use Rattle.foil_spec.specs.Foil.{Point, Entry, net_ok, box_ok, shape_ok, entry_ok}
use Rattle.foil_spec.specs.Paths.{Heading, either, segment, after, leads, is_path_to, anywhere, is_way}
use Rattle.foil_spec.specs.Ledger.{leg, legs_from, legs}
use Rattle.list_laws.proofs.Tests.{and_l, and_r, and_i, parts}
use Rattle.list_laws.proofs.Members.{In}
use Rattle.path_laws.proofs.Segments.{Level, Upright, between-at, of-segment, end-free}
use Rattle.ledger_laws.specs.Apart.{Has}

module _ (W H net : ℕ) (ok : net_ok net ≡ true) where
  leg-ok : (p q : Point) → (p.x < W) × (p.y < H) → (q.x < W) × (q.y < H) → (p.x ≡ q.x) ⊎ (p.y ≡ q.y)
      → entry_ok W H (leg net p q) ≡ true
  unfolding entry_ok box_ok shape_ok leg
  leg-ok p q i j d =
      simp (
        lt-ltb (min p.x q.x) (suc (max p.x q.x)) (omega arith),
        lt-ltb (min p.y q.y) (suc (max p.y q.y)) (omega arith),
        le-leb (suc (max p.x q.x)) W (omega arith),
        le-leb (suc (max p.y q.y)) H (omega arith),
        ok,
      ) (thin d)
    where
      thin : (p.x ≡ q.x) ⊎ (p.y ≡ q.y)
          → (eqb net 0
          || (eqb (suc (max p.x q.x)) (suc (min p.x q.x))
          || eqb (suc (max p.y q.y)) (suc (min p.y q.y)))) ≡ true
      thin (inl e) = simp (eq-eqb (suc (max p.x q.x)) (suc (min p.x q.x)) (omega arith), or-true)
      thin (inr e) = simp (eq-eqb (suc (max p.y q.y)) (suc (min p.y q.y)) (omega arith), or-true)

  module _ (f : ℕ → ℕ → Bool) (inside : (x y : ℕ) → f x y ≡ true → (x < W) × (y < H)) where
    in-line : (h : Heading) (p q : Point) → segment f h p q ≡ true → (p.x ≡ q.x) ⊎ (p.y ≡ q.y)
    in-line h p q s =
        ⊎_elim (λ (a : Level f p q). inr a.row) (λ (a : Upright f p q). inl a.column) (of-segment f h p q s)

    from-ok : (h : Heading) (p : Point) (cs : List Point) → f p.x p.y ≡ true → leads f anywhere h p cs ≡ true
        → all (entry_ok W H) (legs_from net p cs) ≡ true
    unfolding leads legs_from
    from-ok h p [] e l = refl
    from-ok h p (q ∷ cs) e l =
        let s : segment f h p q ≡ true = and_l (segment f h p q) (leads f anywhere (after p q) q cs) l in
        let e' = end-free f h p q s in
        and_i {a = entry_ok W H (leg net p q)}
        (leg-ok p q (inside p.x p.y e) (inside q.x q.y e') (in-line h p q s))
        (from-ok (after p q) q cs e' (and_r (segment f h p q) (leads f anywhere (after p q) q cs) l))

    pub legs-ok : (cs : List Point) → is_way f cs ≡ true → all (entry_ok W H) (legs net cs) ≡ true
    unfolding is_way is_path_to legs
    legs-ok [] h = refl
    legs-ok (p ∷ []) h =
        let e : f p.x p.y ≡ true = search parts in
        let i = inside p.x p.y e in
        and_i {a = entry_ok W H (leg net p p)} (leg-ok p p i i (inl refl)) refl
    legs-ok (p ∷ q ∷ cs) h =
        let e : f p.x p.y ≡ true = search parts in
        let l : leads f anywhere either p (q ∷ cs) ≡ true = search parts in
        from-ok either p (q ∷ cs) e l

-- ---- the points of a way

module _ (f : ℕ → ℕ → Bool) (net : ℕ) where
  -- those of a segment
  leg-free : (h : Heading) (p q : Point) → segment f h p q ≡ true → (r : Point) → Has (leg net p q) r
      → f r.x r.y ≡ true
  unfolding leg
  leg-free h p q s r on = ⊎_elim level upright (of-segment f h p q s)
    where
      level : Level f p q → f r.x r.y ≡ true
      level a =
          let e : p.y ≡ r.y = omega (arith, a.row, on.from-y, on.to-y) in
          subst (λ (y : ℕ). f r.x y ≡ true) e
          (between-at (λ (x : ℕ). f x p.y) p.x q.x r.x a.clear (omega (arith, on.from-x))
          (omega (arith, on.to-x)))

      upright : Upright f p q → f r.x r.y ≡ true
      upright a =
          let e : p.x ≡ r.x = omega (arith, a.column, on.from-x, on.to-x) in
          subst (λ (x : ℕ). f x r.y ≡ true) e
          (between-at (λ (y : ℕ). f p.x y) p.y q.y r.y a.clear (omega (arith, on.from-y))
          (omega (arith, on.to-y)))

  legs-from-free : (h : Heading) (p : Point) (cs : List Point) → leads f anywhere h p cs ≡ true
      → (e : Entry) → In e (legs_from net p cs) → (r : Point) → Has e r → f r.x r.y ≡ true
  unfolding leads legs_from
  legs-from-free h p [] l e i r on = absurd i
  legs-from-free h p (q ∷ cs) l e (inl is) r on =
      leg-free h p q (and_l (segment f h p q) _ l) r (subst (λ (x : Entry). Has x r) is on)
  legs-from-free h p (q ∷ cs) l e (inr i) r on =
      legs-from-free (after p q) q cs (and_r (segment f h p q) _ l) e i r on

  pub legs-free : (cs : List Point) → is_way f cs ≡ true → (e : Entry) → In e (legs net cs) → (r : Point) → Has e r
      → f r.x r.y ≡ true
  unfolding is_way is_path_to legs leg
  legs-free [] w e i r on = absurd i
  legs-free (p ∷ []) w e (inl is) r on =
      let here : f p.x p.y ≡ true = search parts in
      let o = subst (λ (x : Entry). Has x r) is on in
      let ex : p.x ≡ r.x = omega (arith, o.from-x, o.to-x) in
      let ey : p.y ≡ r.y = omega (arith, o.from-y, o.to-y) in
      subst (λ (y : ℕ). f r.x y ≡ true) ey (subst (λ (x : ℕ). f x p.y ≡ true) ex here)
  legs-free (p ∷ []) w e (inr i) r on = absurd i
  legs-free (p ∷ q ∷ cs) w e i r on =
      let l : leads f anywhere either p (q ∷ cs) ≡ true = search parts in
      legs-from-free either p (q ∷ cs) l e i r on

-- and each of its legs is of its net
net-from : (net : ℕ) (p : Point) (cs : List Point) (e : Entry) → In e (legs_from net p cs) → e.net ≡ net
unfolding legs_from leg
net-from net p [] e i = absurd i
net-from net p (q ∷ cs) e (inl is) = ap (λ (x : Entry). x.net) is
net-from net p (q ∷ cs) e (inr i) = net-from net q cs e i

pub legs-net : (net : ℕ) (cs : List Point) (e : Entry) → In e (legs net cs) → e.net ≡ net
unfolding legs leg
legs-net net [] e i = absurd i
legs-net net (p ∷ []) e (inl is) = ap (λ (x : Entry). x.net) is
legs-net net (p ∷ []) e (inr i) = absurd i
legs-net net (p ∷ q ∷ cs) e i = net-from net p (q ∷ cs) e i

-- ---- counted

length_from : (net : ℕ) (p : Point) (cs : List Point) → length (legs_from net p cs) ≡ length cs
unfolding legs_from
length_from net p [] = refl
length_from net p (q ∷ cs) = omega (arith, length_from net q cs)

pub length-legs : (net : ℕ) (cs : List Point) → 1 ≤ length cs → length (legs net cs) ≡ max 1 (length cs - 1)
unfolding legs
length-legs net [] h = absurd (omega arith)
length-legs net (p ∷ []) h = refl
length-legs net (p ∷ q ∷ cs) h = omega (arith, length_from net p (q ∷ cs))
