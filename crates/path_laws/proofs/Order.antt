-- The order of paths, by length and then by corners, and the first of a list of paths.
use Prim.Native.Nat.{◌≤◌, ◌<◌}
use native.Mathlib.Omega.{arith}
use native.Mathlib.Decide.{dec_lt}
use mathlib.Core.Path.{◌≡◌, refl, sym, ap, subst}
use mathlib.Core.Bool.{Bool, true, false, cond, ◌&&◌}
use mathlib.Core.List.{List, [], ◌∷◌}
use mathlib.Core.Logic.{◌⊎◌, inl, inr, ⊎_elim, by_cases}
use lib.Dec.{ltb, eqb}
use borrow.Author.Tests.{ltb-true, ltb-false, lt-ltb, eqb-true, eq-eqb}
use Rattle.foil_spec.specs.Foil.{Point, same}
use Rattle.foil_spec.specs.Paths.{point_before, corners_before, steps_from, path_length, before, shortest}
use Rattle.list_laws.proofs.Tests.{clash, and_l, and_r, and_i, or_cases, or-il, or-ir}
use Rattle.list_laws.proofs.Members.{In, Sorted}
use Rattle.path_laws.proofs.Segments.{same-eq}
use Rattle.path_laws.proofs.Goings.{before-tail}

-- the order of corners is strict
pub order : (p q : Point) → point_before p q ≡ true → (p.y < q.y) ⊎ ((p.y ≡ q.y) × (p.x < q.x))
unfolding point_before
order p q h =
    ⊎_elim
    (λ k. inl (ltb-true p.y q.y k))
    (λ k.
    inr (
      eqb-true p.y q.y (and_l (eqb p.y q.y) (ltb p.x q.x) k),
      ltb-true p.x q.x (and_r (eqb p.y q.y) (ltb p.x q.x) k),
    ))
    (or_cases (ltb p.y q.y) (eqb p.y q.y && ltb p.x q.x) h)

not-both : (p q : Point) → (p.y < q.y) ⊎ ((p.y ≡ q.y) × (p.x < q.x))
    → (q.y < p.y) ⊎ ((q.y ≡ p.y) × (q.x < p.x)) → ⊥
not-both p q (inl a) (inl b) = omega arith
not-both p q (inl a) (inr b) = omega arith
not-both p q (inr a) (inl b) = omega arith
not-both p q (inr a) (inr b) = omega arith

not-self : (p q : Point) → point_before p q ≡ true → p ≡ q → ⊥
not-self p q h e = go (order p q h)
  where
    go : (p.y < q.y) ⊎ ((p.y ≡ q.y) × (p.x < q.x)) → ⊥
    go (inl a) = let ey = ap (λ (z : Point). z.y) e in omega arith
    go (inr a) = let ex = ap (λ (z : Point). z.x) e in omega arith

pub corners-both : (cs ds : List Point) → corners_before cs ds ≡ true → corners_before ds cs ≡ true → ⊥
unfolding corners_before
corners-both [] ds h k = clash h refl
corners-both (p ∷ cs) [] h k = clash h refl
corners-both (p ∷ cs) (q ∷ ds) h k =
    ⊎_elim
    (λ (a : point_before p q ≡ true).
    ⊎_elim
    (λ (b : point_before q p ≡ true). not-both p q (order p q a) (order q p b))
    (λ (b : (same q p && corners_before ds cs) ≡ true).
    not-self p q a (sym (same-eq q p (and_l (same q p) (corners_before ds cs) b))))
    (or_cases (point_before q p) (same q p && corners_before ds cs) k))
    (λ (a : (same p q && corners_before cs ds) ≡ true).
    ⊎_elim
    (λ (b : point_before q p ≡ true). not-self q p b (sym (same-eq p q (and_l (same p q) (corners_before cs ds) a))))
    (λ (b : (same q p && corners_before ds cs) ≡ true).
    corners-both cs ds (and_r (same p q) (corners_before cs ds) a) (and_r (same q p) (corners_before ds cs) b))
    (or_cases (point_before q p) (same q p && corners_before ds cs) k))
    (or_cases (point_before p q) (same p q && corners_before cs ds) h)

-- what the order of paths says
pub by_length : (cs ds : List Point) → path_length cs < path_length ds → before cs ds ≡ true
unfolding before
by_length cs ds l =
    or-il (eqb (path_length cs) (path_length ds) && corners_before cs ds) (lt-ltb (path_length cs) (path_length ds) l)

pub by-corners : (cs ds : List Point) → path_length cs ≡ path_length ds → corners_before cs ds ≡ true → before cs ds ≡ true
unfolding before
by-corners cs ds e b =
    or-ir (ltb (path_length cs) (path_length ds))
    (and_i {a = eqb (path_length cs) (path_length ds)} (eq-eqb (path_length cs) (path_length ds) e) b)

pub of-before : (cs ds : List Point) → before cs ds ≡ true
    → (path_length cs < path_length ds) ⊎ ((path_length cs ≡ path_length ds) × (corners_before cs ds ≡ true))
unfolding before
of-before cs ds h =
    ⊎_elim (λ k. inl (ltb-true (path_length cs) (path_length ds) k))
    (λ k.
    inr (
      eqb-true (path_length cs) (path_length ds) (and_l (eqb (path_length cs) (path_length ds)) (corners_before cs ds) k),
      and_r (eqb (path_length cs) (path_length ds)) (corners_before cs ds) k,
    ))
    (or_cases (ltb (path_length cs) (path_length ds))
    (eqb (path_length cs) (path_length ds) && corners_before cs ds) h)

-- Of ways to go on from p whose corners are in order, `shortest` takes the first in the order of paths.
module _ (p : Point) where
  -- cs comes no later than ds
  abbrev NoLater : List Point → List Point → Type 0
  NoLater cs ds = (cs ≡ ds) ⊎ (before (p ∷ cs) (p ∷ ds) ≡ true)

  pub in-shortest : (cs : List Point) (more : List (List Point)) → In (shortest p cs more) (cs ∷ more)
  unfolding shortest
  in-shortest cs [] = inl refl
  in-shortest cs (ds ∷ more) = pick (ltb (steps_from p ds) (steps_from p cs)) (λ t. in-shortest t more)
    where
      pick : (b : Bool) → ((t : List Point) → In (shortest p t more) (t ∷ more))
          → In (shortest p (cond b ds cs) more) (cs ∷ ds ∷ more)
      pick true ih = inr (ih ds)
      pick false ih = ⊎_elim (λ e. inl e) (λ i. inr (inr i)) (ih cs)

  -- it is cs, or shorter than cs
  abbrev Head : List Point → List Point → Type 0
  Head r cs = (r ≡ cs) ⊎ (steps_from p r < steps_from p cs)

  shortest-head : (cs : List Point) (more : List (List Point)) → Head (shortest p cs more) cs
  unfolding shortest
  shortest-head cs [] = inl refl
  shortest-head cs (ds ∷ more) =
      pick (ltb (steps_from p ds) (steps_from p cs)) refl (λ t. shortest-head t more)
    where
      pick : (b : Bool) → ltb (steps_from p ds) (steps_from p cs) ≡ b
          → ((t : List Point) → Head (shortest p t more) t) → Head (shortest p (cond b ds cs) more) cs
      pick false e ih = ih cs
      pick true e ih =
          let l = ltb-true (steps_from p ds) (steps_from p cs) e in
          ⊎_elim
          (λ (q : shortest p ds more ≡ ds). inr (let k = ap (steps_from p) q in omega arith))
          (λ (q : steps_from p (shortest p ds more) < steps_from p ds). inr (omega arith))
          (ih ds)

  less : (cs ds : List Point) → steps_from p cs < steps_from p ds → NoLater cs ds
  unfolding path_length
  less cs ds l = inr (by_length (p ∷ cs) (p ∷ ds) l)

  no_more : (cs ds : List Point) → steps_from p cs ≤ steps_from p ds → corners_before cs ds ≡ true → NoLater cs ds
  unfolding path_length
  no_more cs ds l b =
      by_cases (dec_lt (steps_from p cs) (steps_from p ds)) (λ k. less cs ds k)
      (λ k. inr (by-corners (p ∷ cs) (p ∷ ds) (omega arith) (before-tail p cs ds b)))

  pub shortest-first : (cs : List Point) (more : List (List Point)) → Sorted corners_before (cs ∷ more)
      → (es : List Point) → In es (cs ∷ more) → NoLater (shortest p cs more) es
  unfolding shortest
  shortest-first cs [] s es (inl e) = inl (sym e)
  shortest-first cs [] s es (inr i) = absurd i
  shortest-first cs (ds ∷ more) s es i =
      pick (ltb (steps_from p ds) (steps_from p cs)) refl i (λ t o. shortest-first t more o es)
    where
      -- what is cs, or shorter, comes no later than ds, where cs does
      over : (r : List Point) → Head r cs → steps_from p cs ≤ steps_from p ds → NoLater r ds
      over r (inl e) l = subst (λ (t : List Point). NoLater t ds) (sym e) (no_more cs ds l (s.0 ds (inl refl)))
      over r (inr k) l = less r ds (omega arith)

      -- what is ds, or shorter, comes before cs, where ds is shorter
      under : (r : List Point) → Head r ds → steps_from p ds < steps_from p cs → NoLater r cs
      under r (inl e) l = less r cs (let k = ap (steps_from p) e in omega arith)
      under r (inr k) l = less r cs (omega arith)

      pick : (b : Bool) → ltb (steps_from p ds) (steps_from p cs) ≡ b → In es (cs ∷ ds ∷ more)
          → ((t : List Point) → Sorted corners_before (t ∷ more) → In es (t ∷ more) → NoLater (shortest p t more) es)
          → NoLater (shortest p (cond b ds cs) more) es
      pick true e (inl q) ih =
          subst (λ (t : List Point). NoLater (shortest p ds more) t) (sym q)
          (under (shortest p ds more) (shortest-head ds more) (ltb-true (steps_from p ds) (steps_from p cs) e))
      pick true e (inr j) ih = ih ds s.1 j
      pick false e (inl q) ih = ih cs (λ y j. s.0 y (inr j), s.1.1) (inl q)
      pick false e (inr (inl q)) ih =
          subst (λ (t : List Point). NoLater (shortest p cs more) t) (sym q)
          (over (shortest p cs more) (shortest-head cs more) (ltb-false (steps_from p ds) (steps_from p cs) e))
      pick false e (inr (inr j)) ih = ih cs (λ y j. s.0 y (inr j), s.1.1) (inr j)
