-- `goings` lists exactly the ways to go on, in order.
use Prim.Native.Nat.{ℕ, zero, suc, ◌<◌}
use mathlib.Core.Path.{◌≡◌, refl, sym, ap, ◌∙◌, subst}
use mathlib.Core.Bool.{Bool, true, false, cond, ◌&&◌}
use mathlib.Core.List.{List, [], ◌∷◌, map}
use mathlib.Core.Logic.{inl, inr}
use lib.ListN.{length}
use Rattle.foil_spec.specs.Lists.{keep}
use Rattle.foil_spec.specs.Foil.{Point, same}
use Rattle.foil_spec.specs.Paths.{Heading, segment, after, leads, point_before, corners_before, points, goings}
use Rattle.list_laws.proofs.Tests.{and_l, and_r, and_i, or-il, or-ir}
use Rattle.list_laws.proofs.Members.{In, Sorted, in-keep, of-keep, in_map, of_map, in-each, of-each}
use Rattle.list_laws.proofs.Members.{sorted-keep, sorted-map, sorted-each}
use Rattle.path_laws.proofs.Segments.{same_self, end-free, in-points, sorted-points}

of_one : (b : Bool) (cs : List Point) → In cs (cond b ([] ∷ []) []) → (b ≡ true) × (cs ≡ [])
of_one true cs (inl e) = (refl, e)
of_one true cs (inr i) = absurd i
of_one false cs i = absurd i

sorted-one : (b : Bool) → Sorted corners_before (cond b ([] ∷ []) [])
sorted-one true = (λ y i. absurd i, tt)
sorted-one false = tt

pub before_head : (p q : Point) (cs ds : List Point) → point_before p q ≡ true
    → corners_before (p ∷ cs) (q ∷ ds) ≡ true
unfolding corners_before
before_head p q cs ds b = or-il (same p q && corners_before cs ds) b

pub before-tail : (p : Point) (cs ds : List Point) → corners_before cs ds ≡ true
    → corners_before (p ∷ cs) (p ∷ ds) ≡ true
unfolding corners_before
before-tail p cs ds b = or-ir (point_before p p) (and_i {a = same p p} (same_self p) b)

module _ (f : ℕ → ℕ → Bool) (W H : ℕ) (T : Point → Bool) where
  -- the ways to go on from p by n segments, over the next corner q
  abbrev over : ℕ → Point → Point → List (List Point)
  over n p q = map (λ (cs : List Point). q ∷ cs) (goings f W H T n (after p q) q)

  pub of-goings : (n : ℕ) (h : Heading) (p : Point) (cs : List Point)
      → In cs (goings f W H T n h p) → (leads f T h p cs ≡ true) × (length cs ≡ n)
  unfolding goings leads
  of-goings zero h p cs i =
      let r = of_one (T p) cs i in
      (subst (λ (l : List Point). leads f T h p l ≡ true) (sym r.1) r.0, ap length r.1)
  of-goings (suc n) h p cs i =
      let a = of-each (over n p) cs (keep (segment f h p) (points W H)) i in
      let b = of_map (λ (cs : List Point). a.0 ∷ cs) cs (goings f W H T n (after p a.0) a.0) a.2 in
      let r = of-goings n (after p a.0) a.0 b.0 b.1 in (
        subst (λ (l : List Point). leads f T h p l ≡ true) (sym b.2)
            (and_i {a = segment f h p a.0}
            (of-keep (segment f h p) a.0 (points W H) a.1).1 r.0),
        ap length b.2 ∙ ap suc r.1,
      )

  pub in-goings : ((x y : ℕ) → f x y ≡ true → (x < W) × (y < H)) → (h : Heading) (p : Point) (cs : List Point)
      → leads f T h p cs ≡ true → In cs (goings f W H T (length cs) h p)
  unfolding goings leads
  in-goings inside h p [] l = rw l (inl refl)
  in-goings inside h p (q ∷ cs) l =
      let s : segment f h p q ≡ true = and_l (segment f h p q) (leads f T (after p q) q cs) l in
      let i = inside q.x q.y (end-free f h p q s) in
      in-each (over (length cs) p) (q ∷ cs) q (keep (segment f h p) (points W H))
      (in-keep (segment f h p) q (points W H) (in-points W H q i.0 i.1) s)
      (in_map (λ (ds : List Point). q ∷ ds) cs (goings f W H T (length cs) (after p q) q)
      (in-goings inside (after p q) q cs (and_r (segment f h p q) (leads f T (after p q) q cs) l)))

  pub sorted-goings : (n : ℕ) (h : Heading) (p : Point) → Sorted corners_before (goings f W H T n h p)
  unfolding goings
  sorted-goings zero h p = sorted-one (T p)
  sorted-goings (suc n) h p =
      sorted-each point_before corners_before (over n p) (keep (segment f h p) (points W H))
      (sorted-keep point_before (segment f h p) (points W H) (sorted-points W H))
      (λ q i.
      sorted-map corners_before corners_before (λ (cs : List Point). q ∷ cs) (goings f W H T n (after p q) q)
      (sorted-goings n (after p q) q) (λ cs ds b. before-tail q cs ds b))
      (λ q r u v b hu hv.
      let c = of_map (λ (cs : List Point). q ∷ cs) u (goings f W H T n (after p q) q) hu in
      let d = of_map (λ (cs : List Point). r ∷ cs) v (goings f W H T n (after p r) r) hv in
      rw (c.2, d.2) (before_head q r c.0 d.0 b))
