-- A way is a path from its first corner to its last one, and all its corners are free.
use Prim.Native.Nat.{ℕ}
use mathlib.Core.Path.{◌≡◌, refl}
use mathlib.Core.Bool.{Bool, true, ◌&&◌}
use mathlib.Core.List.{List, [], ◌∷◌}
use Rattle.foil_spec.specs.Lists.{all}
use Rattle.foil_spec.specs.Foil.{Point}
use Rattle.foil_spec.specs.Paths.{at, anywhere, Heading, either, after, segment, leads, is_path_to, is_path, is_way}
use Rattle.list_laws.proofs.Tests.{clash, and_l, and_r, and_i, parts}
use Rattle.path_laws.proofs.Segments.{same_self, end-free}
use Rattle.path_laws.proofs.FirstPath.{to-path}

module _ (f : ℕ → ℕ → Bool) where
  -- a way: its first corner is free, and the others lead on from there
  pub way-is : (p : Point) (cs : List Point) → is_way f (p ∷ cs) ≡ (f p.x p.y && leads f anywhere either p cs)
  unfolding is_way is_path_to
  way-is p cs = rw (same_self p) refl

  -- corners that lead to a target lead somewhere
  leads-anywhere : (T : Point → Bool) (h : Heading) (p : Point) (cs : List Point) → leads f T h p cs ≡ true
      → leads f anywhere h p cs ≡ true
  unfolding leads
  leads-anywhere T h p [] l = refl
  leads-anywhere T h p (q ∷ cs) l =
      and_i {a = segment f h p q}
      (and_l (segment f h p q) (leads f T (after p q) q cs) l)
      (leads-anywhere T (after p q) q cs (and_r (segment f h p q) (leads f T (after p q) q cs) l))

  pub path-way : (S : Point) (T : Point → Bool) (cs : List Point) → is_path_to f S T cs ≡ true → is_way f cs ≡ true
  unfolding is_path_to
  path-way S T [] h = clash h refl
  path-way S T (p ∷ cs) h =
      let e : f p.x p.y ≡ true = search parts in
      let l : leads f T either p cs ≡ true = search parts in
      rw (way-is p cs, e, leads-anywhere T either p cs l) refl

  -- corners that lead somewhere lead to the last of them
  leads-last : (h : Heading) (p : Point) (cs : List Point) → leads f anywhere h p cs ≡ true
      → (T : Point) × (leads f (at T) h p cs ≡ true)
  unfolding leads
  leads-last h p [] l = (p, same_self p)
  leads-last h p (q ∷ cs) l =
      let k = leads-last (after p q) q cs (and_r (segment f h p q) (leads f anywhere (after p q) q cs) l) in
      (k.0, and_i {a = segment f h p q} (and_l (segment f h p q) (leads f anywhere (after p q) q cs) l) k.1)

  pub way-path : (cs : List Point) → is_way f cs ≡ true → (S T : Point) × (is_path f S T cs ≡ true)
  unfolding is_way is_path_to
  way-path [] w = clash w refl
  way-path (p ∷ cs) w =
      let e : f p.x p.y ≡ true = search parts in
      let l : leads f anywhere either p cs ≡ true = search parts in
      let k = leads-last either p cs l in
      (p, k.0, to-path f p (at k.0) cs e k.1)

  free_on : (h : Heading) (p : Point) (cs : List Point) → leads f anywhere h p cs ≡ true
      → all (λ (q : Point). f q.x q.y) cs ≡ true
  unfolding leads
  free_on h p [] l = refl
  free_on h p (q ∷ cs) l =
      and_i {a = f q.x q.y}
      (end-free f h p q (and_l (segment f h p q) (leads f anywhere (after p q) q cs) l))
      (free_on (after p q) q cs (and_r (segment f h p q) (leads f anywhere (after p q) q cs) l))

  -- every corner of a way is free
  pub corners-free : (cs : List Point) → is_way f cs ≡ true → all (λ (q : Point). f q.x q.y) cs ≡ true
  unfolding is_way is_path_to
  corners-free [] w = clash w refl
  corners-free (p ∷ cs) w =
      let e : f p.x p.y ≡ true = search parts in
      let l : leads f anywhere either p cs ≡ true = search parts in
      and_i {a = f p.x p.y} e (free_on either p cs l)
