-- The end of a path is free: a target may ask for that besides, and the paths to it are the same.
use Prim.Native.Nat.{ℕ}
use mathlib.Core.Path.{◌≡◌, refl, sym, ap, ◌∙◌}
use mathlib.Core.Bool.{Bool, true, ◌&&◌, and-true, and-false}
use mathlib.Core.List.{List, [], ◌∷◌}
use Rattle.foil_spec.specs.Foil.{Point, same}
use Rattle.foil_spec.specs.Paths.{Heading, either, after, segment, leads, is_path_to}
use Rattle.list_laws.proofs.Tests.{both}
use Rattle.path_laws.specs.First.{IsFirst}
use Rattle.path_laws.proofs.Segments.{end-free}

module _ (f : ℕ → ℕ → Bool) (T : Point → Bool) where
  -- a point of the target that is free
  abbrev pub free_in : Point → Bool
  free_in p = T p && f p.x p.y

  leads-ends : (h : Heading) (p : Point) (cs : List Point) → f p.x p.y ≡ true
      → leads f free_in h p cs ≡ leads f T h p cs
  unfolding leads
  leads-ends h p [] e = rw e (and-true (T p))
  leads-ends h p (q ∷ cs) e =
      both (segment f h p q)
      (λ t. ap (λ (b : Bool). segment f h p q && b) (leads-ends (after p q) q cs (end-free f h p q t)))
      (λ t. rw t refl)

  pub path-ends : (S : Point) (cs : List Point) → is_path_to f S free_in cs ≡ is_path_to f S T cs
  unfolding is_path_to
  path-ends S [] = refl
  path-ends S (p ∷ cs) =
      both (f p.x p.y)
      (λ t. ap (λ (b : Bool). same p S && f p.x p.y && b) (leads-ends either p cs t))
      (λ t. rw (t, and-false (same p S)) refl)

  -- so is the first of them
  pub first_ends : (S : Point) (cs : List Point) → IsFirst f S free_in cs → IsFirst f S T cs
  first_ends S cs a =
      record {
        path = sym (path-ends S cs) ∙ a.path;
        fewest = λ ds p. a.fewest ds (path-ends S ds ∙ p);
        shortest = λ ds p. a.shortest ds (path-ends S ds ∙ p);
        first = λ ds p. a.first ds (path-ends S ds ∙ p);
      }
