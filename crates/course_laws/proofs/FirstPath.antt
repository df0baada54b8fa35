-- The best path to a target is what `first_path_to` gives.
use Prim.Native.Nat.{ℕ, suc, ◌≤◌, ◌<◌}
use native.Mathlib.Omega.{arith}
use native.Mathlib.Decide.{dec_lt}
use mathlib.Core.Path.{◌≡◌, refl, sym, ap, ◌∙◌, subst}
use mathlib.Core.Bool.{Bool, true}
use mathlib.Core.Logic.{◌⊎◌, inl, inr, ⊎_elim, by_cases}
use mathlib.Core.List.{List, ◌∷◌}
use mathlib.Core.Option.{Option, none, some}
use lib.ListN.{length}
use Rattle.foil_spec.specs.Foil.{Point}
use Rattle.foil_spec.specs.Paths.{either, leads, is_path_to, bends, corners_before, path_length, before, first_path_to}
use Rattle.path_laws.proofs.Segments.{leads-either}
use Rattle.path_laws.proofs.Goings.{before-tail}
use Rattle.path_laws.proofs.Order.{by_length, by-corners}
use Rattle.path_laws.proofs.FirstPath.{of-path, to-path, fewer-shorter}
use Rattle.path_laws.specs.First.{IsFirst}
use Rattle.path_laws.proofs.Laws.{to-first, gives-first, gives_none, first-is, none_is}
use Rattle.course_laws.specs.Best.{PathD, ink_d, Best, corners, On}
use Rattle.course_laws.proofs.Best.{Fewest}
use Rattle.course_laws.proofs.Corners.{corners-length, corners-ink, heading, path-leads, either-path}
use Rattle.course_laws.proofs.Corners.{lexd-before}

module _ (f : ℕ → ℕ → Bool) (W H : ℕ) (inside : (x y : ℕ) → f x y ≡ true → (x < W) × (y < H)) (S : Point)
    (T : Point → Bool) where
  module _ (s-free : f S.x S.y ≡ true) (up : Bool) (cs : List ℕ) (B : Best up cs f (On T) S.x S.y) where
    best-leads : leads f T either S (corners up cs S.x S.y) ≡ true
    best-leads =
        leads-either f T (heading up) S (corners up cs S.x S.y)
        (path-leads f T up cs S.x S.y B.path)

    abbrev best : List Point
    best = S ∷ corners up cs S.x S.y

    -- it comes first among the paths of as many segments
    best-before : (d : Bool) (ks : List ℕ) → PathD d ks f (On T) S.x S.y → length cs ≡ length ks
        → (best ≡ S ∷ corners d ks S.x S.y) ⊎ (before best (S ∷ corners d ks S.x S.y) ≡ true)
    unfolding path_length
    best-before d ks q m =
        let l = B.shortest d ks q m in
        let i = corners-ink up cs S.x S.y in
        let k = corners-ink d ks S.x S.y in
        let ps : List Point = corners up cs S.x S.y in
        let qs : List Point = corners d ks S.x S.y in
        by_cases (dec_lt (ink_d up cs S.x S.y) (ink_d d ks S.x S.y))
        (λ z. inr (by_length (S ∷ ps) (S ∷ qs) (omega arith)))
        (λ z.
        ⊎_elim (λ (e : ps ≡ qs). inl (ap (λ (l : List Point). S ∷ l) e))
        (λ (b : corners_before ps qs ≡ true). inr (by-corners (S ∷ ps) (S ∷ qs) (omega arith) (before-tail S ps qs b)))
        (lexd-before up d cs ks S.x S.y m (B.first d ks q m (omega arith))))

    module _ (ds : List Point) (p : is_path_to f S T ds ≡ true) where
      fewest : length (corners up cs S.x S.y) ≤ length (of-path f S T ds p).rest
      fewest =
          let r = of-path f S T ds p in
          let k = either-path f T S r.rest r.on in
          let l = B.fewest k.0 k.1 k.2 in
          let a = corners-length up cs S.x S.y in
          let b = corners-length k.0 k.1 S.x S.y in
          let c = ap length k.3 in
          omega arith

      no-later : bends ds ≡ bends best → (best ≡ ds) ⊎ (before best ds ≡ true)
      no-later e =
          let r = of-path f S T ds p in
          let k = either-path f T S r.rest r.on in
          let a = corners-length up cs S.x S.y in
          let b = corners-length k.0 k.1 S.x S.y in
          let c = ap length k.3 in
          let few = fewest in
          by_cases (dec_lt (length (corners up cs S.x S.y)) (length r.rest))
          (λ more.
          let shorter =
          fewer-shorter f S T (corners up cs S.x S.y) r.rest r.on more (ap bends (sym r.is) ∙ e) in
          inr (by_length best ds (omega (arith, shorter, ap path_length r.is))))
          (λ as_many.
          subst (λ (l : List Point). (best ≡ l) ⊎ (before best l ≡ true))
          (ap (λ (l : List Point). S ∷ l) (sym k.3) ∙ sym r.is)
          (best-before k.0 k.1 k.2 (omega arith)))

    best-is-first : IsFirst f S T best
    unfolding bends
    best-is-first =
        to-first f S T best (to-path f S T (corners up cs S.x S.y) s-free best-leads)
        (λ ds p. let l = fewest ds p in let e = ap length (of-path f S T ds p).is in omega arith) no-later

    pub best-first : first_path_to f W H S T ≡ some (S ∷ corners up cs S.x S.y)
    best-first = first-is f W H inside S T best best-is-first

  pub none_first : ((d : Bool) (ks : List ℕ) → PathD d ks f (On T) S.x S.y → ⊥) → first_path_to f W H S T ≡ none
  none_first h =
      none_is f W H inside S T
      (λ ds p.
      let r = of-path f S T ds p in
      let k = either-path f T S r.rest r.on in
      h k.0 k.1 k.2)

  -- first_path_to gives one corner more than a path of fewest segments has segments
  pub fewest-first : f S.x S.y ≡ true → (n : ℕ) → Fewest f (On T) S.x S.y n
      → (cs : List Point) × (first_path_to f W H S T ≡ some cs) × (length cs ≡ suc n)
  unfolding bends
  fewest-first s-free n F = go (first_path_to f W H S T) refl
    where
      ps : List Point
      ps = corners F.up F.cs S.x S.y

      leads-ps : leads f T either S ps ≡ true
      leads-ps = leads-either f T (heading F.up) S ps (path-leads f T F.up F.cs S.x S.y F.path)

      go : (o : Option (List Point)) → first_path_to f W H S T ≡ o
          → (cs : List Point) × (o ≡ some cs) × (length cs ≡ suc n)
      go none h = absurd (gives_none f W H inside S T h (S ∷ ps) (to-path f S T ps s-free leads-ps))
      go (some cs) h =
          let a = gives-first f W H inside S T cs h in
          let b = a.fewest (S ∷ ps) (to-path f S T ps s-free leads-ps) in
          let r = of-path f S T cs a.path in
          let k = either-path f T S r.rest r.on in
          let l = F.least k.0 k.1 k.2 in
          let e = F.many in
          let m = corners-length F.up F.cs S.x S.y in
          let o = corners-length k.0 k.1 S.x S.y in
          let u = ap length r.is in
          let v = ap length k.3 in
          let no-fewer = a.shortest (S ∷ ps) (to-path f S T ps s-free leads-ps) in
          by_cases (dec_lt (length ps) (length r.rest))
          (λ more.
          let bent : bends (S ∷ ps) ≡ bends cs = omega arith in
          let shorter = fewer-shorter f S T ps r.rest r.on more (ap bends (sym r.is) ∙ sym bent) in
          absurd (omega (arith, no-fewer bent, shorter, ap path_length r.is)))
          (λ as_many. (cs, refl, omega arith))
