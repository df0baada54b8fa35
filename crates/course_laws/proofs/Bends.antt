-- A path of fewest bends has no more of them than any course to the target has, zero-length segments included.
use Prim.Native.Nat.{ℕ, zero, suc, ◌-◌, ◌≤◌, ◌<◌}
use native.Mathlib.Omega.{arith}
use native.Mathlib.Decide.{dec_le}
use mathlib.Core.Path.{◌≡◌, ◌∙◌}
use mathlib.Core.Bool.{Bool, true}
use mathlib.Core.List.{List, ◌∷◌}
use mathlib.Core.Logic.{by_cases}
use lib.ListN.{length}
use Rattle.foil_spec.specs.Foil.{Point}
use Rattle.foil_spec.specs.Paths.{is_path_to, bends}
use Rattle.path_laws.proofs.Segments.{leads-either}
use Rattle.path_laws.proofs.FirstPath.{to-path}
use Rattle.course_laws.specs.Course.{flip, Course, TargetFree}
use Rattle.course_laws.specs.Best.{corners, On}
use Rattle.course_laws.proofs.Best.{Fewest, level-fewest, upright-fewest}
use Rattle.course_laws.proofs.Corners.{corners-length, heading, path-leads}

module _ (f : ℕ → ℕ → Bool) (S : Point) (T : Point → Bool) (s-free : f S.x S.y ≡ true)
    (t-free : TargetFree f (On T))
    (cs : List Point) (fewest : (ds : List Point) → is_path_to f S T ds ≡ true → bends cs ≤ bends ds) where
  -- the path of fewest bends beside one of fewest segments
  beside : (m : ℕ) → Fewest f (On T) S.x S.y m → bends cs ≤ m - 1
  unfolding bends
  beside m F =
      let ps : List Point = corners F.up F.cs S.x S.y in
      let n : length ps ≡ m = corners-length F.up F.cs S.x S.y ∙ F.many in
      let l = fewest (S ∷ ps)
      (to-path f S T ps s-free
      (leads-either f T (heading F.up) S ps (path-leads f T F.up F.cs S.x S.y F.path))) in
      omega arith

  -- no m segments lead to the target, whichever way the first goes
  abbrev Unmet : ℕ → Type 0
  Unmet m = (Course m f (On T) S.x S.y → ⊥) × (Course m (flip f) (flip (On T)) S.y S.x → ⊥)

  -- nor by any number up to the bends of the path
  unmet : (n m : ℕ) → m < n → n ≤ suc (bends cs) → 1 ≤ bends cs → Unmet m
  unmet zero m l u one = absurd (omega arith)
  unmet (suc n) m l u one =
      let below : (k : ℕ) → k < m → Unmet k = λ k j. unmet n k (omega arith) (omega arith) one in (
        λ r.
            let b =
            beside m
            (level-fewest f (On T) t-free S.x S.y m (λ k j. (below k j).0) (λ k j. (below k j).1) r) in
            omega arith,
        λ r.
            let b =
            beside m
            (upright-fewest f (On T) t-free S.x S.y m (λ k j. (below k j).0) (λ k j. (below k j).1) r) in
            omega arith,
      )

  -- where n segments lead to the target, zero-length ones allowed, a path of fewest bends has no more than n − 1
  pub bends-most : (n : ℕ) → Course n f (On T) S.x S.y → bends cs ≤ n - 1
  bends-most n r =
      by_cases (dec_le (bends cs) (n - 1)) (λ l. l)
      (λ l. absurd ((unmet (suc n) n (omega arith) (omega arith) (omega arith)).0 r))
