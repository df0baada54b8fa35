-- The bound on bends by the number of strips, for any path of fewest bends.
use Prim.Native.Nat.{ℕ, zero, suc, ◌-◌, ◌*◌, ◌+◌, ◌≤◌}
use native.Mathlib.Omega.{arith}
use native.Mathlib.Decide.{ℕ_discrete}
use mathlib.Core.Path.{◌≡◌, refl, sym, ◌∙◌}
use mathlib.Core.Bool.{Bool, true, false}
use mathlib.Core.List.{List}
use mathlib.Core.Logic.{by_cases, ◌≢◌}
use lib.ListN.{length}
use borrow.Author.Tests.{eq-eqb, ne_eqb}
use Rattle.foil_spec.specs.Foil.{Point, point}
use Rattle.foil_spec.specs.Strips.{strips}
use Rattle.list_laws.proofs.Tests.{and_r}
use Rattle.path_laws.proofs.FirstPath.{of-path}
use Rattle.path_laws.proofs.Ends.{free_in, path-ends}
use Rattle.course_laws.specs.Course.{flip, Course}
use Rattle.course_laws.specs.Best.{PathD, On}
use Rattle.course_laws.proofs.Greedy.{path-course}
use Rattle.course_laws.proofs.Corners.{either-path}
use Rattle.course_laws.proofs.Bends.{bends-most}
use Rattle.box_laws.specs.Bound.{bend_bound, OnFoil, FewestBends}
use Rattle.box_laws.proofs.Trails.{CourseD, segments_for, strips-met, trail-course, course-trail}

-- ---- the numbers

-- two more for each strip from the second on
segments-is : (n : ℕ) → segments_for (suc n) ≡ 2 * n + 3
segments-is zero = refl
segments-is (suc n) = let h = segments-is n in omega arith

-- no more than two for each strip
pub segments-most : (n : ℕ) → segments_for n ≤ 2 * suc n
segments-most zero = omega arith
segments-most (suc n) = omega (arith, segments-is n)

-- a trail over n + 1 of K strips has no more bends than the bound
bound-covers : (n K : ℕ) → suc n ≤ K → segments_for n - 1 ≤ bend_bound K
unfolding bend_bound
bound-covers zero K l =
    by_cases (ℕ_discrete K 1) (λ e. rw (eq-eqb K 1 e) (omega arith)) (λ e. rw (ne_eqb K 1 e) (omega arith))
bound-covers (suc n) K l =
    let e : K ≢ 1 = λ e. omega arith in
    let h = segments-is n in
    rw (ne_eqb K 1 e) (omega arith)

-- the bound where there are no more than M strips, M being 2 or more
pub bound-most : (K M : ℕ) → K ≤ M → 2 ≤ M → bend_bound K ≤ 2 * M - 2
unfolding bend_bound
bound-most K M l m =
    by_cases (ℕ_discrete K 1) (λ e. rw (eq-eqb K 1 e) (omega arith)) (λ e. rw (ne_eqb K 1 e) (omega arith))

-- ---- the theorem

-- few segments from a free point to a target, beside any that lead there
pub few-segments : (f : ℕ → ℕ → Bool) (W H : ℕ) → OnFoil f W H → (T : ℕ → ℕ → Type 0) (up : Bool) (m x y : ℕ)
    → f x y ≡ true → CourseD f T up m x y
    → (n : ℕ) × (suc n ≤ length (strips f W H)) × Course (segments_for n) f T x y
few-segments f W H inside T up m x y free c =
    let t = course-trail f W H T inside up m x y free c in
    let p : Point = point x y in
    (length t.0, strips-met f W H T p t.0 t.1, trail-course f W H T p t.0 t.1)

-- the segments of a path, zero-length ones allowed
segments-of : (f : ℕ → ℕ → Bool) (T : ℕ → ℕ → Type 0) (up : Bool) (cs : List ℕ) (x y : ℕ) → PathD up cs f T x y
    → CourseD f T up (length cs) x y
segments-of f T false cs x y p = path-course cs f T x y p
segments-of f T true cs x y p = path-course cs (flip f) (flip T) y x p

-- the paths are those to the target's free points
pub fewest-bends : FewestBends
fewest-bends f W H inside S T cs path fewest =
    let F : Point → Bool = free_in f T in
    let r = of-path f S F cs (path-ends f T S cs ∙ path) in
    let k = either-path f F S r.rest r.on in
    let m = segments-of f (On F) k.0 k.1 S.x S.y k.2 in
    let (n, met, c) =
    few-segments f W H inside (On F) k.0 (length k.1) S.x S.y r.start m in
    let a =
    bends-most f S F r.start (λ x y e. and_r (T (point x y)) (f x y) e)
    cs (λ ds p. fewest ds (sym (path-ends f T S ds) ∙ p)) (segments_for n) c in
    let b = bound-covers n (length (strips f W H)) met in
    omega arith
