-- How bent a path among boxes can get, and how large labels.
use Prim.Native.Nat.{ℕ, zero, suc, ◌+◌, ◌*◌, ◌≤◌, ◌<◌}
use native.Mathlib.Nat.{mul-le-mul}
use native.Mathlib.Omega.{arith}
use native.Mathlib.Decide.{dec_le}
use mathlib.Core.Path.{◌≡◌}
use mathlib.Core.Bool.{Bool, true, false}
use mathlib.Core.List.{List}
use mathlib.Core.Logic.{by_cases}
use lib.ListN.{length}
use Rattle.foil_spec.specs.Strips.{strips}
use Rattle.zones.specs.Boxes.{max_boxes, box_free}
use Rattle.zones.proofs.Free.{not_covered}
use Rattle.course_laws.specs.Course.{flip, Course}
use Rattle.course_laws.proofs.Course.{span-refl, span-start}
use Rattle.box_laws.specs.Bound.{OnFoil}
use Rattle.box_laws.specs.Boxed.{BoxBends, ShortCourse, LabelsFit, BoxLabels}
use Rattle.box_laws.proofs.Trails.{CourseD, segments_for}
use Rattle.box_laws.proofs.Bound.{segments-most, bound-most, few-segments, fewest-bends}
use Rattle.box_laws.proofs.Pins.{box-strips}

-- the strips that the boxes of a table leave: 133²
square : (n : ℕ) → n ≤ max_boxes → (n + 1) * (n + 1) ≤ 17689
square n l = mul-le-mul {n₂ = 133} {m₂ = 133} (omega arith) (omega arith)

module _ (z : List ℕ) (n w h : ℕ) where
  abbrev f : ℕ → ℕ → Bool
  f = box_free w h n z

  inside : OnFoil f w h
  inside x y e = let r = not_covered w h n z x y e in (r.0, r.1)

  -- few segments from a free point
  few : (T : ℕ → ℕ → Type 0) (up : Bool) (m x y : ℕ) → f x y ≡ true → CourseD f T up m x y
      → (k : ℕ) × (k ≤ 2 * ((n + 1) * (n + 1))) × Course k f T x y
  few T up m x y free c =
      let (l, met, d) = few-segments f w h inside T up m x y free c in
      (segments_for l, omega (arith, segments-most l, box-strips z n w h), d)

pub box-bends : BoxBends
box-bends z n w h l S T cs path fewest =
    let b = fewest-bends (box_free w h n z) w h (inside z n w h) S T cs path fewest in
    let few = box-strips z n w h in
    let most = square n l in
    omega (arith, bound-most (length (strips (box_free w h n z) w h)) 17689 (omega arith) (omega arith))

pub short-course : ShortCourse
short-course z n w h T x y zero c = (0, omega arith, c)
short-course z n w h T x y (suc m) c =
    few z n w h T false (suc m) x y (span-start (box_free w h n z) y x c.0 c.1) c

-- a least number of segments is no larger than another
no_more : (f : ℕ → ℕ → Bool) (T : ℕ → ℕ → Type 0) (x y k m : ℕ) → ((i : ℕ) → i < k → Course i f T x y → ⊥)
    → Course m f T x y → k ≤ m
no_more f T x y k m least c = by_cases (dec_le k m) (λ l. l) (λ l. absurd (least m (omega arith) c))

pub box-labels : BoxLabels
box-labels z n w h l = (level, upright)
  where
    level : LabelsFit (box_free w h n z)
    level T x y k c least =
        let (m, few, d) = short-course z n w h T x y k c in
        omega (arith, no_more (box_free w h n z) T x y k m least d, square n l)

    upright : LabelsFit (flip (box_free w h n z))
    upright T x y zero c least = omega arith
    upright T x y (suc k) c least =
        let free = span-start (flip (box_free w h n z)) y x c.0 c.1 in
        let (m, few, d) = few z n w h (flip T) true (suc k) y x free c in
        let more = no_more (flip (box_free w h n z)) T x y (suc k) (suc m) least
        (x, span-refl (flip (box_free w h n z)) y x free, d) in
        omega (arith, square n l)
