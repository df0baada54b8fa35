-- How many strips boxes leave, wherever they lie, and how bent a path among them can get: so few that labels of 16 bits
-- can count its segments.
use Rattle.std.specs.Prelude.{ℕ, ◌+◌, ◌*◌, ◌≤◌, ◌<◌, ◌≡◌, Bool, true, List, length}
use Rattle.foil_spec.specs.Foil.{Point}
use Rattle.foil_spec.specs.Strips.{strips}
use Rattle.foil_spec.specs.Paths.{is_path_to, bends}
use Rattle.zones.specs.Boxes.{max_boxes, box_free}
use Rattle.course_laws.specs.Course.{flip, Course}

-- n boxes leave so many strips at most
abbrev pub BoxStrips : Type 0
BoxStrips = (z : List ℕ) (n w h : ℕ) → length (strips (box_free w h n z) w h) ≤ (n + 1) * (n + 1)

-- 2 · 133² − 2, by the bound for 133² strips
abbrev pub box_bends : ℕ
box_bends = 35376

-- any path of fewest bends among the boxes of a table
abbrev pub BoxBends : Type 0
BoxBends =
    (z : List ℕ) (n w h : ℕ) → n ≤ max_boxes → (S : Point) (T : Point → Bool) (cs : List Point)
    → is_path_to (box_free w h n z) S T cs ≡ true
    → ((ds : List Point) → is_path_to (box_free w h n z) S T ds ≡ true → bends cs ≤ bends ds) → bends cs ≤ box_bends

-- where any segments lead to a target, the first level, few do
abbrev pub ShortCourse : Type 1
ShortCourse =
    (z : List ℕ) (n w h : ℕ) (T : ℕ → ℕ → Type 0) (x y m : ℕ) → Course m (box_free w h n z) T x y
    → (k : ℕ) × (k ≤ 2 * ((n + 1) * (n + 1))) × Course k (box_free w h n z) T x y

-- 2 · 133² segments lead to a target, the first level; one more before them, of length zero, makes the first upright;
-- and a label is one above its number of segments
abbrev pub label_bound : ℕ
label_bound = 35380

-- a label k + 1 says that k segments lead to a target, the first level, and no fewer
abbrev pub LabelsFit : (ℕ → ℕ → Bool) → Type 1
LabelsFit f =
    (T : ℕ → ℕ → Type 0) (x y k : ℕ) → Course k f T x y → ((i : ℕ) → i < k → Course i f T x y → ⊥) → k + 1 ≤ label_bound

-- the labels among the boxes of a table, of both first directions
abbrev pub BoxLabels : Type 1
BoxLabels =
    (z : List ℕ) (n w h : ℕ) → n ≤ max_boxes → LabelsFit (box_free w h n z) × LabelsFit (flip (box_free w h n z))
