-- The question that the search is asked, the escape grid that is made for it, and where points stand on its lines.
use Rattle.std.specs.Prelude.{ℕ, ◌+◌, ◌*◌, ◌≤◌, ◌<◌, ◌≡◌, Bool, true, false, List, get_or, length}
use Rattle.std.proofs.Math.Option.{Option}
use Rattle.foil_spec.specs.Foil.{Point}
use Rattle.foil_spec.specs.Paths.{first_path_to}
use Rattle.zones.specs.Boxes.{box_free, max_boxes, Boxes}
use Rattle.grid.specs.Size.{stride, area}
use Rattle.grid.specs.Axis.{Axis}
use Rattle.grid.specs.Links.{Painted}
use Rattle.grid.specs.Targets.{target}
use Rattle.search.specs.declared.Aim.{Aim}

-- the first n boxes of a table on a foil of w by h, and two points that they leave free
pub record Posed (z : List ℕ) (n w h : ℕ) (S T : Point) : Type 0 where
  pub boxes : Boxes z n w h
  pub s-free : box_free w h n z S.x S.y ≡ true
  pub t-free : box_free w h n z T.x T.y ≡ true

-- the points that the boxes of a search leave free, and those of them that are targets
abbrev pub free_of : List ℕ → Aim → ℕ → ℕ → Bool
free_of z a = box_free a.w a.h a.n z

abbrev pub target_of : List ℕ → List ℕ → Aim → Point → Bool
target_of z t a = target a.w a.h a.n z a.k t

-- where it starts
abbrev pub start_of : Aim → Point
start_of a = a.from

-- and the path that it is to find
abbrev pub path_to : List ℕ → List ℕ → Aim → Option (List Point)
path_to z t a = first_path_to (free_of z a) a.w a.h (start_of a) (target_of z t a)

-- a search can be asked: the first n boxes of the table z and the first k target boxes of the table t are boxes on the
-- foil, and the start is free
pub record Aimed (z t : List ℕ) (a : Aim) : Type 0 where
  pub boxes : Boxes z a.n a.w a.h
  pub targets : Boxes t a.k a.w a.h
  pub few : a.n + a.k ≤ max_boxes + 1
  pub s-free : free_of z a a.from.x a.from.y ≡ true

-- an axis has at most so many lines: two for each box and target box, the first, the last, and that of S
abbrev pub most_lines : Aim → ℕ
most_lines a = 2 * (a.n + a.k) + 3

-- a search can be asked, and lists of p places hold the crossings of its lines, and no more than the grid may have
pub record RoomAsked (z t : List ℕ) (a : Aim) (p : ℕ) : Type 0 where
  pub aimed : Aimed z t a
  pub fit : most_lines a * stride ≤ p
  pub few : p ≤ area

-- the lists for the lines and links of the grid have room
pub record GridRoom (a : Aim) (cols rows kl ku : List ℕ) : Type 0 where
  pub column-lines : stride ≤ length cols
  pub row-lines : stride ≤ length rows
  pub level-links : most_lines a * stride ≤ length kl
  pub upright-links : most_lines a * stride ≤ length ku

-- what `build` is asked
pub record BuildAsked (z t : List ℕ) (a : Aim) (cols rows kl ku : List ℕ) : Type 0 where
  pub aimed : Aimed z t a
  pub room : GridRoom a cols rows kl ku

-- x is among the first n lines
abbrev pub Has : List ℕ → ℕ → ℕ → Type 0
Has lines n x = (k : ℕ) × (k < n) × (get_or lines k 0 ≡ x)

-- r is the place of x among the first n lines
pub record Placed (lines : List ℕ) (n x r : ℕ) : Type 0 where
  pub below : r < n
  pub at : get_or lines r 0 ≡ x

-- the grid: its nc columns and nr rows, with lines through S, and the links of both
pub record Grid (z t : List ℕ) (a : Aim) (cols rows kl ku : List ℕ) (nc nr : ℕ) : Type 0 where
  pub column-axis : Axis z a.n t a.k false a.w a.from.x cols nc
  pub row-axis : Axis z a.n t a.k true a.h a.from.y rows nr
  pub level : Painted z false rows nr cols nc a.n kl
  pub upright : Painted z true cols nc rows nr a.n ku
