-- What the search leaves for the walk, and what both give: the first path of fewest bends.
use Rattle.std.specs.Prelude.{ℕ, ◌*◌, ◌≤◌, ◌<◌, ◌≡◌, Bool, true, false, List, [], ◌∷◌, ◌++◌, get_or, length, drop}
use Rattle.std.specs.Prelude.{Some, None}
use Rattle.std.specs.Prelude as std
use Rattle.std.proofs.Math.Option
use Rattle.std.proofs.Math.Option.{Option, none}
use Rattle.foil_spec.specs.Lists.{each}
use Rattle.foil_spec.specs.Foil.{Point, point}
use Rattle.foil_spec.specs.Corners.{point_numbers}
use Rattle.grid.specs.Size.{stride, area}
use Rattle.labels.specs.Rounds.{Sized, Ended}
use Rattle.labels.specs.Walk.{Trails, label_at, Walkable}
use Rattle.sowing.specs.Seeds.{Unlabelled, Sown, aimed_at}
use Rattle.search.specs.Grid.{Aimed, most_lines, BuildAsked, Grid}
use Rattle.search.specs.Choice.{Choice}
use Rattle.search.specs.declared.Aim.{Aim}
use Rattle.search.specs.declared.Arrived.{Arrived}
use Rattle.search.specs.declared.Start.{Start}

-- there is no label yet, and the lists of labels are no larger than the grid may be
pub record Fresh (l u : List ℕ) : Type 0 where
  pub level-few : length l ≤ area
  pub upright-few : length u ≤ area
  pub level : Unlabelled l
  pub upright : Unlabelled u

-- the lists for the labels and inks have room for the lines that there may be
pub record LabelRoom (a : Aim) (l u wl wu : List ℕ) : Type 0 where
  pub level : most_lines a * stride ≤ length l
  pub upright : most_lines a * stride ≤ length u
  pub level-inks : most_lines a * stride ≤ length wl
  pub upright-inks : most_lines a * stride ≤ length wu
  pub fresh : Fresh l u

-- what a search in lists is asked
pub record SearchAsked (z t : List ℕ) (a : Aim) (cols rows kl ku l u wl wu : List ℕ) : Type 0 where
  pub build : BuildAsked z t a cols rows kl ku
  pub labels : LabelRoom a l u wl wu

-- what `label` is asked: the grid is there, and lists that fit it
pub record LabelAsked (z t : List ℕ) (a : Aim) (cols rows kl ku : List ℕ) (nc nr : ℕ) (l u wl wu : List ℕ)
    : Type 0 where
  pub aimed : Aimed z t a
  pub grid : Grid z t a cols rows kl ku nc nr
  pub sized : Sized l u wl wu kl ku cols rows nc nr
  pub fresh : Fresh l u

-- the crossing (i, j) of S, the labels l₀ and u₀ and inks wl₀ and wu₀ of the targets before the first round, and the
-- rounds
pub record Labelling (z t : List ℕ) (a : Aim) (cols rows kl ku : List ℕ) (nc nr i j : ℕ) (found : Bool)
    (l u wl wu : List ℕ) : Type 0 where
  pub l₀ : List ℕ
  pub u₀ : List ℕ
  pub wl₀ : List ℕ
  pub wu₀ : List ℕ
  pub i-in : i < nc
  pub j-in : j < nr
  pub i-at : get_or cols i 0 ≡ a.from.x
  pub j-at : get_or rows j 0 ≡ a.from.y
  pub level-sown : Sown (aimed_at a.n z a.k t false rows cols) nr nc l₀ wl₀
  pub upright-sown : Sown (aimed_at a.n z a.k t true cols rows) nc nr u₀ wu₀
  pub ended : Ended kl ku cols rows nc nr i j l₀ u₀ wl₀ wu₀ l u wl wu found

-- what `label` answers: the start's crossing, or none where it has no label
pub data Labelled (z t : List ℕ) (a : Aim) (cols rows kl ku : List ℕ) (nc nr : ℕ) (l u wl wu : List ℕ)
    : std.Option Arrived → Type 0 where
  blank : (i j : ℕ) → Labelling z t a cols rows kl ku nc nr i j false l u wl wu
      → Labelled z t a cols rows kl ku nc nr l u wl wu None
  arrived : (i j : ℕ) → Labelling z t a cols rows kl ku nc nr i j true l u wl wu
      → Labelled z t a cols rows kl ku nc nr l u wl wu (Some (record { i = i; j = j }))

-- where a walk from the crossing (i, j) starts
pub data Starts (l u wl wu ku rows : List ℕ) (nc nr i j : ℕ) : Start → Type 0 where
  goes : (up : Bool) → Choice l u wl wu ku rows nr i j up
      → Starts l u wl wu ku rows nc nr i j
      (record { columns = nc; rows = nr; i = i; j = j; upright = up; corners = label_at up l u i j })

-- the corners of a walk from (i, j) over these crossings, but for the first
unfoldable pub turns : Bool → (cols rows : List ℕ) (i j : ℕ) → List ℕ → List Point
turns up cols rows i j [] = []
turns false cols rows i j (q ∷ qs) = point (get_or cols q 0) (get_or rows j 0) ∷ turns true cols rows q j qs
turns true cols rows i j (q ∷ qs) = point (get_or cols i 0) (get_or rows q 0) ∷ turns false cols rows i q qs

-- a walk can start, and whatever crossings it takes, its corners are cs
pub record Ready (cs : List Point) (cols rows kl ku l u wl wu : List ℕ) (s : Start) : Type 0 where
  pub walkable : Walkable l u wl wu kl ku cols rows s.columns s.rows
  pub i-in : s.i < s.columns
  pub j-in : s.j < s.rows
  pub some : 1 ≤ s.corners
  pub label : label_at s.upright l u s.i s.j ≡ s.corners
  pub takes : (qs : List ℕ)
      → Trails s.upright l u wl wu kl ku cols rows s.columns s.rows s.i s.j s.corners qs
      → point (get_or cols s.i 0) (get_or rows s.j 0) ∷ turns s.upright cols rows s.i s.j qs ≡ cs

-- the corners of a path, if there is one
abbrev pub path_corners : Option (List Point) → List Point
path_corners o = Option.get_or o []

-- the path o begins at s, which says how many corners it has, and a walk takes them
pub record Begins (o : Option (List Point)) (cols rows kl ku l u wl wu : List ℕ) (s : Start) : Type 0 where
  pub count : s.corners ≡ length (path_corners o)
  pub ready : Ready (path_corners o) cols rows kl ku l u wl wu s

-- what `labels` answers: where the path o begins, or none where there is no path
pub record Searched (o : Option (List Point)) (cols rows kl ku l u wl wu : List ℕ) (s : std.Option Start)
    : Type 0 where
  pub nowhere : s ≡ None → o ≡ none
  pub begins : (r : Start) → s ≡ Some r → Begins o cols rows kl ku l u wl wu r

-- what `walk` is asked: it can start, and there is room for its corners
pub record WalkAsked (cols rows kl ku l u wl wu : List ℕ) (s : Start) (out : List ℕ) : Type 0 where
  pub cs : List Point
  pub ready : Ready cs cols rows kl ku l u wl wu s
  pub room : 2 * s.corners ≤ length out

-- the corners at the front of a list of numbers, and after them what stood there
abbrev pub Written : List Point → List ℕ → List ℕ → Type 0
Written cs out out' = out' ≡ each point_numbers cs ++ drop (length (each point_numbers cs)) out

-- what `walk` writes: the corners for which it was ready
pub record Walked (cols rows kl ku l u wl wu : List ℕ) (s : Start) (out out' : List ℕ) : Type 0 where
  pub writes : (cs : List Point) → Ready cs cols rows kl ku l u wl wu s → Written cs out out'

-- k corners of the path o, one at least: they stand at the front of out, which is otherwise as it was, or, where they
-- do not fit, out is as it was
pub record CornersFound (o : Option (List Point)) (out out' : List ℕ) (k : ℕ) : Type 0 where
  pub some : 1 ≤ k
  pub count : k ≡ length (path_corners o)
  pub corners : k * 2 ≤ length out → Written (path_corners o) out out'
  pub untouched : length out < k * 2 → out' ≡ out

-- what `first_path` answers: how many corners the path o has, or none where there is no path, and then out is as it was
pub record PathFound (o : Option (List Point)) (out out' : List ℕ) (k : std.Option ℕ) : Type 0 where
  pub nowhere : k ≡ None → (o ≡ none) × (out' ≡ out)
  pub found : (n : ℕ) → k ≡ Some n → CornersFound o out out' n

-- what `write_path` is asked
pub record WriteAsked (cols rows kl ku l u wl wu : List ℕ) (s : Start) : Type 0 where
  pub path : Option (List Point)
  pub begins : Begins path cols rows kl ku l u wl wu s

-- what it writes: the path that was searched, where its corners fit
pub record PathWritten (cols rows kl ku l u wl wu : List ℕ) (s : Start) (out out' : List ℕ) (k : ℕ) : Type 0 where
  pub finds : (o : Option (List Point)) → Begins o cols rows kl ku l u wl wu s → CornersFound o out out' k
