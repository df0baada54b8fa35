-- The walk from a labelled crossing to a target, and the corners that it writes.
use Rattle.std.specs.Prelude.{ℕ, ◌+◌, ◌*◌, ◌≤◌, ◌<◌, ◌≡◌, List, [], ◌∷◌, Bool, true, false, get_or, length}
use Rattle.std.proofs.lemmas.List.Edits.{sets}
use Rattle.foil_spec.specs.Foil.{point}
use Rattle.foil_spec.specs.Corners.{point_numbers}
use Rattle.labels.specs.Rounds.{Sized}
use Rattle.runs.specs.Line.{along, Linked, is_stop, Stop, label_top}
use Rattle.runs.specs.Ink.{Lean}
use Rattle.labels.specs.Pass.{Below}
use Rattle.labels.specs.declared.Walker.{Walker}

-- every label but the first rests on one of the other direction, a segment away, and its ink on the ink there
pub record Grounded (own other wown wother link cross : List ℕ) (m n : ℕ) : Type 0 where
  pub next : (i : ℕ) → i < m → (k : ℕ) → k < n → (v : ℕ) → 1 ≤ v → along own i k ≡ v + 1 →
      (q : ℕ) × (q < n) × Linked link i k q
      × (is_stop other wother cross i (get_or cross k 0) v (along wown i k) q ≡ true)

-- the crossings of a walk from crossing k of a line, which has the label v: each is the first stop on its line for one
-- less, over which the ink leads
pub data Trail : (own other wown wother link link' cross lines : List ℕ) (m n line k v : ℕ) → List ℕ → Type 0 where
  done : {own other wown wother link link' cross lines : List ℕ} {m n line k : ℕ} →
      Trail own other wown wother link link' cross lines m n line k 1 []
  step : {own other wown wother link link' cross lines : List ℕ} {m n line k v q : ℕ} {qs : List ℕ} →
      Stop other wother link cross line n k v (along wown line k) q → q < n →
      Trail other own wother wown link' link lines cross n m q line v qs →
      Trail own other wown wother link link' cross lines m n line k (v + 1) (q ∷ qs)

-- the same from the crossing of column i and row j, the first segment level or, if up, upright
unfoldable pub Trails : Bool → (l u wl wu kl ku cols rows : List ℕ) (nc nr i j v : ℕ) → List ℕ → Type 0
Trails false l u wl wu kl ku cols rows nc nr i j v qs = Trail l u wl wu kl ku cols rows nr nc j i v qs
Trails true l u wl wu kl ku cols rows nc nr i j v qs = Trail u l wu wl ku kl rows cols nc nr i j v qs

-- the label of a crossing in a direction
unfoldable pub label_at : Bool → List ℕ → List ℕ → ℕ → ℕ → ℕ
label_at false l u i j = along l j i
label_at true l u i j = along u i j

-- a corner list with a corner put at a place
abbrev pub with_corner : List ℕ → ℕ → ℕ → ℕ → List ℕ
with_corner out at x y = sets out (at * 2) (point_numbers (point x y))

-- the corner list after a walk over the crossings, from the corner `at` on
unfoldable pub walk_out : Bool → List ℕ → List ℕ → List ℕ → ℕ → ℕ → ℕ → List ℕ → List ℕ
walk_out up cols rows out at i j [] = out
walk_out false cols rows out at i j (q ∷ qs) =
    walk_out true cols rows (with_corner out at (get_or cols q 0) (get_or rows j 0)) (at + 1) q j qs
walk_out true cols rows out at i j (q ∷ qs) =
    walk_out false cols rows (with_corner out at (get_or cols i 0) (get_or rows q 0)) (at + 1) i q qs

-- what the walk is given
pub record Walkable (l u wl wu kl ku cols rows : List ℕ) (nc nr : ℕ) : Type 0 where
  pub sized : Sized l u wl wu kl ku cols rows nc nr
  pub level : Grounded l u wl wu kl cols nr nc
  pub upright : Grounded u l wu wl ku rows nc nr
  pub level-low : Below nr nc l label_top
  pub upright-low : Below nc nr u label_top
  pub level-lean : Lean nr nc l wl
  pub upright-lean : Lean nc nr u wu

-- a walk under way stands at a crossing of the grid, with its label, and the list has room for its corners
pub record Standing (l u : List ℕ) (nc nr : ℕ) (w : Walker) (out : List ℕ) : Type 0 where
  pub i-in : w.i < nc
  pub j-in : w.j < nr
  pub some : 1 ≤ w.label
  pub label : label_at w.upright l u w.i w.j ≡ w.label
  pub room : 2 * w.corners + 2 * w.label ≤ length out + 2

-- what a walk on to a target gives: its crossings, and the corner list
pub record Walk (l u wl wu kl ku cols rows : List ℕ) (nc nr : ℕ) (w : Walker) (out out' : List ℕ) : Type 0 where
  pub crossings : List ℕ
  pub trail : Trails w.upright l u wl wu kl ku cols rows nc nr w.i w.j w.label crossings
  pub wrote : out' ≡ walk_out w.upright cols rows out w.corners w.i w.j crossings

-- a part of a walk with so many legs left, from where w stands to where w' does: it has come nearer to the target, if
-- that is not met and there were legs, and a walk on from its end is a walk from where it began
pub record Part (l u wl wu kl ku cols rows : List ℕ) (nc nr legs : ℕ) (w : Walker) (out : List ℕ) (w' : Walker)
    (out' : List ℕ) : Type 0 where
  pub standing : Standing l u nc nr w' out'
  pub falls : w'.label ≤ w.label
  pub nearer : 1 < w.label → 0 < legs → w'.label < w.label
  pub rest : (end : List ℕ) → Walk l u wl wu kl ku cols rows nc nr w' out' end
      → Walk l u wl wu kl ku cols rows nc nr w out end
