-- What a search for the first path between two points of a layout asks for, and what it answers.
use Rattle.std.specs.Prelude.{ℕ, ◌≡◌, true, List, Option}
use Rattle.foil_spec.specs.Foil.{Point, Pen, Layout, pen_rule, free}
use Rattle.foil_spec.specs.Ledger.{path_of}
use Rattle.foil_spec.specs.Lent.{layout_of}
use Rattle.zones.specs.Table.{Table}
use Rattle.search.specs.Search.{PathFound}

-- the first n entries of a table, on a foil of w by h with the pen p, and two free points
pub record Posed (t : List ℕ) (n : ℕ) (p : Pen) (w h : ℕ) (S T : Point) : Type 0 where
  pub table : Table t n (pen_rule p) w h
  pub s-free : free (layout_of w h p n t) S.x S.y ≡ true
  pub t-free : free (layout_of w h p n t) T.x T.y ≡ true

-- the corners of the first path from S to T were counted, if there is one; where they fit they stand at the front of
-- out, which is otherwise as it was
abbrev pub Found : Layout → Point → Point → List ℕ → List ℕ → Option ℕ → Type 0
Found l S T out out' found = PathFound (path_of l S T) out out' found
