-- The legs of a path whose corners stand in a flat list.
use Rattle.std.specs.Prelude.{ℕ, ◌+◌, ◌*◌, ◌≤◌, ◌<◌, ◌≡◌, List, ◌++◌, length}
use Rattle.foil_spec.specs.Limits.{max_entries, max_side}
use Rattle.foil_spec.specs.Foil.{Entry}
use Rattle.foil_spec.specs.Ledger.{legs}
use Rattle.foil_spec.specs.Corners.{corner_at, corners_in}
use Rattle.tables.specs.Rows.{rows_of}

-- k corners stand in the list, each small enough for the sums
pub record Corners (p : List ℕ) (k : ℕ) : Type 0 where
  pub long : k * 2 ≤ length p
  pub small-x : (i : ℕ) → i < k → (corner_at p i).x < max_side
  pub small-y : (i : ℕ) → i < k → (corner_at p i).y < max_side

-- rows of n entries have the legs of the path of k corners as well, r entries in all
pub record Legs (old new : List ℕ) (n net : ℕ) (p : List ℕ) (k r : ℕ) : Type 0 where
  pub rows : (es : List Entry) → length es ≡ n → old ≡ rows_of es
      → new ≡ rows_of (es ++ legs net (corners_in p k))
  pub counted : r ≡ n + length (legs net (corners_in p k))
  pub few : r ≤ max_entries
