-- What is asked of a table whose legs are counted, and what is said of them.
use Rattle.std.specs.Prelude.{ℕ, ◌*◌, ◌≤◌, ◌<◌, ◌≡◌, List, map, length}
use Rattle.foil_spec.specs.Lists.{range}
use Rattle.foil_spec.specs.Limits.{max_entries, max_side}
use Rattle.foil_spec.specs.Foil.{Entry}
use Rattle.foil_spec.specs.Lent.{entry_at}
use Rattle.foil_spec.specs.Nets.{legs_of, steps_of}
use Rattle.nets.specs.declared.Track.{Track}

-- an entry that is not empty, on a foil
pub record Box (e : Entry) : Type 0 where
  pub x-order : e.x0 < e.x1
  pub y-order : e.y0 < e.y1
  pub x-end : e.x1 ≤ max_side
  pub y-end : e.y1 ≤ max_side

-- the first n entries of a table are such
pub record Boxes (t : List ℕ) (n : ℕ) : Type 0 where
  pub len : n * 5 ≤ length t
  pub few : n ≤ max_entries
  pub box : (k : ℕ) → k < n → Box (entry_at t k)

-- the legs of a net among the first n entries of a table
unfoldable pub legs_to : List ℕ → ℕ → ℕ → List Entry
legs_to t n net = legs_of net (map (entry_at t) (range 0 n))

-- they are counted, and so are their steps
pub record Measured (t : List ℕ) (n net : ℕ) (r : Track) : Type 0 where
  pub legs : r.legs ≡ length (legs_to t n net)
  pub steps : r.steps ≡ steps_of (legs_to t n net)
  pub few : r.legs ≤ n
  pub short : r.steps ≤ n * 8190
