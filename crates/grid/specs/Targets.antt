-- The targets of a search: the points in some boxes that others leave free.
use Rattle.std.specs.Prelude.{ℕ, Bool, ◌&&◌, List, map}
use Rattle.foil_spec.specs.Lists.{range, any}
use Rattle.foil_spec.specs.Foil.{Point, Entry}
use Rattle.foil_spec.specs.Lent.{entry_at}
use Rattle.zones.specs.Boxes.{covers, box_free}

-- one of the first k boxes of the table t has the point (x, y)
unfoldable pub in_boxes : ℕ → List ℕ → ℕ → ℕ → Bool
in_boxes k t x y = any (λ (e : Entry). covers e x y) (map (entry_at t) (range 0 k))

-- such a point that the first n boxes of the table z leave free, on a foil of w by h
unfoldable pub target : (w h n : ℕ) (z : List ℕ) (k : ℕ) (t : List ℕ) → Point → Bool
target w h n z k t p = in_boxes k t p.x p.y && box_free w h n z p.x p.y
