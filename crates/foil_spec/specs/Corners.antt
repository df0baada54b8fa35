-- Corner lists: flat lists of two numbers a corner.
use Rattle.std.specs.Prelude.{ℕ, ◌+◌, ◌*◌, ◌/◌, ◌%◌, cond, List, [], ◌∷◌, map, eqb, length, get_or}
use Rattle.foil_spec.specs.Lists.{range}
use Rattle.foil_spec.specs.Foil.{Point, point}

-- a place of a corner list is two numbers
unfoldable pub point_numbers : Point → List ℕ
point_numbers p = p.x ∷ p.y ∷ []

-- the corner at place k of a corner list
unfoldable pub corner_at : List ℕ → ℕ → Point
corner_at ks k = point (get_or ks (k * 2) 0) (get_or ks (k * 2 + 1) 0)

-- the first n corners of a corner list
unfoldable pub corners_in : List ℕ → ℕ → List Point
corners_in ks n = map (corner_at ks) (range 0 n)

-- the corners that a whole list draws; half a place at its end makes it no list of corners
unfoldable pub drawn : List ℕ → List Point
drawn ks = cond (eqb (length ks % 2) 0) (corners_in ks (length ks / 2)) []
