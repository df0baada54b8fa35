-- Lists of wishes (document 02, P7): nets with two points each, to be laid together.
use Rattle.std.specs.Prelude.{ℕ, ◌+◌, ◌*◌, ◌/◌, Bool, ◌||◌, List, map, ltb, length, get_or}
use Rattle.foil_spec.specs.Lists.{range}
use Rattle.foil_spec.specs.Limits.{max_wishes}
use Rattle.foil_spec.specs.Foil.{point}
use Rattle.foil_spec.specs.Ledger.{Step, lay}

-- the wish at place k of a list, five numbers a place: a net, S and T
unfoldable pub wish_at : List ℕ → ℕ → Step
wish_at ws k =
    lay (get_or ws (k * 5) 0)
    (point (get_or ws (k * 5 + 1) 0) (get_or ws (k * 5 + 2) 0)) (point (get_or ws (k * 5 + 3) 0) (get_or ws (k * 5 + 4) 0))

-- the wishes of a whole list, in order; a place that is cut off counts as none
unfoldable pub wishes : List ℕ → List Step
wishes ws = map (wish_at ws) (range 0 (length ws / 5))

-- they are more than a list may have, or more than so many places for answers
unfoldable pub too_many : List ℕ → ℕ → Bool
too_many ws n = ltb max_wishes (length ws / 5) || ltb n (length ws / 5)
