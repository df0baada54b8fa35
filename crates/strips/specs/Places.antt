-- Which strip of a list holds a point.
use Rattle.std.specs.Prelude.{ℕ, ◌≤◌, ◌<◌, cond, List, Option, Some, None}
use Rattle.foil_spec.specs.Lists.{any}
use Rattle.foil_spec.specs.Foil.{Point}
use Rattle.foil_spec.specs.Strips.{Strip, holds, place_of}
use Rattle.foil_spec.specs.Lent.{listed_strip}

-- the place of the first strip that holds the point, if one does
unfoldable pub place_in : Point → List Strip → Option ℕ
place_in p ss = cond (any (holds p) ss) (Some (place_of p ss)) None

-- the first n strips of the list stand by y0
abbrev pub ByRow : List ℕ → ℕ → Type 0
ByRow l n = (a b : ℕ) → a ≤ b → b < n → (listed_strip l a).y0 ≤ (listed_strip l b).y0
