-- Segments by turns: which way the next one goes is told by one test.
use Rattle.std.specs.Prelude.{ℕ, ◌-◌, Bool, true, false, not, ◌&&◌, List, map, eqb}
use Rattle.foil_spec.specs.Lists.{range}
use Rattle.foil_spec.specs.Foil.{Point}
use Rattle.foil_spec.specs.Paths.{Heading, level, upright}
use Rattle.foil_spec.specs.Corners.{corner_at}

-- upright, or level
unfoldable pub headed : Bool → Heading
headed true = upright
headed false = level

-- q lies straight above or below p, or straight beside it
unfoldable pub heads : Bool → Point → Point → Bool
heads true p q = eqb p.x q.x && not (eqb p.y q.y)
heads false p q = eqb p.y q.y && not (eqb p.x q.x)

-- of the first k corners of a list those from place i on
unfoldable pub corners_from : List ℕ → ℕ → ℕ → List Point
corners_from list k i = map (corner_at list) (range i (k - i))
