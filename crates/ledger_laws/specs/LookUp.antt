-- Look up, as it is stated: the place that it answers is that of the one strip that holds the point.
use Rattle.std.specs.Prelude.{ℕ, ◌<◌, ◌≡◌, true, List}
use Rattle.foil_spec.specs.Limits.{max_strips}
use Rattle.foil_spec.specs.Foil.{Point}
use Rattle.foil_spec.specs.Strips.{holds}
use Rattle.foil_spec.specs.Ledger.{look_up, found}
use Rattle.foil_spec.specs.Lent.{Lent, listed_strip}
use Rattle.ledger_laws.specs.Moments.{Moment, AtEvery}

-- place i of the strip list of n is one of those that its record counts and holds the point, and of the 4,096 places no
-- other does
pub record OnlyPlace (n : Lent) (p : Point) (i : ℕ) : Type 0 where
  pub counted : i < n.board.strips
  pub there : holds p (listed_strip n.strips i) ≡ true
  pub only : (j : ℕ) → j < max_strips → holds p (listed_strip n.strips j) ≡ true → j ≡ i

-- so it is of a place that a look up in a list of calls finds
abbrev pub LooksUpAt : Moment → List Moment → Type 0
LooksUpAt k later = (p : Point) (i : ℕ) → k.step ≡ look_up p → k.answer ≡ found i → OnlyPlace k.before p i

abbrev pub LooksUp : Type 0
LooksUp = AtEvery LooksUpAt
