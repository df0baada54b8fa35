-- After i turns the numbers are those of the first i places.
use mathlib.Core.Path.{◌≡◌}
use Rattle.host.specs.Flats.{load_to}
use Rattle.host.proofs.table.load.Given as goal

abbrev pub invariant-loop-i : goal.invariant-loop-i
invariant-loop-i l = l.numbers ≡ load_to l.table l.i
