-- After i turns the first i places are stored over.
use mathlib.Core.Path.{◌≡◌}
use Rattle.host.specs.Flats.{store_to}
use Rattle.host.proofs.table.store.Given as goal

abbrev pub invariant-loop-i : goal.invariant-loop-i
invariant-loop-i l = l.table ≡ store_to l.numbers l.initial.table l.i
