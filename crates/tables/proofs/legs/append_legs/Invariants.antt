-- `tables::legs::append_legs` meets its contract: after j turns the rows have the first j legs.
use mathlib.Core.Path.{◌≡◌}
use lib.ListN.{length}
use Rattle.tables.proofs.Appending.{Going}
use Rattle.tables.proofs.legs.append_legs.Given as goal

abbrev pub invariant-loop-j : goal.invariant-loop-j
invariant-loop-j l = (length l.rows ≡ length l.initial.rows) × Going l.initial.rows l.rows l.n l.net l.path l.k l.j
