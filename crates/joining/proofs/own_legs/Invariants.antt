-- The rows have the net's legs, of the entries before place k.
use mathlib.Core.Path.{◌≡◌}
use lib.ListN.{length}
use Rattle.joining.specs.Sought.{Own}
use Rattle.joining.proofs.own_legs.Given as goal

abbrev pub invariant-loop-k : goal.invariant-loop-k
invariant-loop-k l = Own l.rows l.table l.net l.k l.j × (length l.rows ≡ length l.initial.rows)
