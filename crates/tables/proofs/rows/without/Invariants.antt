-- `tables::rows::without` meets its contract: the rows have the entries of other nets, of those before place k.
use mathlib.Core.Path.{◌≡◌}
use lib.ListN.{length}
use Rattle.tables.specs.Rows.{Kept}
use Rattle.tables.proofs.rows.without.Given as goal

abbrev pub invariant-loop-k : goal.invariant-loop-k
invariant-loop-k l = Kept l.rows l.table l.net l.k l.j × (length l.rows ≡ length l.initial.rows)
