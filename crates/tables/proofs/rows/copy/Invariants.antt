-- `tables::rows::copy` meets its contract: the first i numbers are copied.
use Rattle.tables.proofs.Copying.{Copied}
use lib.ListN.{length}
use Rattle.tables.proofs.rows.copy.Given as goal

abbrev pub invariant-loop-i : goal.invariant-loop-i
invariant-loop-i l = Copied l.initial.to l.from (length l.from) l.to l.i
