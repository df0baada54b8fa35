-- `saving::beginning_too_fine` meets its contract: the beginnings of fewer than k entries were fine.
use Rattle.foil_spec.specs.Lent.{pen_in}
use Rattle.saving.proofs.Beginnings.{FineTo}
use Rattle.saving.proofs.beginning_too_fine.Given as goal

abbrev pub invariant-loop-k : goal.invariant-loop-k
invariant-loop-k l = FineTo l.table l.board.entries (pen_in l.board) l.board.width l.board.height l.k
