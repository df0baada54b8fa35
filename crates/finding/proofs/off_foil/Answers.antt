-- `finding::off_foil` compares x, then y.
use borrow.Author.Tests.{le-leb}
use Rattle.finding.proofs.Points.{off-right, off-below}
use Rattle.finding.proofs.off_foil.Goals as goal

pub returns-then-board-point : goal.returns-then-board-point
returns-then-board-point c = rw (le-leb _ _ c.if-board-point.true) (off-right _ _ c.if-board-point.true)

pub returns-else-board-point : goal.returns-else-board-point
returns-else-board-point c = off-below _ _ c.if-board-point.false
