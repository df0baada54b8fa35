-- At place 0 the board is wanted, later neither it nor a pen is.
use Rattle.job.proofs.Checking.{first-board, later-board, later-pen}
use Rattle.job.proofs.checks.board_misplaced.Goals as goal

pub returns-then-at-eq0 : goal.returns-then-at-eq0
returns-then-at-eq0 c = first-board _ _ _ c.has-board.ensures c.if-at-eq0.true

pub returns-then-board : goal.returns-then-board
returns-then-board c = later-board _ _ _ c.has-board.ensures c.if-at-eq0.false c.if-board.true

pub returns-else-board : goal.returns-else-board
returns-else-board c = later-pen _ _ _ c.has-board.ensures c.if-at-eq0.false c.if-board.false _ c.has.ensures
