-- Each return is the first of the checks that is not passed, or none is left.
use Rattle.job.proofs.Checking.{no_byte, unknown, misplaced, end-early, end-last, cut_short, complete}
use Rattle.job.proofs.checks.record_refusal.Goals as goal

pub returns-then-bytes-at : goal.returns-then-bytes-at
returns-then-bytes-at c = rw c.into.ensures (no_byte _ _ c.if-bytes-at.true)

pub returns-then-bytes-at-2 : goal.returns-then-bytes-at-2
returns-then-bytes-at-2 c =
    rw c.into-then-bytes-at-2.ensures (unknown _ _ c.if-bytes-at.false c.if-bytes-at-2.true)

pub returns-then-board_misplaced : goal.returns-then-board_misplaced
returns-then-board_misplaced c =
    rw c.into-then-board_misplaced.ensures
    (misplaced _ _ c.if-bytes-at.false c.if-bytes-at-2.false _ c.board_misplaced.ensures c.if-board_misplaced.true)

pub returns-then-at-bytes : goal.returns-then-at-bytes
returns-then-at-bytes c =
    rw c.into-then-at-bytes.ensures
    (end-early _ _ c.if-bytes-at.false c.if-bytes-at-2.false _ c.board_misplaced.ensures c.if-board_misplaced.false
    c.if-bytes-at-eq0.true c.if-at-bytes.true)

pub returns-then-bytes-at-eq0 : goal.returns-then-bytes-at-eq0
returns-then-bytes-at-eq0 c =
    end-last _ _ c.if-bytes-at.false c.if-bytes-at-2.false _ c.board_misplaced.ensures c.if-board_misplaced.false
    c.if-bytes-at-eq0.true c.if-at-bytes.false

pub returns-then-bytes-fields_at : goal.returns-then-bytes-fields_at
returns-then-bytes-fields_at c =
    rw c.into-then-bytes-fields_at.ensures
    (cut_short _ _ c.if-bytes-at.false c.if-bytes-at-2.false _ c.board_misplaced.ensures c.if-board_misplaced.false
    c.if-bytes-at-eq0.false _ c.fields_at.ensures c.if-bytes-fields_at.true)

pub returns : goal.returns
returns c =
    complete _ _ c.if-bytes-at.false c.if-bytes-at-2.false _ c.board_misplaced.ensures c.if-board_misplaced.false
    c.if-bytes-at-eq0.false _ c.fields_at.ensures c.if-bytes-fields_at.false
