-- `booking::way::goes_on` takes one segment a turn, upright and level by turns.
use Rattle.std.proofs.Common.{ap, not}
use native.Mathlib.Omega.{arith}
use Rattle.booking.proofs.Walking.{going-first, going_done, going-not, going_more}
use Rattle.booking.proofs.way.goes_on.Goals as goal

pub loop-j-init : goal.loop-j-init
loop-j-init c = going-first _ _ _ _ c.requires.le_k.0

pub returns-then-not-segment : goal.returns-then-not-segment
returns-then-not-segment c = going-not _ _ _ _ _ _ c.loop-j.invariant (omega arith) _ _
    c.corner_at-p.ensures c.corner_at-q.ensures _ c.segment.ensures (ap not c.if-not-segment.true)

pub loop-j-preserved : goal.loop-j-preserved
loop-j-preserved c = going_more _ _ _ _ _ _ c.loop-j.invariant (omega arith) _ _
    c.corner_at-p.ensures c.corner_at-q.ensures _ c.segment.ensures (ap not c.if-not-segment.false)

pub returns : goal.returns
returns c = going_done _ _ _ _ _ _ c.loop-j.invariant (omega arith)
