-- `booking::way::segment` tests which way the points lie, and then the box that they span.
use Rattle.std.proofs.Common.{ap, not, ◌∙◌}
use Rattle.booking.proofs.Segments.{no-segment, spans, segment-clear}
use Rattle.booking.proofs.way.segment.Goals as goal

pub clear-requires : goal.clear-requires
clear-requires c = record { boxes = c.requires; x_le_x = spans _ _ _ _ c.low_of.ensures c.high_of.ensures }

pub returns-then-heads : goal.returns-then-heads
returns-then-heads c = segment-clear _ _ _ _ _ c.low_of.ensures c.high_of.ensures _ c.clear.ensures _ _
    c.heads.ensures (ap not c.if-heads.true)

pub returns-else-heads : goal.returns-else-heads
returns-else-heads c = c.if-heads.false ∙ no-segment _ _ _ _ _ c.heads.ensures (ap not c.if-heads.false)
