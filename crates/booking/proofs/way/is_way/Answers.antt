-- `booking::way::is_way` tests the length, then the first corner, and then goes on from there.
use Rattle.std.proofs.Common.{ap, not}
use native.Mathlib.Omega.{arith}
use Rattle.booking.proofs.Walking.{half_place, no-corner, first-blocked, one-corner, more-corners}
use Rattle.booking.proofs.way.is_way.Goals as goal
use Rattle.booking.proofs.way.is_way.Goals.{then-list-ne0-via-then-list-ne0}
use Rattle.booking.proofs.way.is_way.Goals.{then-list-ne0-via-else-list-ne0+then-k-eq0}

pub returns-then-list-ne0 : goal.returns-then-list-ne0
returns-then-list-ne0 c = elim c.then-list-ne0.branch [
  | then-list-ne0-via-then-list-ne0 w ↦ half_place _ _ w.if-list-ne0.true
  | then-list-ne0-via-else-list-ne0+then-k-eq0 w ↦ no-corner _ _ w.if-list-ne0.false w.if-k-eq0.true
]

pub corner_at-first-requires : goal.corner_at-first-requires
corner_at-first-requires c = omega (arith, c.if-k-eq0.false)

pub clear-requires : goal.clear-requires
clear-requires c = record { boxes = c.requires; x_le_x = (omega arith, omega arith) }

pub returns-then-not-clear : goal.returns-then-not-clear
returns-then-not-clear c = first-blocked _ _ c.if-list-ne0.false c.if-k-eq0.false _ c.corner_at-first.ensures _
    c.clear.ensures (ap not c.if-not-clear.true)

pub returns-then-k-eq1 : goal.returns-then-k-eq1
returns-then-k-eq1 c = one-corner _ _ c.if-list-ne0.false c.if-k-eq0.false _ c.corner_at-first.ensures _
    c.clear.ensures (ap not c.if-not-clear.false) c.if-k-eq1.true

pub corner_at-second-requires : goal.corner_at-second-requires
corner_at-second-requires c = omega (arith, c.if-k-eq1.false, c.if-k-eq0.false)

pub goes_on-requires : goal.goes_on-requires
goes_on-requires c = record { boxes = c.requires; le_k = (omega (arith, c.if-k-eq0.false), omega arith) }

pub returns : goal.returns
returns c = more-corners _ _ c.if-list-ne0.false c.if-k-eq0.false _ c.corner_at-first.ensures _
    c.clear.ensures (ap not c.if-not-clear.false) c.if-k-eq1.false _ c.corner_at-second.ensures _
    c.goes_on.ensures
