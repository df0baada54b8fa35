-- `booking::way::goes_on` takes one segment a turn, upright and level by turns.
use Rattle.zones.specs.Boxes.{box_free}
use Rattle.booking.proofs.Walking.{Going}
use Rattle.booking.proofs.way.goes_on.Given as goal

abbrev pub invariant-loop-j : goal.invariant-loop-j
invariant-loop-j l = Going (box_free l.w l.h l.n l.boxes) l.list l.k l.first l.upright l.j
