-- `booking::draws_way` asks the boxes of the table.
use native.Mathlib.Omega.{arith}
use Rattle.booking.proofs.Checking.{layout-way}
use Rattle.booking.proofs.draws_way.Goals as goal

pub pen_zones-n-requires : goal.pen_zones-n-requires
pen_zones-n-requires c = record { table = c.requires; max_boxes_in_bounds = omega arith }

pub is_way-requires : goal.is_way-requires
is_way-requires c = c.pen_zones-n.ensures.boxes

pub returns : goal.returns
returns c = layout-way _ _ _ _ _ _ c.pen_zones-n.ensures _ c.is_way.ensures
