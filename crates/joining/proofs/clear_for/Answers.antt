-- The boxes of the other nets, and the way of one corner.
use native.Mathlib.Omega.{arith}
use Rattle.tables.proofs.Filling.{no_rows}
use Rattle.joining.proofs.Aiming.{others-table, clear-is}
use Rattle.joining.proofs.clear_for.Goals as goal

pub without-j-requires : goal.without-j-requires
without-j-requires c = (c.requires.table.few, c.requires.table.len, no_rows)

pub pen_zones-n-requires : goal.pen_zones-n-requires
pen_zones-n-requires c = record { table = others-table c.requires c.without-j.ensures; max_boxes_in_bounds = omega arith }

pub is_way-requires : goal.is_way-requires
is_way-requires c = c.pen_zones-n.ensures.boxes

pub returns : goal.returns
returns c = clear-is c.requires c.without-j.ensures c.pen_zones-n.ensures _ _
    c.is_way.ensures
