-- The boxes of the table, and the path between them.
use native.Mathlib.Omega.{arith}
use Rattle.finding.proofs.Searching.{boxes-posed, layout-found}
use Rattle.finding.proofs.path_between.Goals as goal

pub pen_zones-n-requires : goal.pen_zones-n-requires
pen_zones-n-requires c = record { table = c.requires.table; max_boxes_in_bounds = omega arith }

pub first_path-requires : goal.first_path-requires
first_path-requires c = boxes-posed c.requires c.pen_zones-n.ensures

pub returns : goal.returns
returns c = layout-found c.requires c.pen_zones-n.ensures c.first_path.ensures
