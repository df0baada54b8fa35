-- `search_test::asked::first_path` is safe and ends: the search is asked for a path between free points.
use Rattle.std.proofs.Common.{arith}
use Rattle.search_test.proofs.Asking.{table_of, posed}
use Rattle.search_test.proofs.asked.first_path.Goals as goal

pub pen_zones-count-requires : goal.pen_zones-count-requires
pen_zones-count-requires c =
    record {
      table = table_of (omega arith) (omega arith) (omega arith) (omega arith) (omega arith)
          (omega arith) (omega arith) (c.boxes_ok.ensures c.if-not-boxes_ok.false);
      max_boxes_in_bounds = omega arith;
    }

pub first_path-requires : goal.first_path-requires
first_path-requires c = posed c.pen_zones-count.ensures (c.is_free.ensures.0 c.if-not-is_free.false)
    (c.is_free-else-not-is_free.ensures.0 c.if-not-is_free-2.false)
