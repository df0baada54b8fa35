-- The rows of the other nets and of the net's legs, the boxes of the first, and the path between them.
use native.Mathlib.Omega.{arith}
use Rattle.tables.proofs.Filling.{no_rows}
use Rattle.joining.proofs.Aiming.{others-table, net-aimed, net-found}
use Rattle.joining.proofs.path_to_net.Goals as goal

pub without-j-requires : goal.without-j-requires
without-j-requires c = (c.requires.known.table.few, c.requires.known.table.len, no_rows)

pub own_legs-k-requires : goal.own_legs-k-requires
own_legs-k-requires c = (c.requires.known.table.few, c.requires.known.table.len, no_rows)

pub pen_rule-rule-requires : goal.pen_rule-rule-requires
pen_rule-rule-requires c = c.requires.known.table.small

pub zones-n-requires : goal.zones-n-requires
zones-n-requires c = record {
  table = rw c.pen_rule-rule.ensures (others-table c.requires.known c.without-j.ensures);
  max_boxes_in_bounds = omega arith;
}

pub first_path_to-requires : goal.first_path_to-requires
first_path_to-requires c = net-aimed c.requires.known c.without-j.ensures c.own_legs-k.ensures c.pen_rule-rule.ensures
    c.zones-n.ensures.0 c.zones-n.ensures.1 c.requires.s-free

pub returns : goal.returns
returns c = net-found c.requires.known c.without-j.ensures c.own_legs-k.ensures
    c.pen_rule-rule.ensures c.zones-n.ensures.0 c.zones-n.ensures.1 _
    c.first_path_to.ensures
