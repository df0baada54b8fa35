-- The lines and crossings in the box are a block, and the boxes near it are enough for them.
use native.Mathlib.Omega.{arith}
use Rattle.sowing.proofs.Boxed.{block-ordered, box-sown}
use Rattle.sowing.proofs.Near.{near-sown}
use Rattle.sowing.proofs.sow_box.Goals as goal

pub sow_block-requires : goal.sow_block-requires
sow_block-requires c = record {
  boxes = omega (arith, c.requires.boxes, c.boxes_near-near.ensures.le);
  lines-there = omega (arith, c.requires.along-lines.fit, c.first_from-b.ensures.le);
  crossings-there = omega (arith, c.requires.along-cross.fit, c.first_from-hi.ensures.le);
  lines-order =
      block-ordered _ _ c.extent_of-beside.ensures c.requires.solid c.first_from-a.ensures
      c.first_from-b.ensures;
  crossings-order =
      block-ordered _ _ c.extent_of-along.ensures c.requires.solid c.first_from-lo.ensures
      c.first_from-hi.ensures;
  sowable = record {
    m = _;
    n = _;
    on = c.requires.on;
    sown = c.requires.sown;
    lines-in = c.first_from-b.ensures.le;
    crossings-in = c.first_from-hi.ensures.le;
  };
}

pub returns : goal.returns
returns c = near-sown _ _ _ _ _ _ c.entry_at.ensures c.boxes_near-near.ensures
    (box-sown _ _ _ _ c.extent_of-beside.ensures c.extent_of-along.ensures c.first_from-a.ensures
    c.first_from-b.ensures c.first_from-lo.ensures c.first_from-hi.ensures c.sow_block.ensures)
