-- Columns and rows, and then their links.
use Rattle.search.proofs.Grid.{aimed_on}
use Rattle.search.proofs.build.Goals as goal

pub axis-nc-requires : goal.axis-nc-requires
axis-nc-requires c = rw (c.from.ensures, c.from-2.ensures) (record {
  boxes = c.requires.aimed.boxes.len;
  targets = c.requires.aimed.targets.len;
  few = c.requires.aimed.few;
  on = (aimed_on c.requires.aimed).0;
  short = c.requires.aimed.boxes.width;
  room = c.requires.room.column-lines;
})

pub axis-nr-requires : goal.axis-nr-requires
axis-nr-requires c = rw (c.from-3.ensures, c.from-4.ensures) (record {
  boxes = c.requires.aimed.boxes.len;
  targets = c.requires.aimed.targets.len;
  few = c.requires.aimed.few;
  on = (aimed_on c.requires.aimed).1;
  short = c.requires.aimed.boxes.height;
  room = c.requires.room.row-lines;
})
