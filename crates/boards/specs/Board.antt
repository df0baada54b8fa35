-- What is true of every board that is made.
use Rattle.std.specs.Prelude.{◌<◌, ◌≤◌}
use Rattle.boards.specs.declared.Made.{Made}

-- it is at most 40 by 40, its clearance at most 3, and its two points are on it
pub record OnBoard (b : Made) : Type 0 where
  pub wide : b.width ≤ 40
  pub high : b.height ≤ 40
  pub clearance : b.clearance ≤ 3
  pub few : b.entries ≤ 128
  pub s-column : b.sx < b.width
  pub s-row : b.sy < b.height
  pub t-column : b.tx < b.width
  pub t-row : b.ty < b.height
