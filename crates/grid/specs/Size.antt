-- The size of the escape grid.
use Rattle.std.specs.Prelude.{ℕ}

-- an axis has at most so many lines: two for each of 133 boxes and target boxes, the first, the last, and that of S
abbrev pub stride : ℕ
stride = 269

-- what is kept of crossings stands line after line, `stride` places a line
abbrev pub area : ℕ
area = 72361
