-- The most bytes that the file of a foil can have: 11 of the board, 11 of each of 128 legs, and the end mark.
use Rattle.std.specs.Prelude.{ℕ}

abbrev pub file_size : ℕ
file_size = 1420
