-- The ink, from the bytes of its three figures.
use Rattle.std.specs.Prelude.{ℕ, ◌+◌, ◌*◌, false, cond, List, Float}
use Rattle.std.specs.Float.{inf, binary64}
use Rattle.std.specs.Float.Ieee.{of_bits}
use Rattle.std.specs.Float.Ieee.Scale.{finite}
use Rattle.foil_spec.specs.Job.{number}
use Rattle.foil_spec.specs.declared.Ink.{Ink}

-- the number of four bytes at a place, low byte first
unfoldable pub number4 : List ℕ → ℕ → ℕ
number4 bs at = number bs at + 65536 * number bs (at + 2)

-- the number of eight bytes at a place, low byte first
unfoldable pub number8 : List ℕ → ℕ → ℕ
number8 bs at = number4 bs at + 4294967296 * number4 bs (at + 4)

-- the f64 of a bit pattern; one that is not finite is read as an infinity, which 22 refuses as it does a NaN
unfoldable pub figure_of : ℕ → Float
figure_of n = cond (finite (of_bits binary64 n)) (of_bits binary64 n) (inf false)

-- ohms a square, then the width, then the squares of a bend
unfoldable pub ink_in : List ℕ → Ink
ink_in bs =
    record { sheet = figure_of (number8 bs 0); width = figure_of (number8 bs 8); bend = figure_of (number8 bs 16) }
