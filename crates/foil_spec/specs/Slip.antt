-- The slip for the carton: for each net a line of 32 characters and a line feed.
use Rattle.std.specs.Prelude.{ℕ, ◌-◌, List, ◌++◌, length, replicate}
use Rattle.foil_spec.specs.Lists.{each}
use Rattle.foil_spec.specs.Foil.{Point, Layout}
use Rattle.foil_spec.specs.Text.{ascii, decimal}
use Rattle.foil_spec.specs.Nets.{nets_of, legs_of, net_length, first_point}

-- the number in k columns, set right with blanks before
unfoldable pub set_right : ℕ → ℕ → List ℕ
set_right k n = replicate (k - length (decimal n)) 32 ++ decimal n

-- two blank columns, then the number in k columns
unfoldable pub column : ℕ → ℕ → List ℕ
column k n = ascii "  " ++ set_right k n

-- net in columns 1 to 3, legs in 6 to 8, length in 11 to 16, first point as x in 19 to 22 and y in 25 to 28
unfoldable pub slip_line : ℕ → ℕ → ℕ → Point → List ℕ
slip_line net legs len p =
    set_right 3 net ++ column 3 legs ++ column 6 len ++ column 4 p.x ++ column 4 p.y ++ ascii "    \n"

-- the line of a net
unfoldable pub net_line : Layout → ℕ → List ℕ
net_line l net =
    slip_line net (length (legs_of net l.entries)) (net_length net l) (first_point (legs_of net l.entries))

-- the lines of all nets, rising, without a heading
unfoldable pub slip_of : Layout → List ℕ
slip_of l = each (net_line l) (nets_of l.entries)
