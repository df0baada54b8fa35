-- A foil as a job file: the bytes of its board, of each entry, and of the whole.
use Rattle.std.specs.Prelude.{ℕ, ◌/◌, ◌%◌, cond, List, [], ◌∷◌, ◌++◌, eqb}
use Rattle.foil_spec.specs.Lists.{each}
use Rattle.foil_spec.specs.Foil.{Entry, entry_numbers, Layout}

-- a number as two bytes, low byte first
unfoldable pub two_bytes : ℕ → List ℕ
two_bytes n = n % 256 ∷ n / 256 ∷ []

-- the board as a record of its own, by bits 0 and 5: the pen takes the place of the reach, which is 0
unfoldable pub board_bytes : Layout → List ℕ
board_bytes l = 33 ∷ each two_bytes (l.width ∷ l.height ∷ 0 ∷ l.pen.half ∷ l.pen.gap ∷ [])

-- a patch as a record of its own, by bit 1
unfoldable pub patch_bytes : Entry → List ℕ
patch_bytes e = 2 ∷ each two_bytes (e.x0 ∷ e.y0 ∷ e.x1 ∷ e.y1 ∷ [])

-- a leg as a record of its own, by bit 4
unfoldable pub leg_bytes : Entry → List ℕ
leg_bytes e = 16 ∷ each two_bytes (entry_numbers e)

-- an entry as a record of its own
unfoldable pub entry_bytes : Entry → List ℕ
entry_bytes e = cond (eqb e.net 0) (patch_bytes e) (leg_bytes e)

-- the foil as a job file: the board, the entries in table order, the end mark
unfoldable pub job_of : Layout → List ℕ
job_of l = board_bytes l ++ (each entry_bytes l.entries ++ (0 ∷ []))
