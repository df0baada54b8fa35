-- How long the file of a foil is.
use Prim.Native.Nat.{ℕ, ◌+◌, ◌*◌, ◌≤◌}
use native.Mathlib.Omega.{arith}
use mathlib.Core.Path.{◌≡◌}
use mathlib.Core.Bool.{Bool, true, false, cond}
use mathlib.Core.List.{List, [], ◌∷◌}
use lib.Dec.{eqb}
use lib.ListN.{length, length-append}
use Rattle.foil_spec.specs.Lists.{each}
use Rattle.foil_spec.specs.Limits.{max_entries}
use Rattle.foil_spec.specs.Foil.{Entry, entry_numbers, Layout}
use Rattle.foil_spec.specs.Saving.{two_bytes, board_bytes, patch_bytes, leg_bytes, entry_bytes, job_of}

-- there are some bytes, and no more than a leg has
pub record Sized (bs : List ℕ) : Type 0 where
  pub some_bytes : 1 ≤ length bs
  pub few : length bs ≤ 11

pub entry-size : (e : Entry) → Sized (entry_bytes e)
unfolding entry_bytes patch_bytes leg_bytes two_bytes entry_numbers
entry-size e = go (eqb e.net 0)
  where
    go : (t : Bool) → Sized (cond t (patch_bytes e) (leg_bytes e))
    go true = record { some_bytes = omega arith; few = omega arith }
    go false = record { some_bytes = omega arith; few = omega arith }

pub entries-size : (es : List Entry) → length (each entry_bytes es) ≤ 11 * length es
entries-size [] = omega arith
entries-size (e ∷ es) =
    omega (arith, length-append (entry_bytes e) (each entry_bytes es), (entry-size e).few, entries-size es)

-- the board has 11 bytes, the end mark one
pub file-size : (l : Layout) → length (job_of l) ≡ 12 + length (each entry_bytes l.entries)
unfolding job_of board_bytes two_bytes
file-size l = omega (arith, length-append (each entry_bytes l.entries) (0 ∷ []))

-- the most that a foil's file can have
pub file-small : (l : Layout) → length l.entries ≤ max_entries → length (job_of l) ≤ 1420
file-small l few = omega (arith, file-size l, entries-size l.entries, few)
