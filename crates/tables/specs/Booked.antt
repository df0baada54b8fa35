-- What a booking leaves.
use Rattle.std.specs.Prelude.{◌≡◌, true, false, List, ℕ, Option, Some, None}
use Rattle.foil_spec.specs.Lists.{each}
use Rattle.foil_spec.specs.Limits.{table_size, strips_size}
use Rattle.foil_spec.specs.Foil.{entry_numbers, Layout}
use Rattle.foil_spec.specs.Ledger.{strips_of, is_too_fine}
use Rattle.foil_spec.specs.Lent.{strip_numbers, written, board_of}
use Rattle.foil_spec.specs.declared.Board.{Board}

-- the layout l is stored in the table t and the strips s
pub record Stored (l : Layout) (t s t' s' : List ℕ) (b : Board) : Type 0 where
  pub fine : is_too_fine l ≡ false
  pub board : b ≡ board_of l
  pub table : t' ≡ written table_size (each entry_numbers l.entries) t
  pub strips : s' ≡ written strips_size (each strip_numbers (strips_of l)) s

-- it has too many strips, and the lists are as they were
pub record Unchanged (l : Layout) (t s t' s' : List ℕ) : Type 0 where
  pub many : is_too_fine l ≡ true
  pub table : t' ≡ t
  pub strips : s' ≡ s

-- what a booking leaves: the layout with its record, or none where it has too many strips
abbrev pub Booking : Layout → List ℕ → List ℕ → List ℕ → List ℕ → Option Board → Type 0
Booking l t s t' s' (Some b) = Stored l t s t' s' b
Booking l t s t' s' None = Unchanged l t s t' s'
