-- A foil of a sheet that is put back.
use Rattle.std.specs.Prelude.{ℕ, ◌≡◌, List}
use Rattle.foil_spec.specs.Lent.{lent}
use Rattle.foil_spec.specs.Sheet.{SheetLent, put_back}
use Rattle.foil_spec.specs.declared.Board.{Board}

-- what is lent of a sheet, from its three parts
abbrev pub sheet_lent : List Board → List ℕ → List ℕ → SheetLent
sheet_lent bs t s = record { boards = bs; table = t; strips = s }

-- foil k with the record b and the entries in the rows was put back to the records bs and the table t, which are now
-- bs' and t'; s and s' are its strips before and after
pub record PutBack (k : ℕ) (bs : List Board) (t : List ℕ) (b : Board) (rows : List ℕ) (bs' : List Board) (t' : List ℕ)
    : Type 0 where
  pub is : (s s' : List ℕ) → sheet_lent bs' t' s' ≡ put_back k (sheet_lent bs t s) (lent b rows s')
