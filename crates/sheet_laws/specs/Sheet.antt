-- Eight foils on one sheet, as it is stated (document 02, P12): a whole list of calls on all of them behaves as the
-- ledger.
use Rattle.std.specs.Prelude.{ℕ, ◌≡◌, true, false, cond, ◌⊎◌, List, [], ◌∷◌, ◌++◌, eqb, length, get_or, replicate, take}
use Rattle.foil_spec.specs.Limits.{table_size, sheet_foils, sheet_size}
use Rattle.foil_spec.specs.Foil.{Layout, no_foil}
use Rattle.foil_spec.specs.Carrying.{Old, carried}
use Rattle.foil_spec.specs.Ledger.{Room, carry, wrote}
use Rattle.foil_spec.specs.Lent.{Lent, layout_ok, step_on}
use Rattle.foil_spec.specs.Calls.{Call, ledger_call}
use Rattle.foil_spec.specs.Sheet.{counts_ok, no_board, blank, row_call, row_counts, Sheet, store_sheet, SheetLending}
use Rattle.foil_spec.specs.Sheet.{lend_sheet, told_sheet, run_sheet, run_sheet_ledger}
use Rattle.ledger_laws.specs.Numbers.{numbers_in, among, carries_over}

-- the records and the 512 places of the table are zero; past them and in the strip lists stands anything
abbrev pub unused_sheet : List ℕ → (ℕ → List ℕ) → Sheet
unused_sheet rest ss =
    record { boards = replicate sheet_foils no_board; table = replicate sheet_size 0 ++ rest; strips = ss }

-- the same but for foil 0: the record, the 128 places and the strip list of n
abbrev pub carried_sheet : Lent → List ℕ → (ℕ → List ℕ) → Sheet
carried_sheet n rest ss =
    record {
      boards = n.board ∷ replicate 7 no_board;
      table = (take table_size n.table ++ replicate 1920 0) ++ rest;
      strips = λ (k : ℕ). cond (eqb k 0) n.strips (ss k);
    }

-- the sheets that a list of calls may start from, with the ledger's rows: no foil is begun; or foil 0 alone, as a carry
-- of an old foil that was accepted has left it in lists that held anything
pub data Starts : Sheet → List Layout → Type 0 where
  unused : (rest : List ℕ) (ss : ℕ → List ℕ) → Starts (unused_sheet rest ss) (replicate sheet_foils no_foil)
  carried_over : (r : Room) (o : Old) (m : Lent) (nets rest : List ℕ) (ss : ℕ → List ℕ)
      → (step_on r (carry o) m).answer ≡ wrote nets
      → Starts (carried_sheet (step_on r (carry o) m).state rest ss) (carried o ∷ replicate 7 no_foil)

-- from there on, whatever foils are called, all replies, the records, the table, the strips and the output lists are
-- the ledger's
abbrev pub SheetBehaves : Type 0
SheetBehaves =
    (m : Sheet) (ls : List Layout) (cs : List SheetLending) → Starts m ls → run_sheet m cs ≡ run_sheet_ledger m ls cs

-- ---- between the calls

-- the sheet after some calls
unfoldable pub sheet_after : Sheet → List SheetLending → Sheet
sheet_after m [] = m
sheet_after m (c ∷ cs) = sheet_after (lend_sheet c m).state cs

-- the ledger's rows after them
unfoldable pub rows_after : Sheet → List Layout → List SheetLending → List Layout
rows_after m ls [] = ls
rows_after m ls (c ∷ cs) = rows_after m (told_sheet m c ls).state cs

-- the sheet x holds the rows ls, where m was lent at first: those of eight foils, each not begun or keeping the rules,
-- all within both limits
pub record HoldsRows (m : Sheet) (ls : List Layout) (x : Sheet) : Type 0 where
  pub is : x ≡ store_sheet ls m
  pub eight : length ls ≡ sheet_foils
  pub limits : counts_ok (row_counts ls) ≡ true
  pub rows : (k : ℕ) → (get_or ls k no_foil ≡ no_foil) ⊎ (layout_ok (get_or ls k no_foil) ≡ true)

-- so it does after any calls
abbrev pub SheetHoldsRows : Type 0
SheetHoldsRows =
    (m : Sheet) (ls : List Layout) (cs : List SheetLending) → Starts m ls
    → HoldsRows m (rows_after m ls cs) (sheet_after m cs)

-- to a foil that is begun the ledger replies as to a foil of its own
abbrev pub RowsAreFoils : Type 0
RowsAreFoils = (r : Room) (c : Call) (l : Layout) → layout_ok l ≡ true → row_call r c l ≡ ledger_call r c l

-- 13 never applies to a foil that is begun; that of a carry is about the old foil
abbrev pub SheetNeverBroken : Type 0
SheetNeverBroken =
    (m : Sheet) (ls : List Layout) (cs : List SheetLending) (c : SheetLending) → Starts m ls
    → blank (get_or (rows_after m ls cs) c.foil no_foil) ≡ false → carries_over c.call ≡ false
    → among 13 (numbers_in (lend_sheet c (sheet_after m cs)).answer) ≡ false
