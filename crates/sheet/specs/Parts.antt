-- What the parts of a call on a foil of a sheet are asked and say.
use Rattle.std.specs.Prelude.{ℕ, ◌≤◌, ◌<◌, ◌≡◌, Bool, true, false, cond, not, ◌||◌, List, [], ◌∷◌, ltb, length, get_or}
use Rattle.std.specs.Prelude.{Some, None, Result, Ok, Err, is_ok}
use Rattle.std.proofs.Math.Option.{some}
use Rattle.foil_spec.specs.Limits.{table_size, strips_size, sheet_foils}
use Rattle.foil_spec.specs.Ledger.{Refusal, ◌⇒◌, first, reads, refused, after_lent, After}
use Rattle.foil_spec.specs.Lent.{lent, sound}
use Rattle.foil_spec.specs.Wishes.{too_many}
use Rattle.foil_spec.specs.Calls.{Call, step, run_record, ohms, lay_list, Reply, answered, too_large}
use Rattle.foil_spec.specs.Sheet.{counts_ok, limit_of, SheetLent, no_board, counts, table_at, view, put_back, sheet_room}
use Rattle.foil_spec.specs.declared.Board.{Board}
use Rattle.foil.specs.Contract.{Checked}
use Rattle.job.specs.Contract.{Told, Reply as Replied}
use Rattle.job.specs.declared.Answers.{Answers}
use Rattle.job.specs.declared.Progress.TheVariants.{Ran, AtEnd}
use Rattle.sheet_laws.specs.Alone.{EightFoils}
use Rattle.sheet_rows.specs.Rows.{sheet_lent}
use Rattle.sheet.specs.Contract.{on_sheet, Continues}

-- ---- the checks

-- the refusals of a call on foil k that is lent m, before the foil is looked at: 23, 12, and 13 for the counts
abbrev pub sheet_opening : ℕ → SheetLent → List Refusal
sheet_opening k m =
    (ltb 7 k ⇒ 23)
    ∷ after_lent (sheet_room k (counts m.boards) m 0) (not (counts_ok (counts m.boards))) []

-- foil k of m was taken out: its record is b, its entries are in the rows, and its strip list is long enough
pub record TakenOut (k : ℕ) (m : SheetLent) (rows : List ℕ) (b : Board) : Type 0 where
  pub here : k < sheet_foils
  pub eight-foils : EightFoils m.boards m.table
  pub strips : strips_size ≤ length m.strips
  pub is : rows ≡ table_at k m.boards m.table
  pub board : b ≡ get_or m.boards k no_board

-- the foil's record, or the number of a refusal
abbrev pub Foil : Type 0
Foil = Result Board ℕ

-- it was taken out, or the first of these refusals has this number
abbrev pub Lending : ℕ → SheetLent → List ℕ → Foil → Type 0
Lending k m rows (Ok b) = TakenOut k m rows b
Lending k m rows (Err n) = first (sheet_opening k m) ≡ some n

-- besides, the foil keeps the rules
pub record Opened (k : ℕ) (m : SheetLent) (rows : List ℕ) (b : Board) : Type 0 where
  pub out : TakenOut k m rows b
  pub keeps : sound (view k m) ≡ true

-- what comes of a call that is refused by a number
abbrev pub refused_on : ℕ → SheetLent → After Reply SheetLent
refused_on n m = record { answer = answered (refused n); state = m }

-- the call looks at the foil before all else that is its own
unfoldable pub reads_foil : Call → Bool
reads_foil (step s) = reads s
reads_foil (run_record bs at) = false
reads_foil (ohms net i) = true
reads_foil (lay_list ws n) = not (too_many ws n)

-- the foil was taken out and keeps the rules, or such calls are refused by this number
abbrev pub Opening : ℕ → SheetLent → List ℕ → Foil → Type 0
Opening k m rows (Ok b) = Opened k m rows b
Opening k m rows (Err n) =
    (c : Call) (output : ℕ) → reads_foil c ≡ true → on_sheet k c m output ≡ refused_on n m

-- the foil was taken out for a list of the wishes ws with so many places for answers, which are not too many, and keeps
-- the rules; or the list is refused by this number
abbrev pub ListOpening : ℕ → SheetLent → List ℕ → ℕ → List ℕ → Foil → Type 0
ListOpening k m ws n rows (Ok b) = Opened k m rows b × (too_many ws n ≡ false)
ListOpening k m ws n rows (Err i) = (output : ℕ) → on_sheet k (lay_list ws n) m output ≡ refused_on i m

-- the foil was taken out for a record of the bytes bs, which are not too many; or a record of them is refused by this
-- number, wherever it begins
abbrev pub RecordLending : ℕ → SheetLent → List ℕ → List ℕ → Foil → Type 0
RecordLending k m bs rows (Ok b) = TakenOut k m rows b × (too_large bs ≡ false)
RecordLending k m bs rows (Err n) =
    (at output : ℕ) → on_sheet k (run_record bs at) m output ≡ refused_on n m

-- 13 need not be tried for the record at a place of the bytes bs, or that record is refused by this number
abbrev pub RecordChecked : ℕ → SheetLent → List ℕ → ℕ → Checked → Type 0
RecordChecked k m bs at (Ok _) = Continues k at m
RecordChecked k m bs at (Err n) = (output : ℕ) → on_sheet k (run_record bs at) m output ≡ refused_on n m

-- ---- the end of a call

-- foil k of the records bs and the table t, now of the record b and the rows, may be put back if the call wrote entries
pub record Closable (k : ℕ) (bs : List Board) (t rows : List ℕ) (b : Board) (wrote : Bool) : Type 0 where
  pub here : k < sheet_foils
  pub eight-foils : EightFoils bs t
  pub few : wrote ≡ true → b.entries ≤ limit_of (counts bs) k
  pub full : table_size ≤ length rows

-- it was put back if it did, and the records are bs', the table t'; s and s' are its strips before and after
pub record Closed (k : ℕ) (bs : List Board) (t rows : List ℕ) (b : Board) (wrote : Bool) (bs' : List Board)
    (t' : List ℕ) : Type 0 where
  pub is : (s s' : List ℕ)
      → sheet_lent bs' t' s' ≡ cond wrote (put_back k (sheet_lent bs t s) (lent b rows s')) (sheet_lent bs t s')

-- what a bit of a record told is no refusal
unfoldable pub took : Told → Bool
took None = false
took (Some a) = is_ok a

-- so it is for some bit
unfoldable pub some_took : Answers → Bool
some_took a = took a.board || took a.patch || took a.track || took a.lift || took a.leg

-- a step of the record was accepted
unfoldable pub took_any : Replied → Bool
took_any (Err n) = false
took_any (Ok (Ran a n)) = some_took a
took_any (Ok AtEnd) = false
