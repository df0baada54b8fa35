-- What a list of calls on a sheet lists of a call is what the call left by its contract.
use Rattle.std.specs.Prelude.{ℕ, ◌/◌, ◌≡◌, List, [], ◌∷◌, length}
use Rattle.foil_spec.specs.Ledger.{Step}
use Rattle.foil_spec.specs.Job.{has}
use Rattle.foil_spec.specs.Calls.{step, run_record, ohms, lay_list}
use Rattle.foil_spec.specs.Sheet.{Sheet, SheetLending, sheet_front, sheet_back, SheetLeft, run_sheet}
use Rattle.foil_spec.specs.declared.Ink.{Ink}
use Rattle.foil.specs.Contract.{Answer}
use Rattle.job.specs.Contract.{Reply}
use Rattle.ohms.specs.Contract.{resistance_of}
use Rattle.ohms.specs.declared.Resistance.{Resistance}
use Rattle.sheet_rows.specs.Rows.{sheet_lent}
use Rattle.sheet_rows.specs.declared.Sheet.{Sheet as Records}
use Rattle.sheet.specs.Contract.{Tells, SheetStepDone, SheetOutputDone, SheetReadDone, SheetOhmsDone}
use Rattle.sheet.specs.Contract.{RecordTells, SheetRecordDone, ListTells, SheetListDone}

-- o has the sheet x and the output list out
pub record Holds (o : SheetLeft) (x : Sheet) (out : List ℕ) : Type 0 where
  pub sheet : o.sheet ≡ x
  pub output : o.output ≡ out

-- o is listed of the call c on the sheet x: whichever contract the call keeps, o has the reply that was told, the sheet
-- with what was left of the front part put back, and the output list
pub record ListedBy (c : SheetLending) (x : Sheet) (o : SheetLeft) : Type 0 where
  -- a step that is lent no output list
  pub by-step : (a : Step) (r : Answer) (y : Records) (t s : List ℕ) → c.call ≡ step a → c.output ≡ []
      → SheetStepDone c.foil a (sheet_front c x) r y t s
      → Tells o.reply r × (o.sheet ≡ sheet_back c x (sheet_lent y.boards t s))
  pub by-output : (a : Step) (r : Answer) (y : Records) (t s out' : List ℕ) → c.call ≡ step a
      → SheetOutputDone c.foil a (sheet_front c x) c.output r y t s out'
      → Tells o.reply r × Holds o (sheet_back c x (sheet_lent y.boards t s)) out'
  pub by_read : (a : Step) (r : Answer) (out' : List ℕ) → c.call ≡ step a
      → SheetReadDone c.foil a (sheet_front c x) c.output r out'
      → Tells o.reply r × Holds o x out'
  -- and the ohms, which have none either
  pub by-ohms : (net : ℕ) (i : Ink) (r : Resistance) → c.call ≡ ohms net i → c.output ≡ []
      → SheetOhmsDone c.foil net i (sheet_front c x) r
      → (r ≡ resistance_of o.reply) × (o.sheet ≡ x)
  pub by-record : (bs : List ℕ) (at : ℕ) (r : Reply) (y : Records) (t s out' : List ℕ) → c.call ≡ run_record bs at
      → SheetRecordDone c.foil bs at (sheet_front c x) c.output r y t s out'
      → RecordTells (has bs at) o.reply r × Holds o (sheet_back c x (sheet_lent y.boards t s)) out'
  pub by-list : (ws ans : List ℕ) (r : Answer) (y : Records) (t s out' ans' : List ℕ)
      → c.call ≡ lay_list ws (length ans / 3)
      → SheetListDone c.foil ws (sheet_front c x) c.output ans r y t s out' ans'
      → ListTells o.reply r ans ans' × Holds o (sheet_back c x (sheet_lent y.boards t s)) out'

-- so it is of the first call of a list, on a sheet that holds anything
abbrev pub CallsListed : Type 0
CallsListed =
    (c : SheetLending) (cs : List SheetLending) (x : Sheet) (o : SheetLeft) (os : List SheetLeft)
    → run_sheet x (c ∷ cs) ≡ o ∷ os → ListedBy c x o
