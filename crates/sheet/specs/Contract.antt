-- What the contracts of the calls on a foil of a sheet say: answer, records and lists are what the definitions give.
use Rattle.std.specs.Prelude.{ℕ, ◌/◌, ◌≡◌, Bool, true, List, length, Ok, Err}
use Rattle.foil_spec.specs.Lists.{each}
use Rattle.foil_spec.specs.Ledger.{Step, refused, After}
use Rattle.foil_spec.specs.Ledger.{Answer as Outcome}
use Rattle.foil_spec.specs.Lent.{sound, over_front}
use Rattle.foil_spec.specs.Job.{has}
use Rattle.foil_spec.specs.Calls.{Call, step, run_record, ohms, lay_list, RecordReply, Reply, answered, laid_all}
use Rattle.foil_spec.specs.Calls.{as_reply, output_by}
use Rattle.foil_spec.specs.Sheet.{SheetLent, counts, view, sheet_room, sheet_call}
use Rattle.foil_spec.specs.declared.Ink.{Ink}
use Rattle.foil.specs.Contract.{Answer, answer_of}
use Rattle.foil.specs.declared.Accepted.TheVariants.{Done}
use Rattle.job.specs.Contract.{Reply as JobReply, reply_of}
use Rattle.listing.specs.Contract.{answer_numbers}
use Rattle.ohms.specs.Contract.{resistance_of}
use Rattle.ohms.specs.declared.Resistance.{Resistance}
use Rattle.sheet_rows.specs.Rows.{sheet_lent}
use Rattle.sheet_rows.specs.declared.Sheet.{Sheet}

-- what a call on foil k does that is lent m, and an output list of so many numbers
abbrev pub on_sheet : ℕ → Call → SheetLent → ℕ → After Reply SheetLent
on_sheet k c m output = sheet_call (sheet_room k (counts m.boards) m output) k c m

-- a reply to a step is what it said, and r tells that
pub record Tells (a : Reply) (r : Answer) : Type 0 where
  pub said : Outcome
  pub is : a ≡ answered said
  pub answer : r ≡ answer_of said

-- the answer r, the sheet x, the table t and the strips s are those of a
pub record SheetGave (a : After Reply SheetLent) (r : Answer) (x : Sheet) (t s : List ℕ) : Type 0 where
  pub tells : Tells a.answer r
  pub state : sheet_lent x.boards t s ≡ a.state

-- a call that is one step on foil k, lent m and no output list
abbrev pub SheetStepDone : ℕ → Step → SheetLent → Answer → Sheet → List ℕ → List ℕ → Type 0
SheetStepDone k c m r x t s = SheetGave (on_sheet k (step c) m 0) r x t s

-- one that is lent the output list out as well, and leaves it as out'
pub record SheetOutputDone (k : ℕ) (c : Step) (m : SheetLent) (out : List ℕ) (r : Answer) (x : Sheet)
    (t s out' : List ℕ) : Type 0 where
  pub gave : SheetGave (on_sheet k (step c) m (length out)) r x t s
  pub output : out' ≡ output_by (on_sheet k (step c) m (length out)).answer out

-- one that only reads what it was lent of the sheet, m, answers r, and leaves its output list out as out'
pub record SheetReadDone (k : ℕ) (c : Step) (m : SheetLent) (out : List ℕ) (r : Answer) (out' : List ℕ)
    : Type 0 where
  pub tells : Tells (on_sheet k (step c) m (length out)).answer r
  pub state : m ≡ (on_sheet k (step c) m (length out)).state
  pub output : out' ≡ output_by (on_sheet k (step c) m (length out)).answer out

-- the ohms of a net of foil k were asked, m was only read, and r was answered
pub record SheetOhmsDone (k net : ℕ) (i : Ink) (m : SheetLent) (r : Resistance) : Type 0 where
  pub answer : r ≡ resistance_of (on_sheet k (ohms net i) m 0).answer
  pub state : m ≡ (on_sheet k (ohms net i) m 0).state

-- the record at a place need not try 13 on foil k of m: it is at place 0, where a foil is begun, or the foil keeps the
-- rules
pub record Continues (k at : ℕ) (m : SheetLent) : Type 0 where
  pub fine : (at ≡ 0 → ⊥) → sound (view k m) ≡ true

-- a reply to a record is what the record came to, and r tells that; `on` says which bits are set
pub record RecordTells (on : ℕ → Bool) (a : Reply) (r : JobReply) : Type 0 where
  pub came_to : RecordReply
  pub is : a ≡ as_reply came_to
  pub reply : r ≡ reply_of on came_to

-- the record at a place of the bytes bs was run on foil k, lent m and the corner list out
pub record SheetRecordDone (k : ℕ) (bs : List ℕ) (at : ℕ) (m : SheetLent) (out : List ℕ) (r : JobReply) (x : Sheet)
    (t s out' : List ℕ) : Type 0 where
  pub tells : RecordTells (has bs at) (on_sheet k (run_record bs at) m (length out)).answer r
  pub state : sheet_lent x.boards t s ≡ (on_sheet k (run_record bs at) m (length out)).state
  pub output : out' ≡ output_by (on_sheet k (run_record bs at) m (length out)).answer out

-- a reply to a list of nets is a refusal of it as a whole, and the answers' list stays as it is; or the answers of its
-- lays, at the front of that list, three numbers each
pub data ListTells (a : Reply) (r : Answer) (ans ans' : List ℕ) : Type 0 where
  refused-whole : (n : ℕ) → a ≡ answered (refused n) → r ≡ Err n → ans' ≡ ans → ListTells a r ans ans'
  told-each : (given : List Outcome) → a ≡ laid_all given → r ≡ Ok Done
      → ans' ≡ over_front (each answer_numbers given) ans → ListTells a r ans ans'

-- the list of the wishes ws on foil k was lent m, the corner list out and the answers' list ans
pub record SheetListDone (k : ℕ) (ws : List ℕ) (m : SheetLent) (out ans : List ℕ) (r : Answer) (x : Sheet)
    (t s out' ans' : List ℕ) : Type 0 where
  pub tells : ListTells (on_sheet k (lay_list ws (length ans / 3)) m (length out)).answer r ans ans'
  pub state : sheet_lent x.boards t s ≡ (on_sheet k (lay_list ws (length ans / 3)) m (length out)).state
  pub output : out' ≡ output_by (on_sheet k (lay_list ws (length ans / 3)) m (length out)).answer out
