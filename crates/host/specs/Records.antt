-- What running a record over structs has done: the same as on numbers, `on_sheet` of the table's numbers.
use Rattle.std.specs.Prelude.{ℕ, Bool, true, false, List, Option, Some, None, Ok, Err}
use Rattle.foil_spec.specs.Lists.{each}
use Rattle.foil_spec.specs.Foil.{Entry, entry_numbers}
use Rattle.foil.specs.Contract.{Answer}
use Rattle.job.specs.Contract.{Reply}
use Rattle.job.specs.declared.Answers.{Answers}
use Rattle.job.specs.declared.Progress.TheVariants.{Ran, AtEnd}
use Rattle.sheet_rows.specs.declared.Sheet.{Sheet}
use Rattle.sheet.specs.Contract.{SheetRecordDone}
use Rattle.host.specs.declared.records.StepSaid.{StepSaid}
use Rattle.host.specs.declared.records.RecordSaid.{RecordSaid}
use Rattle.host.specs.Calls.{lent_of, nothing_said, said_of}

-- the record at a place of the bytes bs, on foil k: records, table, strips and corner list were b, es, s and ks; it
-- replied r and left b', es', s' and ks'
abbrev pub HostRan : ℕ → List ℕ → ℕ → Sheet → List Entry → List ℕ → List ℕ → Reply → Sheet → List Entry → List ℕ
    → List ℕ → Type 0
HostRan k bs at b es s ks r b' es' s' ks' =
    SheetRecordDone k bs at (lent_of b es s) ks r b' (each entry_numbers es') s' ks'

-- ---- replies as numbers

-- a step's numbers, zeros if it was not run
unfoldable pub step_said_of : Option Answer → StepSaid
step_said_of None = record { ran = false; said = nothing_said }
step_said_of (Some a) = record { ran = true; said = said_of a }

-- whether there is a next place
unfoldable pub goes_on : Option ℕ → Bool
goes_on (Some n) = true
goes_on None = false

-- the next place, 0 for none
unfoldable pub place_next : Option ℕ → ℕ
place_next (Some n) = n
place_next None = 0

-- the numbers of a reply with these answers
unfoldable pub ran_said : ℕ → Bool → Answers → Option ℕ → RecordSaid
ran_said n end given next =
    record {
      number = n;
      end = end;
      board = step_said_of given.board;
      patch = step_said_of given.patch;
      track = step_said_of given.track;
      lift = step_said_of given.lift;
      leg = step_said_of given.leg;
      more = goes_on next;
      next = place_next next;
    }

-- no step was run
abbrev pub no_answers : Answers
no_answers = record { board = None; patch = None; track = None; lift = None; leg = None }

-- a reply's numbers
unfoldable pub record_said_of : Reply → RecordSaid
record_said_of (Err n) = ran_said n false no_answers None
record_said_of (Ok (Ran given next)) = ran_said 0 false given next
record_said_of (Ok AtEnd) = ran_said 0 true no_answers None
