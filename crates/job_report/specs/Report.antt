-- A record that is run on foil 0 of a sheet and reported: its lines, the next place and the lists; and what all records
-- of a job write.
use Rattle.std.specs.Prelude.{ℕ, zero, suc, ◌≤◌, ◌≡◌, List, [], ◌++◌, length}
use Rattle.std.proofs.Math.Option.{Option, none, some}
use Rattle.foil_spec.specs.Limits.{max_entries, max_bytes, sheet_size}
use Rattle.foil_spec.specs.Ledger.{After}
use Rattle.foil_spec.specs.Lent.{held}
use Rattle.foil_spec.specs.Job.{job_room, has, record_steps}
use Rattle.foil_spec.specs.Calls.{RecordReply, as_reply, output_by, place_after}
use Rattle.foil_spec.specs.Sheet.{SheetLent, view, sheet_record}
use Rattle.foil_spec.specs.declared.Board.{Board}
use Rattle.job.specs.Contract.{Reply, next_of, reply_of}
use Rattle.lines.specs.Output.{reply_lines, output}
use Rattle.putting.specs.Put.{Put}
use Rattle.sheet.specs.Contract.{Continues}
use Rattle.sheet_laws.specs.Jobs.{only_foil0}
use Rattle.job_report.specs.declared.Reported.{Reported}

-- the record at a place, run on foil 0 of a sheet in the room of a job
abbrev pub ran_record : List ℕ → ℕ → SheetLent → After RecordReply SheetLent
ran_record bs at m = sheet_record job_room 0 bs at m

-- the record at a place may be run on a sheet else empty, where foil 0 has the record b, the sheet the table t and the
-- foil the strips s: it is at place 0, or the foil keeps the rules
pub record MayCome (at : ℕ) (b : Board) (t s : List ℕ) : Type 0 where
  pub continues : Continues 0 at (only_foil0 b t s)

-- the record at a place was lent m, which has the 512 places of a sheet, and the corner list out: it answered r, and
-- left the corner list out' and a sheet else empty, of the table t and of foil 0's record b and strips s
pub record RecordRan (bs : List ℕ) (at : ℕ) (m : SheetLent) (out : List ℕ) (r : Reply) (b : Board)
    (t s out' : List ℕ) : Type 0 where
  pub places : sheet_size ≤ length m.table
  pub reply : r ≡ reply_of (has bs at) (ran_record bs at m).answer
  pub state : only_foil0 b t s ≡ (ran_record bs at m).state
  pub output : out' ≡ output_by (as_reply (ran_record bs at m).answer) out

-- its lines
unfoldable pub record_lines : List ℕ → ℕ → SheetLent → List ℕ
record_lines bs at m =
    reply_lines (record_steps bs at) (ran_record bs at m).answer (held (view 0 (ran_record bs at m).state))
    (λ (n : ℕ). [])

-- it was lent the byte list `old` as well: it left its lines at the front of that list, which is now `new`, and
-- answered r; all else is left so
pub record RecordReported (bs : List ℕ) (at : ℕ) (m : SheetLent) (out old new : List ℕ) (r : Reported)
    (b : Board) (t s out' : List ℕ) : Type 0 where
  pub places : sheet_size ≤ length m.table
  pub lines : Put old 0 (record_lines bs at m) new r.size
  pub next : r.next ≡ next_of (place_after (ran_record bs at m).answer)
  pub state : only_foil0 b t s ≡ (ran_record bs at m).state
  pub output : out' ≡ output_by (as_reply (ran_record bs at m).answer) out

-- what comes from the next place on, if there is one
unfoldable pub onward : Option ℕ → (ℕ → List ℕ) → List ℕ
onward none rest = []
onward (some n) rest = rest n

-- the lines of the records one after the other, from the one at a place on, of at most so many: each is run on what the
-- last one left
unfoldable pub report_from : ℕ → List ℕ → ℕ → SheetLent → List ℕ
report_from zero bs at m = []
report_from (suc most) bs at m =
    record_lines bs at m
    ++ onward (place_after (ran_record bs at m).answer)
    (λ (n : ℕ). report_from most bs n (ran_record bs at m).state)

-- for every file, the lines of its records from place 0 on, of one more than a file may have bytes, are its output,
-- whatever the lists and foil 0's record hold at first, but that its count keeps the limit
abbrev pub WritesOutput : Type 0
WritesOutput =
    (bs : List ℕ) (b : Board) (t s : List ℕ) → b.entries ≤ max_entries → sheet_size ≤ length t
    → report_from (suc max_bytes) bs 0 (only_foil0 b t s) ≡ output bs
