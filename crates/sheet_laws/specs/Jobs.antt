-- The job program runs foil 0 of a sheet else empty, as it is stated (document 02, P12): what it gave on a foil of its
-- own it gives there.
use Rattle.std.specs.Prelude.{ℕ, ◌≤◌, ◌≡◌, List, ◌∷◌, length, replicate}
use Rattle.foil_spec.specs.Limits.{max_entries, sheet_size}
use Rattle.foil_spec.specs.Ledger.{Room}
use Rattle.foil_spec.specs.Job.{job_room}
use Rattle.foil_spec.specs.Calls.{run_record, replied, record_on, read_job}
use Rattle.foil_spec.specs.Sheet.{SheetLent, no_board, view, sheet_call, sheet_record}
use Rattle.foil_spec.specs.declared.Board.{Board}

-- what a record comes to on a foil of a sheet is the reply to its call
abbrev pub RecordsAsCalls : Type 0
RecordsAsCalls =
    (r : Room) (k : ℕ) (bs : List ℕ) (at : ℕ) (m : SheetLent)
    → sheet_call r k (run_record bs at) m ≡ replied (sheet_record r k bs at m)

-- a sheet on which no foil is begun but foil 0, whose record is b and whose strip list is s
abbrev pub only_foil0 : Board → List ℕ → List ℕ → SheetLent
only_foil0 b t s = record { boards = b ∷ replicate 7 no_board; table = t; strips = s }

-- a job file gives on the sheet x the replies that it gives on foil 0 alone, and leaves the foil as it does there
pub record RunsAlone (bs : List ℕ) (x : SheetLent) : Type 0 where
  pub replies : (read_job (sheet_record job_room 0) bs x).answer ≡ (read_job (record_on job_room) bs (view 0 x)).answer
  pub leaves : view 0 (read_job (sheet_record job_room 0) bs x).state ≡ (read_job (record_on job_room) bs (view 0 x)).state

abbrev pub JobsAsBefore : Type 0
JobsAsBefore =
    (bs : List ℕ) (b : Board) (t s : List ℕ) → b.entries ≤ max_entries → sheet_size ≤ length t
    → RunsAlone bs (only_foil0 b t s)
