-- What the job program writes for the bytes of a file, over the ledger.
use Rattle.std.specs.Prelude.{ℕ, zero, suc, List, [], ◌∷◌, ◌++◌, length}
use Rattle.std.proofs.Math.Option.{Option, none, some}
use Rattle.foil_spec.specs.Lists.{each}
use Rattle.foil_spec.specs.Foil.{Point, Layout, no_foil}
use Rattle.foil_spec.specs.Ledger.{strips_of, Answer, number_of, refused, accepted, laid, found, wrote, booked}
use Rattle.foil_spec.specs.Job.{job_room, RecordStep, board_step, patch_step, track_step, lift_step, leg_step, record_steps}
use Rattle.foil_spec.specs.Calls.{RecordReply, refused_whole, ran_steps, end_mark, ledger_record}
use Rattle.lines.specs.Lines.{board_line, patch_line, track_refused, track_laid, lift_line, leg_line}
use Rattle.lines.specs.Lines.{strip_line, file_line}

-- a track: its bends and its corners
pub record Track : Type 0 where
  pub bends : ℕ
  pub corners : List Point

-- the track that an answer has, if it has one
unfoldable pub track_in : Answer → Option Track
track_in (refused n) = none
track_in accepted = none
track_in (laid cs n) = some (record { bends = n; corners = cs })
track_in (found n) = none
track_in (wrote bs) = none
track_in (booked k n) = none

-- the line of a net's track, or where there is none of its refusal by a number
unfoldable pub track_line : ℕ → ℕ → Option Track → List ℕ
track_line net n none = track_refused net n
track_line net n (some t) = track_laid net t.bends t.corners

-- the line of a step
unfoldable pub line_of_step : RecordStep → Answer → List ℕ
line_of_step (board_step W H c) a = board_line (number_of a)
line_of_step (patch_step x0 y0 x1 y1) a = patch_line (number_of a)
line_of_step (track_step net S T) a = track_line net (number_of a) (track_in a)
line_of_step (lift_step net) a = lift_line net (number_of a)
line_of_step (leg_step e) a = leg_line e.net (number_of a)

-- the lines of the steps that were answered
unfoldable pub lines_of_steps : List RecordStep → List Answer → List ℕ
lines_of_steps ss [] = []
lines_of_steps [] (a ∷ given) = []
lines_of_steps (s ∷ ss) (a ∷ given) = line_of_step s a ++ lines_of_steps ss given

-- the lines of a record with these steps, by what it came to and what it left; `rest` gives those from the next place
-- on
unfoldable pub reply_lines : List RecordStep → RecordReply → Layout → (ℕ → List ℕ) → List ℕ
reply_lines ss (refused_whole n) l rest = file_line n
reply_lines ss (ran_steps given none) l rest = lines_of_steps ss given
reply_lines ss (ran_steps given (some n)) l rest = lines_of_steps ss given ++ rest n
reply_lines ss end_mark l rest = each strip_line (strips_of l)

-- the lines from the record at a place on, of at most so many records
unfoldable pub output_from : ℕ → List ℕ → ℕ → Layout → List ℕ
output_from zero bs at l = []
output_from (suc most) bs at l =
    reply_lines
    (record_steps bs at)
    (ledger_record job_room bs at l).answer
    (ledger_record job_room bs at l).state
    (λ (n : ℕ). output_from most bs n (ledger_record job_room bs at l).state)

-- what the job program writes for the bytes of a file, which has no more records than bytes
unfoldable pub output : List ℕ → List ℕ
output bs = output_from (suc (length bs)) bs 0 no_foil
