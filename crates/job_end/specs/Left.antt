-- What a job file leaves of a sheet on whose foil 0 it is run, and how the job ended, by the replies to its records.
use Rattle.std.specs.Prelude.{ℕ, ◌≡◌, List, [], ◌∷◌}
use Rattle.foil_spec.specs.Ledger.{Answer, number_of, After}
use Rattle.foil_spec.specs.Job.{job_room}
use Rattle.foil_spec.specs.Calls.{RecordReply, refused_whole, ran_steps, end_mark, read_job}
use Rattle.foil_spec.specs.Sheet.{SheetLent, view, sheet_record}
use Rattle.foil_spec.specs.declared.Board.{Board}
use Rattle.sheet_laws.specs.Jobs.{only_foil0}
use Rattle.job_end.specs.declared.Ended.{Ended}
use Rattle.job_end.specs.declared.Ended.TheVariants.{AtMark, ByBoard, ByFile}

-- the number of the first answer
unfoldable pub first_number : List Answer → ℕ
first_number [] = 0
first_number (a ∷ given) = number_of a

-- how a job ended by what its last record came to, and by the board's record then; a board's answer is the first
unfoldable pub ended_of : RecordReply → Board → Ended
ended_of (refused_whole n) b = ByFile n
ended_of (ran_steps given place) b = ByBoard (first_number given)
ended_of end_mark b = AtMark b

-- the last of some replies, or a if there is none
unfoldable pub last_reply : RecordReply → List RecordReply → RecordReply
last_reply a [] = a
last_reply a (b ∷ given) = last_reply b given

-- the last reply to a job file's records, and what they leave of m; a file of no bytes is refused by 14
abbrev pub job_end : List ℕ → SheetLent → After RecordReply SheetLent
job_end bs m =
    record {
      answer = last_reply (refused_whole 14) (read_job (sheet_record job_room 0) bs m).answer;
      state = (read_job (sheet_record job_room 0) bs m).state;
    }

-- foil 0's record after them
abbrev pub board_left : List ℕ → SheetLent → Board
board_left bs m = (view 0 (job_end bs m).state).board

-- the job of a file was run on foil 0 of m: it ended so, and left a sheet else empty of the table t and of foil 0's
-- strips s
pub record JobLeft (bs : List ℕ) (m : SheetLent) (e : Ended) (t s : List ℕ) : Type 0 where
  pub ended : e ≡ ended_of (job_end bs m).answer (board_left bs m)
  pub state : only_foil0 (board_left bs m) t s ≡ (job_end bs m).state
