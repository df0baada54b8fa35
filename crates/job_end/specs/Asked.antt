-- What a program writes that asks one thing of the foil that a job leaves, by the bytes of the job file.
use Rattle.std.specs.Prelude.{ℕ, ◌≤◌, ◌≡◌, List, [], ◌++◌, ℤ, pos, length, take, replicate}
use Rattle.foil_spec.specs.Limits.{strips_size, sheet_size}
use Rattle.foil_spec.specs.Text.{ascii}
use Rattle.foil_spec.specs.Ledger.{with_output, Step, save, slip}
use Rattle.foil_spec.specs.Ledger.{Answer as Outcome, refused, accepted, laid, found, wrote, booked}
use Rattle.foil_spec.specs.Job.{job_room}
use Rattle.foil_spec.specs.Calls.{step, Reply, answered, ran, at_end, measured, laid_all}
use Rattle.foil_spec.specs.Sheet.{SheetLent, no_board, sheet_call}
use Rattle.foil_spec.specs.declared.Board.{Board}
use Rattle.sheet_laws.specs.Jobs.{only_foil0}
use Rattle.lines.specs.Lines.{item, board_line, file_line}
use Rattle.job_end.specs.Left.{job_end, board_left, ended_of}
use Rattle.job_end.specs.declared.Ended.{Ended}
use Rattle.job_end.specs.declared.Ended.TheVariants.{AtMark, ByBoard, ByFile}
use Rattle.job_end.specs.declared.asking.Question.{Question}
use Rattle.job_end.specs.declared.asking.Question.TheVariants.{Save, Slip}

-- a sheet with nothing on it
abbrev pub unused : SheetLent
unused = only_foil0 no_board (replicate sheet_size 0) (replicate strips_size 0)

-- how the job of a file ends there
unfoldable pub end_of : List ℕ → Ended
end_of bs = ended_of (job_end bs unused).answer (board_left bs unused)

-- bytes to be written, and where to
pub record Said : Type 0 where
  pub fd : ℤ
  pub bytes : List ℕ

-- to standard output
abbrev pub to_output : List ℕ → Said
to_output bs = record { fd = pos 1; bytes = bs }

-- to standard error
abbrev pub to_error : List ℕ → Said
to_error bs = record { fd = pos 2; bytes = bs }

-- the step that is asked for
unfoldable pub step_of : Question → Step
step_of Save = save
step_of Slip = slip

-- the word of the line of its refusal
unfoldable pub word_of : Question → List ℕ
word_of Save = ascii "save"
word_of Slip = ascii "slip"

-- how many bytes it may write: the file of a foil with 128 legs, and 128 lines of a slip
unfoldable pub bytes_of : Question → ℕ
bytes_of Save = 1420
bytes_of Slip = 4224

-- the reply to it on foil 0 of a sheet
unfoldable pub asked_on : Question → SheetLent → Reply
asked_on q m = (sheet_call (with_output job_room (bytes_of q)) 0 (step (step_of q)) m).answer

-- that on the foil that the job of a file leaves
unfoldable pub asked_of : Question → List ℕ → Reply
asked_of q bs = asked_on q (job_end bs unused).state

-- what is written for a step's answer: its own bytes, or the line of a word and the number of a refusal
unfoldable pub answer_said : List ℕ → Outcome → Said
answer_said word (refused n) = to_error (word ++ item n ++ ascii "\n")
answer_said word accepted = to_output []
answer_said word (laid cs n) = to_output []
answer_said word (found n) = to_output []
answer_said word (wrote bs) = to_output bs
answer_said word (booked k n) = to_output []

-- what is written for the reply to a step
unfoldable pub reply_said : List ℕ → Reply → Said
reply_said word (answered a) = answer_said word a
reply_said word (ran given place) = to_output []
reply_said word at_end = to_output []
reply_said word (measured x) = to_output []
reply_said word (laid_all given) = to_output []

-- what is written for foil 0 of a sheet
unfoldable pub foil_said : Question → SheetLent → Said
foil_said q m = reply_said (word_of q) (asked_on q m)

-- what is written for a job that ended so: the answer at its end mark, or one line
unfoldable pub end_said : Question → List ℕ → Ended → Said
end_said q bs (AtMark b) = reply_said (word_of q) (asked_of q bs)
end_said q bs (ByBoard n) = to_error (board_line n)
end_said q bs (ByFile n) = to_error (file_line n)

-- what is written for the bytes of a file
unfoldable pub said_of : Question → List ℕ → Said
said_of q bs = end_said q bs (end_of bs)

-- the job of a file came to its end mark, and left foil 0 of a sheet else empty so
pub record Reached (bs : List ℕ) (b : Board) (t s : List ℕ) : Type 0 where
  pub ended : end_of bs ≡ AtMark b
  pub left : only_foil0 b t s ≡ (job_end bs unused).state

-- the first n bytes of a list are all that is to be written, to fd
pub record Holds (list : List ℕ) (fd : ℤ) (n : ℕ) (x : Said) : Type 0 where
  pub to : fd ≡ x.fd
  pub there : n ≤ length list
  pub bytes : take n list ≡ x.bytes
