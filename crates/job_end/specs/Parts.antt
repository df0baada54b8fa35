-- What the parts of a job give for a record's reply, by the code's own values.
use Rattle.std.specs.Prelude.{ℕ, Some, None, Ok, Err}
use Rattle.foil_spec.specs.declared.Board.{Board}
use Rattle.job.specs.Contract.{Told, Reply}
use Rattle.job.specs.declared.Progress.TheVariants.{Ran, AtEnd}
use Rattle.job_report.specs.Told.{number_in}
use Rattle.job_end.specs.declared.Ended.{Ended}
use Rattle.job_end.specs.declared.Ended.TheVariants.{AtMark, ByBoard, ByFile}

-- the number of what was told, 0 if nothing was
unfoldable pub number_told : Told → ℕ
number_told None = 0
number_told (Some a) = number_in a

-- how a job ended by its last reply, and by the board's record then
unfoldable pub is_ended_by : Reply → Board → Ended
is_ended_by (Err n) b = ByFile n
is_ended_by (Ok (Ran a next)) b = ByBoard (number_told a.board)
is_ended_by (Ok AtEnd) b = AtMark b
