-- What is to be written is the answer at the end mark, and else the line of how the job ended.
use Rattle.job_end.proofs.Answering.{mark-said, board-said, file-said, line-holds}
use Rattle.job_end.proofs.asking.put_said.Goals as goal

pub returns-in-AtMark : goal.returns-in-AtMark
returns-in-AtMark c = rw (mark-said _ _ _ _ c.run_job.ensures _ _ c.in-AtMark.is) c.put_answer.ensures

pub returns-in-ByBoard : goal.returns-in-ByBoard
returns-in-ByBoard c = line-holds c.put_line.ensures _ (board-said _ _ _ _ c.run_job.ensures _ _ c.in-ByBoard.is)

pub returns-in-ByFile : goal.returns-in-ByFile
returns-in-ByFile c =
    line-holds c.put_line-in-ByFile.ensures _ (file-said _ _ _ _ c.run_job.ensures _ _ c.in-ByFile.is)
