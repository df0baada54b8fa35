-- The lines of the nets at the end mark; else the job has one line.
use native.Mathlib.Omega.{arith}
use Rattle.job_end.proofs.Answering.{reached}
use Rattle.ohms_main.proofs.Printing.{board-printed, file-printed, line-next, line-written}
use Rattle.ohms_main.proofs.write_job.Goals as goal
use Rattle.ohms_main.proofs.write_job.Goals.{in-ByBoard, in-ByFile}

pub write_nets-requires : goal.write_nets-requires
write_nets-requires c = record { written_value = omega arith; reached = reached _ _ _ _ c.run_job.ensures _ c.in-AtMark.is }

pub write_front-requires : goal.write_front-requires
write_front-requires c = elim c.match-run_job.branch [
  | in-ByBoard w ↦
      rw (w.line-is, w.n-is)
      (line-next _ _ (board-printed _ _ _ _ _ c.run_job.ensures _ w.in-ByBoard.is) w.put_line-n.ensures (omega arith))
  | in-ByFile w ↦
      rw (w.line-is, w.n-is)
      (line-next _ _ (file-printed _ _ _ _ _ c.run_job.ensures _ w.in-ByFile.is) w.put_line-n-in-ByFile.ensures
      (omega arith))
]

pub returns : goal.returns
returns c = elim c.match-run_job.branch [
  | in-ByBoard w ↦
      line-written _ _ (board-printed _ _ _ _ _ c.run_job.ensures _ w.in-ByBoard.is) w.put_line-n.ensures _
      (omega (arith, c.write_front.ensures, w.n-is))
  | in-ByFile w ↦
      line-written _ _ (file-printed _ _ _ _ _ c.run_job.ensures _ w.in-ByFile.is) w.put_line-n-in-ByFile.ensures _
      (omega (arith, c.write_front.ensures, w.n-is))
]
