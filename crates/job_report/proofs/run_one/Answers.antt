-- The record is run on foil 0 of a sheet else empty, on lists that have the room of a job.
use native.Mathlib.Omega.{arith}
use Rattle.job_report.proofs.Foil0.{record-ran}
use Rattle.job_report.proofs.Coming.{may-continue}
use Rattle.job_report.proofs.run_one.Goals as goal

pub continue_job-reply-requires : goal.continue_job-reply-requires
continue_job-reply-requires c = may-continue _ _ _ _ c.requires _ c.only_foil_0-sheet.ensures

pub returns : goal.returns
returns c = record-ran _ _ _ _ _ _ _ _ _ _ _ _ c.only_foil_0-sheet.ensures c.continue_job-reply.ensures (omega arith)
    (omega arith) (omega arith) _ c.board_at.ensures
