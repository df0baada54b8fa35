-- What a record gave comes next in the job's output, and the next record may come; after the last one all of the
-- output is written.
use Prim.Native.Nat.{ℕ}
use native.Mathlib.Omega.{arith}
use lib.ListN.{length-replicate}
use Rattle.foil_spec.specs.Limits.{sheet_size}
use Rattle.job_report.proofs.Coming.{first-comes, reported-comes}
use Rattle.job_main.proofs.Still.{none_yet, next-lines, goes_on, ends, all_told}
use Rattle.job_main.proofs.write_job.Goals as goal

pub loop-init : goal.loop-init
loop-init c = (
  omega arith,
  none_yet _ _ _ _ c.no_board-board.ensures (length-replicate {A = ℕ} sheet_size 0),
  first-comes _ _ _,
)

pub write_front-requires : goal.write_front-requires
write_front-requires c = next-lines _ _ _ _ _ c.loop.invariant.1 (omega arith) _ _ _ _ _ _ _ _
    c.report_record-done.ensures.record_reported c.report_record-done.ensures.size_bound

pub returns-in_default : goal.returns-in_default
returns-in_default c = ends _ _ _ _ _ c.loop.invariant.1 (omega arith) _ _ _ _ _ _ _ _ c.report_record-done.ensures.record_reported
    c.report_record-done.ensures.size_bound _ c.write_front.ensures c.in_default.is

pub loop-preserved : goal.loop-preserved
loop-preserved c = (
  omega arith,
  goes_on _ _ _ _ _ c.loop.invariant.1 (omega arith) _ _ _ _ _ _ _ _ c.report_record-done.ensures.record_reported
      c.report_record-done.ensures.size_bound _ c.write_front.ensures _ c.in-Some.is,
  reported-comes _ _ _ _ _ _ _ _ _ _ _ _ _ c.report_record-done.ensures.record_reported _ c.in-Some.is,
)

pub returns : goal.returns
returns c = all_told _ _ _ _ _ c.loop.invariant.1 (omega arith)
