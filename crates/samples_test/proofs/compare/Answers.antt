-- `samples_test::compare` is safe and ends: the loop counts the records, each may come after the one before it, and
-- what was seen of the stored bytes lies in them.
use native.Mathlib.Omega.{arith}
use Rattle.job_report.proofs.Coming.{first-comes, reported-comes}
use Rattle.samples_test.proofs.compare.Goals as goal

pub loop-init : goal.loop-init
loop-init c = (omega arith, omega arith, first-comes _ _ _)

pub loop-preserved : goal.loop-preserved
loop-preserved c = (
  omega arith,
  omega (arith, c.alike-k.ensures),
  reported-comes _ _ _ _ _ _ _ _ _ _ _ _ _ c.report_record-done.ensures.record_reported _ c.in-Some.is,
)
