-- `samples_test::compare` is safe and ends: the loop counts the records, each may come after the one before it, and
-- what was seen of the stored bytes lies in them.
use Prim.Native.Nat.{suc, ◌≤◌, ◌-◌}
use lib.ListN.{length}
use Rattle.foil_spec.specs.Limits.{max_bytes}
use Rattle.job_report.specs.Report.{MayCome}
use Rattle.samples_test.proofs.compare.Given as goal

abbrev pub invariant-loop : goal.invariant-loop
invariant-loop l =
    (l.counter ≤ suc max_bytes) × (l.seen ≤ length l.stored) × MayCome l.at l.board l.table l.strips

abbrev pub decreases-loop : goal.decreases-loop
decreases-loop l = suc max_bytes - l.counter
