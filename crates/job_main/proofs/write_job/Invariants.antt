-- What a record gave comes next in the job's output, and the next record may come; after the last one all of the
-- output is written.
use Prim.Native.Nat.{suc, ◌≤◌, ◌-◌}
use Rattle.foil_spec.specs.Limits.{max_bytes}
use Rattle.sheet_laws.specs.Jobs.{only_foil0}
use Rattle.job_report.specs.Report.{MayCome}
use Rattle.job_main.proofs.Still.{Still}
use Rattle.job_main.proofs.write_job.Given as goal

abbrev pub invariant-loop : goal.invariant-loop
invariant-loop l =
    (l.counter ≤ suc max_bytes) × Still l.bytes l.written l.counter l.at (only_foil0 l.board l.table l.strips)
    × MayCome l.at l.board l.table l.strips

abbrev pub decreases-loop : goal.decreases-loop
decreases-loop l = suc max_bytes - l.counter
