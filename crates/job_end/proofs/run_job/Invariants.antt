-- After each record, what is still to come leaves what the whole file does, and the next record may come; the loop is
-- left by its last reply.
use Prim.Native.Nat.{suc, ◌≤◌, ◌-◌}
use Rattle.foil_spec.specs.Limits.{max_bytes}
use Rattle.foil_spec.specs.Sheet.{no_board}
use Rattle.sheet_laws.specs.Jobs.{only_foil0}
use Rattle.job_report.specs.Report.{MayCome}
use Rattle.job_end.proofs.Leaving.{ToCome}
use Rattle.job_end.proofs.run_job.Given as goal

abbrev pub invariant-loop : goal.invariant-loop
invariant-loop l =
    (l.counter ≤ suc max_bytes) × ToCome l.bytes (only_foil0 no_board l.initial.table l.initial.strips) l.counter l.at (only_foil0 l.board l.table l.strips)
    × MayCome l.at l.board l.table l.strips

abbrev pub decreases-loop : goal.decreases-loop
decreases-loop l = suc max_bytes - l.counter
