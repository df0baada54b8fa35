-- After each record, what is still to come leaves what the whole file does, and the next record may come; the loop is
-- left by its last reply.
use native.Mathlib.Omega.{arith}
use mathlib.Core.Path.{refl, ap, ◌∙◌}
use Rattle.std.specs.Prelude.{Ok}
use Rattle.job.specs.declared.Progress.TheVariants.{Ran}
use Rattle.job_report.proofs.Coming.{first-comes, run-comes}
use Rattle.job_end.proofs.Leaving.{all-to-come, goes_on, file-stops, mark-stops, board-stops, next-place}
use Rattle.job_end.proofs.run_job.Goals as goal

pub loop-init : goal.loop-init
loop-init c = (omega arith, all-to-come _ _ _ _ c.no_board-board.ensures, first-comes _ _ _)

pub returns-in-Err : goal.returns-in-Err
returns-in-Err c =
    rw c.number.ensures (file-stops _ _ _ _ _ c.loop.invariant.1 _ _ _ _ _ _ c.run_one.ensures _ c.in-Err.is)

pub returns-in-Ok-AtEnd : goal.returns-in-Ok-AtEnd
returns-in-Ok-AtEnd c =
    mark-stops _ _ _ _ _ c.loop.invariant.1 _ _ _ _ _ _ c.run_one.ensures
    (c.in-Ok-AtEnd.is ∙ ap Ok c.in-Ok-AtEnd.field-0-is)

pub returns-in-Ok-Ran-default-None : goal.returns-in-Ok-Ran-default-None
returns-in-Ok-Ran-default-None c =
    let step = c.in-Ok-Ran-default-None in
    board-stops _ _ _ _ _ c.loop.invariant.1 _ _ _ _ _ _ c.run_one.ensures _ _
    (step.is ∙ ap Ok (step.field-0-is ∙ ap (Ran step.answers) step.field-0-1-is)) c.board_number.ensures

pub loop-preserved : goal.loop-preserved
loop-preserved c =
    let step = c.in-Ok-Ran-default-Some in
    let next = next-place _ _ _ _ _ c.loop.invariant.1 _ _ _ _ _ _ c.run_one.ensures _ _
    (step.is ∙ ap Ok (step.field-0-is ∙ ap (Ran step.field-0-0) step.field-0-1-is)) in (
      omega arith,
      goes_on _ _ _ _ _ c.loop.invariant.1 _ _ _ _ _ _ c.run_one.ensures _ next _ refl,
      run-comes _ _ _ _ _ _ _ _ _ _ _ c.run_one.ensures _ next _ refl,
    )

pub returns : goal.returns
returns c = absurd (omega (arith, c.loop.invariant.1.counted))
