-- Each record may come after the one before it.
use mathlib.Core.Path.{refl, sym, ap, ◌∙◌}
use Rattle.std.specs.Prelude.{Ok}
use Rattle.job.specs.Contract.{next_in}
use Rattle.job.specs.declared.Progress.TheVariants.{Ran}
use Rattle.job_report.proofs.Coming.{first-comes, run-comes}
use Rattle.cases_test.proofs.jobs.run.Goals as goal

pub loop-init : goal.loop-init
loop-init c = first-comes _ _ _

pub loop-preserved : goal.loop-preserved
unfolding next_in
loop-preserved c =
    let step = c.in-Ok-Ran-default-Some in
    run-comes _ _ _ _ _ _ _ _ _ _ _ c.run_one.ensures _
    (sym (ap next_in (step.is ∙ ap Ok (step.field-0-is ∙ ap (Ran step.answers) step.field-0-1-is)))) _ refl
