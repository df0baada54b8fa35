-- The bit is skipped, or its step is run and told.
use mathlib.Core.Path.{sym, ◌∙◌}
use Rattle.job.proofs.Stepping.{bit-over, bit-unset, bit-run}
use Rattle.job.proofs.running.run_bit.Goals as goal

pub returns-then-before : goal.returns-then-before
returns-then-before c = bit-over _ _ _ _ _ _ _ _ _ c.if-before.true

pub returns-then-not-has : goal.returns-then-not-has
returns-then-not-has c = bit-unset _ _ _ _ _ _ _ _ _ (sym c.has.ensures ∙ c.if-not-has.true)

pub returns : goal.returns
returns c =
    bit-run _ _ _ _ _ _ _ _ _ (sym c.has.ensures ∙ c.if-not-has.false) c.if-before.false _ _ _ _ _
    c.step_of-answer.ensures _ c.tell-answers.ensures _ c.ends_job-ended.ensures
