-- Line after line.
use mathlib.Core.Path.{◌∙◌}
use Rattle.labels.proofs.Marks.{marked_more}
use Rattle.labels.proofs.mark_targets.Goals as goal

pub loop-line-preserved : goal.loop-line-preserved
loop-line-preserved c = (
  c.widen.auto.marks ∙ c.loop-line.invariant.0,
  marked_more c.sum_of-new.ensures c.widen.ensures c.loop-line.invariant.1,
)
