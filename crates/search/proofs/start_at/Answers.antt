-- The corners are the label of the way that is chosen.
use mathlib.Core.Path.{◌∙◌}
use Rattle.search.proofs.Choice.{starts_level, starts_upright}
use Rattle.search.proofs.start_at.Goals as goal
use Rattle.search.proofs.start_at.Goals.{then-up, else-up}

pub returns : goal.returns
returns c = rw c.from.ensures (elim c.if-up.branch [
  | then-up w ↦ starts_upright c.starts_upright-up.ensures w.if-up.true (w.corners-is ∙ w.label_at-corners.ensures)
  | else-up w ↦ starts_level c.starts_upright-up.ensures w.if-up.false
      (w.corners-is ∙ w.label_at-corners-else-up.ensures)
])
