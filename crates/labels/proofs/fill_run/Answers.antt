-- Crossing after crossing.
use native.Mathlib.Omega.{arith}
use Rattle.labels.proofs.Runs.{filled_more, cell-few}
use Rattle.labels.proofs.fill_run.Goals as goal

pub loop-k-preserved : goal.loop-k-preserved
loop-k-preserved c = (
  omega (arith, cell-few c.fill_cell-new.ensures, c.loop-k.invariant.0),
  filled_more (omega (arith, c.requires.line_lt_stride.1, c.requires.line_lt_stride.4)) (omega arith)
      c.loop-k.invariant.1 c.fill_cell-new.ensures,
)
