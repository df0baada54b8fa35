-- Line after line.
use native.Mathlib.Omega.{arith}
use mathlib.Core.Path.{refl, ◌∙◌}
use Rattle.sowing.proofs.Seeds.{block_none, block_more, block-done, part-asked}
use Rattle.sowing.proofs.sow_block.Goals as goal

pub loop-line-init : goal.loop-line-init
loop-line-init c = (refl, refl, block_none)

pub sow_run-requires : goal.sow_run-requires
sow_run-requires c = part-asked c.requires c.loop-line.invariant.2 (omega arith) (omega arith) (omega arith) (omega (arith, c.loop-line-test))
    c.requires.crossings-order (omega arith)

pub loop-line-preserved : goal.loop-line-preserved
loop-line-preserved c = (
  c.sow_run.auto.labels ∙ c.loop-line.invariant.0,
  c.sow_run.auto.inks ∙ c.loop-line.invariant.1,
  block_more _ (omega arith) c.loop-line.invariant.2 c.sow_run.ensures,
)

pub returns : goal.returns
returns c = block-done (omega (arith, c.requires.lines-order, c.loop-line-test)) refl c.loop-line.invariant.2
