-- Crossing after crossing.
use native.Mathlib.Omega.{arith}
use mathlib.Core.Path.{refl, ◌∙◌}
use Rattle.sowing.proofs.Seeds.{run_none, run_more, block-done, part-asked}
use Rattle.sowing.proofs.sow_run.Goals as goal

pub loop-k-init : goal.loop-k-init
loop-k-init c = (refl, refl, run_none)

pub sow_clear-requires : goal.sow_clear-requires
sow_clear-requires c = part-asked c.requires c.loop-k.invariant.2 (omega arith) (omega arith) (omega arith) (omega arith) (omega arith)
    (omega (arith, c.loop-k-test))

pub loop-k-preserved : goal.loop-k-preserved
loop-k-preserved c = (
  c.sow_clear.auto.labels ∙ c.loop-k.invariant.0,
  c.sow_clear.auto.inks ∙ c.loop-k.invariant.1,
  run_more _ (omega arith) c.loop-k.invariant.2 c.sow_clear.ensures,
)

pub returns : goal.returns
returns c = block-done refl (omega (arith, c.requires.crossings-order, c.loop-k-test)) c.loop-k.invariant.2
