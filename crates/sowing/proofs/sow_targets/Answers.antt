-- Target box after target box.
use native.Mathlib.Omega.{arith}
use mathlib.Core.Path.{refl, ◌∙◌}
use Rattle.grid.proofs.Covers.{solid}
use Rattle.sowing.proofs.Boxed.{targets-none, targets-more}
use Rattle.sowing.proofs.sow_targets.Goals as goal

pub loop-e-init : goal.loop-e-init
loop-e-init c = (refl, refl, targets-none _ _ _ _ _ _ c.requires.blank)

pub sow_box-requires : goal.sow_box-requires
sow_box-requires c = record {
  boxes = c.requires.boxes;
  target = omega (arith, c.requires.targets.len, c.loop-e-test);
  solid = solid c.requires.targets _ (omega (arith, c.loop-e-test));
  along-lines = c.requires.along-lines;
  along-cross = c.requires.along-cross;
  on = _;
  sown = c.loop-e.invariant.2;
}

pub loop-e-preserved : goal.loop-e-preserved
loop-e-preserved c = (
  c.sow_box.auto.labels ∙ c.loop-e.invariant.0,
  c.sow_box.auto.inks ∙ c.loop-e.invariant.1,
  targets-more _ _ _ _ _ _ _ c.loop-e.invariant.2 c.sow_box.ensures,
)
