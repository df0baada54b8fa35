-- The ink and the label of the crossing.
use Rattle.sowing.proofs.Seeds.{cell-sown}
use Rattle.sowing.proofs.sow.Goals as goal

pub returns : goal.returns
returns c = cell-sown _ _
