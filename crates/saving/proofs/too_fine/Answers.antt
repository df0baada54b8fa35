-- `saving::too_fine` meets its contract: the strips are built, and are more than the list holds, or not.
use Rattle.std.proofs.Common.{replicate}
use Rattle.foil_spec.specs.Limits.{strips_size}
use Rattle.saving.proofs.Beginnings.{counted, strips-are}
use Rattle.saving.proofs.too_fine.Goals as goal

pub returns : goal.returns
returns c =
    counted _ _ (strips-are _ _ _ _ _ _ c.pen_rule-rule.ensures) (replicate strips_size 0) c.strips_of.new.out
    c.strips_of.result c.strips_of.ensures _ c.is_none.ensures
