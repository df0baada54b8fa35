-- `zones::pen_zones` meets its contract: the zones by the pen's rule leave what is free on the layout.
use Rattle.zones.proofs.Zoning.{zoned-free}
use Rattle.zones.proofs.pen_zones.Goals as goal

pub returns : goal.returns
returns c = zoned-free _ _ _ _ _ _ _ _ c.pen_rule-rule.ensures c.zones.ensures.0
