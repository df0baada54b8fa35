-- `zones::zones` meets its contract: the zones of the entries, and four boxes along the edge where it blocks something.
use native.Mathlib.Omega.{arith}
use Rattle.zones.proofs.Zoning.{zones-alone, zones-edged}
use Rattle.zones.proofs.zones.Goals as goal

pub returns-then-m-eq0 : goal.returns-then-m-eq0
returns-then-m-eq0 c = (
  zones-alone _ _ _ _ _ c.requires.table _ c.put_zones.ensures (omega (arith, c.requires.max_boxes_in_bounds, c.put_zones.auto.out))
      c.if-m-eq0.true,
  omega arith,
)

pub returns : goal.returns
returns c = (
  zones-edged _ _ _ _ _ c.requires.table _ _ (omega (arith, c.if-m-eq0.false)) c.put_edge.ensures
      c.put_zones.ensures (omega (arith, c.requires.max_boxes_in_bounds, c.put_zones.auto.out, c.put_edge.auto.out)),
  omega arith,
)
