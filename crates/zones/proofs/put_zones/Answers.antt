-- `zones::put_zones` meets its contract: the loop has written the zones of the entries before k.
use native.Mathlib.Omega.{arith}
use mathlib.Core.Path.{◌≡◌, ap, ◌∙◌}
use Rattle.foil_spec.specs.Foil.{Entry, margin}
use Rattle.foil_spec.specs.Lent.{entry_at}
use Rattle.zones.specs.Boxes.{zone_of}
use Rattle.zones.proofs.Zoning.{box-put, zoning-more, margin-small}
use Rattle.zones.proofs.put_zones.Goals as goal

pub zone_of-zone-requires : goal.zone_of-zone-requires
zone_of-zone-requires c = let m = margin-small c.args.rule (entry_at c.args.table.now c.loop-k.k) c.requires.table.small in
    rw c.entry_at.ensures (
      omega (arith, m, c.requires.table.sized.width, c.requires.table.x-end _ c.loop-k-test.true),
      omega (arith, m, c.requires.table.sized.height, c.requires.table.y-end _ c.loop-k-test.true),
    )

pub loop-k-preserved : goal.loop-k-preserved
loop-k-preserved c = let zone-is : c.zone_of-zone.result
    ≡ zone_of
    (margin c.args.rule
    (entry_at c.args.table.now c.loop-k.k))
    c.args.w c.args.h
    (entry_at c.args.table.now c.loop-k.k) = c.zone_of-zone.ensures
    ∙ ap (λ (e : Entry).
    zone_of (margin c.args.rule e) c.args.w c.args.h e)
    c.entry_at.ensures in
    zoning-more _ _ _ _ _ _ _ _ _ _ c.loop-k-test.true c.put_entry.auto.table c.loop-k.invariant zone-is
    (box-put _ _ _ _
    (omega (arith, c.loop-k-test.true, c.requires.table.few, c.requires.max_boxes_in_bounds, c.loop-k.invariant.same))
    c.put_entry.ensures)
