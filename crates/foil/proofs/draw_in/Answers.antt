-- `foil::draw_in` tests the box, then the legs under it, and adds it as a patch.
use native.Mathlib.Omega.{arith}
use Rattle.foil.proofs.Limits.{held-table}
use Rattle.foil.proofs.Adding.{no-patch, is-entry, patch-across, drawn}
use Rattle.foil.proofs.draw_in.Goals as goal

pub returns-then-not-box_ok : goal.returns-then-not-box_ok
returns-then-not-box_ok c =
    rw c.into.ensures
    (no-patch _ _ _ c.requires.strips_value _ c.requires.limit_le_max_entries _ _ _ _ _ c.box_ok.ensures
    c.if-not-box_ok.true)

pub patch_margin-requires : goal.patch_margin-requires
patch_margin-requires c = (held-table _ _ _ c.requires.strips_value).small

pub over_leg-requires : goal.over_leg-requires
over_leg-requires c = omega (arith, (held-table _ _ _ c.requires.strips_value).len)

pub returns-then-over_leg : goal.returns-then-over_leg
returns-then-over_leg c =
    rw c.into-then-over_leg.ensures
    (patch-across _ _ _ c.requires.strips_value _ c.requires.limit_le_max_entries _ _ _ _ _
    c.box_ok.ensures c.if-not-box_ok.false _ c.patch_margin.ensures _
    c.over_leg.ensures c.if-over_leg.true)

pub add_entry-requires : goal.add_entry-requires
add_entry-requires c = record {
  strips_value = c.requires.strips_value;
  limit_le_max_entries = (
    c.requires.limit_le_max_entries,
    is-entry _ _ _ c.requires.strips_value _ c.requires.limit_le_max_entries _ _ _ _ _ c.box_ok.ensures
        c.if-not-box_ok.false,
  );
}

pub returns : goal.returns
returns c = drawn _ _ _ c.requires.strips_value _ c.requires.limit_le_max_entries _ _ _ _ _
    c.box_ok.ensures c.if-not-box_ok.false _ c.patch_margin.ensures _
    c.over_leg.ensures c.if-over_leg.false _ _ _ _ c.add_entry.ensures
