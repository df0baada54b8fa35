-- `foil::put_leg_in` tests the net, then box and shape, then the patches over it, and adds the leg.
use native.Mathlib.Omega.{arith}
use mathlib.Core.Path.{sym, ◌∙◌}
use Rattle.foil.proofs.Limits.{held-table}
use Rattle.foil.proofs.Adding.{no-net, no-leg, leg-across, leg-put}
use Rattle.foil.proofs.put_leg_in.Goals as goal

pub returns-then-not-net_ok : goal.returns-then-not-net_ok
returns-then-not-net_ok c =
    rw c.into.ensures
    (no-net _ _ _ c.requires.strips_value _ c.requires.limit_le_max_entries _ _ c.net_ok.ensures c.if-not-net_ok.true)

pub returns-then-not-entry_ok : goal.returns-then-not-entry_ok
returns-then-not-entry_ok c =
    rw c.into-then-not-entry_ok.ensures
    (no-leg _ _ _ c.requires.strips_value _ c.requires.limit_le_max_entries _ _ c.net_ok.ensures c.if-not-net_ok.false
    _ c.entry_ok.ensures c.if-not-entry_ok.true)

pub patch_margin-requires : goal.patch_margin-requires
patch_margin-requires c = (held-table _ _ _ c.requires.strips_value).small

pub under_patch-requires : goal.under_patch-requires
under_patch-requires c = omega (arith, (held-table _ _ _ c.requires.strips_value).len)

pub returns-then-under_patch : goal.returns-then-under_patch
returns-then-under_patch c =
    rw c.into-then-under_patch.ensures
    (leg-across _ _ _ c.requires.strips_value _ c.requires.limit_le_max_entries _ _ c.net_ok.ensures
    c.if-not-net_ok.false _ c.entry_ok.ensures c.if-not-entry_ok.false _ c.patch_margin.ensures _
    c.under_patch.ensures c.if-under_patch.true)

pub add_entry-requires : goal.add_entry-requires
add_entry-requires c = record {
  strips_value = c.requires.strips_value;
  limit_le_max_entries = (c.requires.limit_le_max_entries, sym c.entry_ok.ensures ∙ c.if-not-entry_ok.false);
}

pub returns : goal.returns
returns c = leg-put _ _ _ c.requires.strips_value _ c.requires.limit_le_max_entries _ _ c.net_ok.ensures
    c.if-not-net_ok.false _ c.entry_ok.ensures c.if-not-entry_ok.false _ c.patch_margin.ensures _
    c.under_patch.ensures c.if-under_patch.false _ _ _ _ c.add_entry.ensures
