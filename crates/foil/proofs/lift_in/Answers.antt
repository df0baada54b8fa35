-- `foil::lift_in` takes the rows of the other nets over.
use native.Mathlib.Omega.{arith}
use Rattle.ledger_laws.proofs.Sound.{of-sound, sound-long}
use Rattle.foil.proofs.Limits.{held-limits}
use Rattle.tables.proofs.Filling.{no_rows}
use Rattle.foil.proofs.Lifting.{no-net, not_there, lifted-again, lifted-table, lifted}
use Rattle.foil.proofs.lift_in.Goals as goal

pub returns-then-not-net_ok : goal.returns-then-not-net_ok
returns-then-not-net_ok c =
    rw c.into.ensures (no-net _ _ _ _ c.requires _ c.net_ok.ensures c.if-not-net_ok.true)

pub in_use-requires : goal.in_use-requires
in_use-requires c = omega (
  arith,
  (sound-long _ c.requires).table,
  (held-limits _ _ _ (of-sound _ c.requires)).few,
)

pub returns-then-not-in_use : goal.returns-then-not-in_use
returns-then-not-in_use c =
    rw c.into-then-not-in_use.ensures
    (not_there _ _ _ _ c.requires _ c.net_ok.ensures c.if-not-net_ok.false _ c.in_use.ensures c.if-not-in_use.true)

pub without-left-requires : goal.without-left-requires
without-left-requires c =
    let few = (held-limits _ _ _ (of-sound _ c.requires)).few in
    (few, omega (arith, (sound-long _ c.requires).table, few), no_rows)

pub settle-requires : goal.settle-requires
settle-requires c = record {
  table = lifted-table _ _ _ _ c.requires _ c.net_ok.ensures c.if-not-net_ok.false _ c.in_use.ensures
      c.if-not-in_use.false _ _ c.without-left.ensures;
  rows_value = lifted-again _ _ _ _ c.requires _ c.net_ok.ensures c.if-not-net_ok.false _ c.in_use.ensures
      c.if-not-in_use.false _ _ c.without-left.ensures;
  table_size_in_bounds = ((sound-long _ c.requires).table, (sound-long _ c.requires).strips);
}

pub returns : goal.returns
returns c = lifted _ _ _ _ c.requires _ c.net_ok.ensures c.if-not-net_ok.false _ c.in_use.ensures
    c.if-not-in_use.false _ _ c.without-left.ensures _ _ _ _ c.settle.ensures
