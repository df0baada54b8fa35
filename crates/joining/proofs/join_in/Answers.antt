-- The net is tried, then the point, and then it is joined.
use Rattle.std.proofs.Common.{ap, not}
use Rattle.foil.proofs.Limits.{held-table}
use Rattle.joining.proofs.Aiming.{known}
use Rattle.joining.proofs.Checking.{no-net, not_there, right, below, blocked-there, ready-to-join}
use Rattle.joining.proofs.join_in.Goals as goal
use Rattle.joining.proofs.join_in.Goals.{then-board-from-via-then-board-from}
use Rattle.joining.proofs.join_in.Goals.{then-board-from-via-else-board-from+then-board-from-2}

pub returns-then-not-net_ok : goal.returns-then-not-net_ok
returns-then-not-net_ok c =
    rw c.into.ensures
    (no-net _ _ _ _ _ c.requires.strips_value _ c.net_ok.ensures _ _ (ap not c.if-not-net_ok.true))

pub in_use-requires : goal.in_use-requires
in_use-requires c = (held-table _ _ _ c.requires.strips_value).len

pub returns-then-not-in_use : goal.returns-then-not-in_use
returns-then-not-in_use c =
    rw c.into-then-not-in_use.ensures
    (not_there _ _ _ _ _ c.requires.strips_value _ c.net_ok.ensures (ap not c.if-not-net_ok.false) _
    c.in_use.ensures _ _ (ap not c.if-not-in_use.true))

pub returns-then-board-from : goal.returns-then-board-from
returns-then-board-from c =
    rw c.into-then-board-from.ensures
    (elim c.then-board-from.branch [
      | then-board-from-via-then-board-from w ↦
          right _ _ _ _ _ c.requires.strips_value _ c.net_ok.ensures (ap not c.if-not-net_ok.false) _
          c.in_use.ensures (ap not c.if-not-in_use.false) _ _ w.if-board-from.true
      | then-board-from-via-else-board-from+then-board-from-2 w ↦
          below _ _ _ _ _ c.requires.strips_value _ c.net_ok.ensures (ap not c.if-not-net_ok.false) _
          c.in_use.ensures (ap not c.if-not-in_use.false) w.if-board-from.false _ _ w.if-board-from-2.true
    ])

pub clear_for-requires : goal.clear_for-requires
clear_for-requires c = known _ _ _ c.requires.strips_value

pub returns-then-not-clear_for : goal.returns-then-not-clear_for
returns-then-not-clear_for c =
    rw c.into-then-not-clear_for.ensures
    (blocked-there _ _ _ _ _ c.requires.strips_value _ c.net_ok.ensures (ap not c.if-not-net_ok.false) _
    c.in_use.ensures (ap not c.if-not-in_use.false) c.if-board-from.false c.if-board-from-2.false _ c.clear_for.ensures
    _ _ (ap not c.if-not-clear_for.true))

pub join_from-requires : goal.join_from-requires
join_from-requires c = record {
  ready_to_join = ready-to-join _ _ _ _ _ c.requires.strips_value _ c.net_ok.ensures (ap not c.if-not-net_ok.false) _
      c.in_use.ensures (ap not c.if-not-in_use.false) c.if-board-from.false c.if-board-from-2.false _
      c.clear_for.ensures (ap not c.if-not-clear_for.false);
  limit_le_max_entries = c.requires.limit_le_max_entries;
}
