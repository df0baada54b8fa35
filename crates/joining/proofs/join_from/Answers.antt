-- `joining::join_from` finds the path, and then books it.
use native.Mathlib.Omega.{arith}
use Rattle.joining.proofs.Aiming.{asked}
use Rattle.joining.proofs.Tracking.{may-join, join-done}
use Rattle.joining.proofs.join_from.Goals as goal

pub path_to_net-found-requires : goal.path_to_net-found-requires
path_to_net-found-requires c =
    asked _ _ _ _ _ c.requires.ready_to_join.fine c.requires.ready_to_join.may.start-free

pub book_found-requires : goal.book_found-requires
book_found-requires c = record {
  may_track = may-join _ _ _ _ _ c.requires.ready_to_join _ _ _ (omega arith) c.path_to_net-found.ensures
      (omega arith);
  limit_le_max_entries = c.requires.limit_le_max_entries;
}

pub returns : goal.returns
returns c =
    join-done _ _ _ _ _ c.requires.ready_to_join _ _ _ (omega arith) c.path_to_net-found.ensures _ _ _ _ _ _ _
    c.book_found.ensures
