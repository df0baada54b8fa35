-- `laying::lay_between` finds the path, and then books it.
use native.Mathlib.Omega.{arith}
use Rattle.finding.proofs.Finding.{posed}
use Rattle.laying.proofs.Tracking.{may-lay, lay_done}
use Rattle.laying.proofs.lay_between.Goals as goal

pub path_between-found-requires : goal.path_between-found-requires
path_between-found-requires c =
    posed _ _ _ _ _ c.requires.ready_to_lay.fine tt
    (c.requires.ready_to_lay.may.start-free, c.requires.ready_to_lay.may.end-free)

pub book_found-requires : goal.book_found-requires
book_found-requires c = record {
  may_track = may-lay _ _ _ _ _ _ c.requires.ready_to_lay _ _ _ (omega arith) c.path_between-found.ensures
      (omega arith);
  limit_le_max_entries = c.requires.limit_le_max_entries;
}

pub returns : goal.returns
returns c =
    lay_done _ _ _ _ _ _ c.requires.ready_to_lay _ _ _ (omega arith) c.path_between-found.ensures _ _ _ _ _ _ _
    c.book_found.ensures
