-- `saving::file::write_file` meets its contract: the board, the entries, the end mark, one after the other.
use native.Mathlib.Omega.{arith}
use Rattle.putting.proofs.Putting.{put-length}
use Rattle.saving.proofs.Records.{entries_next, board-next, file-put}
use Rattle.saving.proofs.file.write_file.Goals as goal

pub put_entries-end-requires : goal.put_entries-end-requires
put_entries-end-requires c = record {
  n_in_bounds = omega (arith, board-next _ _ _ c.put_record-first.ensures, put-length c.put_record-first.ensures);
  n_in_bounds_2 = omega arith;
}

pub put_bytes-requires : goal.put_bytes-requires
put_bytes-requires c = omega (
  arith,
  board-next _ _ _ c.put_record-first.ensures,
  put-length c.put_record-first.ensures,
  put-length c.put_entries-end.ensures,
  entries_next c.args.table.now c.args.board.entries c.put_entries-end.ensures,
)

pub returns : goal.returns
returns c = file-put _ _ _ c.put_record-first.ensures _ _ c.put_entries-end.ensures c.put_bytes.ensures
