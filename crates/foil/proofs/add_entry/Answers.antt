-- `foil::add_entry` copies the table, appends the entry, and takes the rows over.
use mathlib.Core.Path.{sym}
use lib.Seq.{length-take-le}
use Rattle.ledger_laws.proofs.Sound.{sound-long}
use Rattle.foil.proofs.Adding.{table-full, added-again, added-table, entry-added}
use Rattle.foil.proofs.add_entry.Goals as goal

pub returns-then-limit-n : goal.returns-then-limit-n
returns-then-limit-n c = rw c.into.ensures (table-full _ _ _ c.requires.strips_value _
    c.requires.limit_le_max_entries.0 _ c.if-limit-n.true)

pub slice_bounds-copy_from_slice-end-2 : goal.slice_bounds-copy_from_slice-end-2
slice_bounds-copy_from_slice-end-2 c = (sound-long _ c.requires.strips_value).table

pub slice_bounds-copy_from_slice-end-3 : goal.slice_bounds-copy_from_slice-end-3
slice_bounds-copy_from_slice-end-3 c =
    sym (length-take-le 640 c.args.table.now (sound-long _ c.requires.strips_value).table)

pub copy_from_slice-requires : goal.copy_from_slice-requires
copy_from_slice-requires c =
    sym (length-take-le 640 c.args.table.now (sound-long _ c.requires.strips_value).table)

pub settle-requires : goal.settle-requires
settle-requires c = record {
  table = added-table _ _ _ c.requires.strips_value _ c.requires.limit_le_max_entries.0 _ c.if-limit-n.false
      c.requires.limit_le_max_entries.1 _ _ c.copy_from_slice.ensures.after c.put_entry.ensures;
  rows_value = added-again _ _ _ c.requires.strips_value _ c.requires.limit_le_max_entries.0 _ c.if-limit-n.false
      c.requires.limit_le_max_entries.1 _ _ c.copy_from_slice.ensures.after c.put_entry.ensures;
  table_size_in_bounds =
      ((sound-long _ c.requires.strips_value).table, (sound-long _ c.requires.strips_value).strips);
}

pub returns : goal.returns
returns c = entry-added _ _ _ c.requires.strips_value _ c.requires.limit_le_max_entries.0 _ c.if-limit-n.false
    c.requires.limit_le_max_entries.1 _ _ c.copy_from_slice.ensures.after c.put_entry.ensures _ _ _ _ c.settle.ensures
