-- `carrying::carry_rows` meets its contract: nets are marked, the rows of the others taken over, the marked reported.
use mathlib.Core.Path.{refl}
use Rattle.std.proofs.Common.{rules, ◌≡◌, Some, None, Err}
use Rattle.tables.proofs.Filling.{no_rows}
use Rattle.carrying.proofs.Ending.{small-nets, report-room, rows-again, rows-table, too_fine, taken}
use Rattle.carrying.proofs.carry_rows.Goals as goal

pub mark_nets-requires : goal.mark_nets-requires
mark_nets-requires c = (small-nets _ _ c.requires.old_rows, refl)

pub keep_unmarked-left-requires : goal.keep_unmarked-left-requires
keep_unmarked-left-requires c = (small-nets _ _ c.requires.old_rows, c.mark_nets.ensures.long, no_rows)

pub take_over-requires : goal.take_over-requires
take_over-requires c = record {
  table = rows-table _ _ c.requires.old_rows _ c.mark_nets.ensures _ _ c.keep_unmarked-left.ensures;
  rows_value = rows-again _ _ c.requires.old_rows _ c.mark_nets.ensures _ _ c.keep_unmarked-left.ensures;
  table_size_in_bounds = (c.requires.table_size_in_bounds.0, c.requires.table_size_in_bounds.1);
}

pub returns-in_err-board : goal.returns-in_err-board
returns-in_err-board c =
    let none : c.take_over.result ≡ None = search rules in
    let told : c.from_residual.result ≡ Err 11 = search rules in
    rw told
    (too_fine _ _ c.requires.old_rows _ c.mark_nets.ensures _ _ c.keep_unmarked-left.ensures _ _ _ _ _ _
    c.take_over.result c.take_over.ensures none)

pub report_nets-requires : goal.report_nets-requires
report_nets-requires c = record {
  marks_len = c.mark_nets.ensures.long;
  range_in_bounds =
      report-room _ _ c.requires.old_rows _ c.mark_nets.ensures c.args.report.now c.requires.table_size_in_bounds.2;
}

pub returns : goal.returns
returns c =
    let some : c.take_over.result ≡ Some c.in_ok-board.field-0 = search rules in
    taken _ _ c.requires.old_rows _ c.mark_nets.ensures _ _ c.keep_unmarked-left.ensures _ _ _ _ _ _ _ _ _
    _ c.take_over.ensures some c.report_nets.ensures
