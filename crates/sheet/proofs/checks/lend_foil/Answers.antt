-- `sheet::checks::lend_foil` takes the foil out where the checks are passed.
use Rattle.foil.proofs.Giving.{none_first}
use Rattle.sheet_rows.specs.Rows.{sheet_lent}
use Rattle.sheet_rows.proofs.Records.{eight}
use Rattle.sheet.proofs.Checking.{on-sheet, in-limits, all-passed}
use Rattle.sheet.proofs.checks.lend_foil.Goals as goal

pub take_out-requires-clause-eight_foils : goal.take_out-requires-clause-eight_foils
take_out-requires-clause-eight_foils c =
    let m = sheet_lent c.args.sheet.boards c.args.table.now c.args.strips.now in
    in-limits c.args.k m (eight c.args.sheet c.well_formed.1.1.1.0)
    (none_first _ _ c.sheet_checks.ensures _ c.in_ok-sheet_checks.was)

pub take_out-requires-clause-k_lt_sheet_foils : goal.take_out-requires-clause-k_lt_sheet_foils
take_out-requires-clause-k_lt_sheet_foils c =
    let m = sheet_lent c.args.sheet.boards c.args.table.now c.args.strips.now in (
      on-sheet c.args.k m (eight c.args.sheet c.well_formed.1.1.1.0)
          (none_first _ _ c.sheet_checks.ensures _ c.in_ok-sheet_checks.was),
      c.requires,
    )

pub board_at-requires : goal.board_at-requires
board_at-requires c =
    let m = sheet_lent c.args.sheet.boards c.args.table.now c.args.strips.now in
    on-sheet c.args.k m (eight c.args.sheet c.well_formed.1.1.1.0)
    (none_first _ _ c.sheet_checks.ensures _ c.in_ok-sheet_checks.was)

pub returns : goal.returns
returns c =
    all-passed _ _ (eight c.args.sheet c.well_formed.1.1.1.0)
    (none_first _ _ c.sheet_checks.ensures _ c.in_ok-sheet_checks.was) _ _ c.take_out.ensures c.board_at.ensures
