-- `sheet::checks::check_for_record` passes a record at place 0; later it is `lend_for_record`, and then the foil's own
-- 13.
use Rattle.std.proofs.Common.{◌≡◌, Err, rules}
use Rattle.tables.proofs.Filling.{no_rows}
use Rattle.sheet.proofs.Recording.{record-out, record-not-out, record-checked}
use Rattle.sheet.proofs.checks.check_for_record.Goals as goal

pub lend_for_record-requires : goal.lend_for_record-requires
lend_for_record-requires c = no_rows

pub returns-in_err-board : goal.returns-in_err-board
returns-in_err-board c =
    let same : c.from_residual.result ≡ Err c.in_err-board.field-0.0 = search rules in
    rw same (record-not-out _ _ _ _ _ c.lend_for_record.ensures _ c.in_err-board.was _)

pub returns : goal.returns
returns c =
    let o = record-out _ _ _ _ _ c.lend_for_record.ensures _ c.in_ok-board.was in
    record-checked _ _ _ _ _ o.0 o.1 _ c.if-at-eq0.false c.lent_refusal.result c.lent_refusal.ensures
