-- `sheet::checks::lend_for_record` answers 23, 18, and then as `lend_foil`.
use Rattle.sheet.proofs.Recording.{record-no-foil, record-large, record-lending}
use Rattle.sheet.proofs.checks.lend_for_record.Goals as goal

pub returns-then-k-ge-FOILS : goal.returns-then-k-ge-FOILS
returns-then-k-ge-FOILS c = rw c.into.ensures (record-no-foil _ _ _ c.if-k-ge-FOILS.true c.args.rows.now)

pub returns-then-bytes-gt-MAX_BYTES : goal.returns-then-bytes-gt-MAX_BYTES
returns-then-bytes-gt-MAX_BYTES c =
    rw c.into-then-bytes-gt-MAX_BYTES.ensures
    (record-large _ _ _ c.if-k-ge-FOILS.false c.if-bytes-gt-MAX_BYTES.true c.args.rows.now)

pub returns : goal.returns
returns c =
    record-lending _ _ _ c.if-k-ge-FOILS.false c.if-bytes-gt-MAX_BYTES.false _ c.lend_foil.result c.lend_foil.ensures
