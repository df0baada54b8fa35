-- `sheet::record::continue_job` takes foil k out, is `run_record_in` of it, and puts it back.
use native.Mathlib.Omega.{arith}
use Rattle.std.proofs.Common.{◌≡◌, Err, rules}
use Rattle.tables.proofs.Filling.{no_rows}
use Rattle.sheet.proofs.Checking.{limit-most}
use Rattle.sheet.proofs.Recording.{record-out, record-not-out, record-lends, record-refused, record-closable}
use Rattle.sheet.proofs.Recording.{record-done}
use Rattle.sheet.proofs.record.continue_job.Goals as goal

pub lend_for_record-requires : goal.lend_for_record-requires
lend_for_record-requires c = no_rows

pub returns-in_err-board : goal.returns-in_err-board
returns-in_err-board c =
    let same : c.from_residual.result ≡ Err c.in_err-board.field-0.0 = search rules in
    rw same
    (record-refused _ c.args.sheet.now _ _ _ _ _ _
    (record-not-out _ _ _ _ _ c.lend_for_record.ensures _ c.in_err-board.was _ _))

pub limit-most-requires : goal.limit-most-requires
limit-most-requires c =
    let o = record-out _ _ _ _ _ c.lend_for_record.ensures _ c.in_ok-board.was in
    (o.0.here, o.0.eight-foils.limits)

pub run_record_in-reply-requires : goal.run_record_in-reply-requires
run_record_in-reply-requires c =
    let o = record-out _ _ _ _ _ c.lend_for_record.ensures _ c.in_ok-board.was in
    record {
      lends = record-lends _ _ _ _ _ o.0 o.1 _ c.requires (omega arith);
      limit_le_max_entries = limit-most _ _ _ c.limit-most.ensures;
    }

pub close-requires : goal.close-requires
close-requires c =
    let o = record-out _ _ _ _ _ c.lend_for_record.ensures _ c.in_ok-board.was in
    record-closable _ c.args.sheet.now _ _ _ _ _ _ _ o.0 o.1 _ c.limit-most.ensures _ _ _ _ _
    c.run_record_in-reply.ensures _ c.took_any.ensures (omega arith)

pub returns : goal.returns
returns c =
    let o = record-out _ _ _ _ _ c.lend_for_record.ensures _ c.in_ok-board.was in
    record-done _ c.args.sheet.now _ _ _ _ _ _ _ o.0 o.1 _ c.limit-most.ensures _ _ _ _ _
    c.run_record_in-reply.ensures _ c.took_any.ensures _ _ c.close.ensures
