-- `sheet::record::run_record` is its checks, and then `continue_job`.
use Rattle.std.proofs.Common.{◌≡◌, Err, rules}
use Rattle.sheet.proofs.Recording.{continues, refused-so, record-refused}
use Rattle.sheet.proofs.record.run_record.Goals as goal

pub returns-in_err-check_for_record : goal.returns-in_err-check_for_record
returns-in_err-check_for_record c =
    let same : c.from_residual.result ≡ Err c.in_err-check_for_record.field-0.0 = search rules in
    rw same
    (record-refused _ c.args.sheet.now _ _ _ _ _ _
    (refused-so _ _ _ _ _ c.check_for_record.ensures _ c.in_err-check_for_record.was _))

pub continue_job-requires : goal.continue_job-requires
continue_job-requires c = continues _ _ _ _ _ c.check_for_record.ensures _ c.in_ok-check_for_record.was
