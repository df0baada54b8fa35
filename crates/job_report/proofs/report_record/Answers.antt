-- The record is run, and each reply has its lines.
use native.Mathlib.Omega.{arith}
use mathlib.Core.Path.{ap, ◌∙◌}
use Rattle.std.specs.Prelude.{Ok}
use Rattle.job_report.proofs.Reporting.{file-reported, from_bits, steps-reported}
use Rattle.job_report.proofs.Reporting.{count-few, strips-reported}
use Rattle.job_report.proofs.report_record.Goals as goal

pub put_answers-requires : goal.put_answers-requires
put_answers-requires c = record {
  in_bounds = omega arith;
  from_bits = from_bits _ _ _ _ _ _ _ _ _ _ _ c.run_one.ensures _ _ (c.in-Ok-Ran.is ∙ ap Ok c.in-Ok-Ran.field-0-is)
      (omega arith);
}

pub put_strips-requires : goal.put_strips-requires
put_strips-requires c =
    let few = count-few _ _ _ _ _ _ _ _ _ _ _ c.run_one.ensures (c.in-Ok-AtEnd.is ∙ ap Ok c.in-Ok-AtEnd.field-0-is) in
    (few, omega arith, omega (arith, few))

pub returns-in-Err : goal.returns-in-Err
returns-in-Err c =
    let all =
    file-reported _ _ _ _ _ _ _ _ _ _ _ c.run_one.ensures _ c.in-Err.is _ _ _
    (rw c.number.ensures at c.file_line.ensures.put) _ c.ended.ensures in
    record { record_reported = all; size_bound = omega (arith, all.lines.fits, all.lines.next) }

pub returns-in-Ok-Ran : goal.returns-in-Ok-Ran
returns-in-Ok-Ran c =
    let all =
    steps-reported _ _ _ _ _ _ _ _ _ _ _ c.run_one.ensures _ _ (c.in-Ok-Ran.is ∙ ap Ok c.in-Ok-Ran.field-0-is) _ _ _
    c.put_answers.ensures in
    record { record_reported = all; size_bound = omega (arith, all.lines.fits, all.lines.next) }

pub returns-in-Ok-AtEnd : goal.returns-in-Ok-AtEnd
returns-in-Ok-AtEnd c =
    let all =
    strips-reported _ _ _ _ _ _ _ _ _ _ _ c.run_one.ensures (c.in-Ok-AtEnd.is ∙ ap Ok c.in-Ok-AtEnd.field-0-is) _ _ _
    c.put_strips.ensures.put _ c.ended-in-Ok-AtEnd.ensures in
    record {
      record_reported = all;
      size_bound = omega (arith, ap (λ r. r.size) c.ended-in-Ok-AtEnd.ensures, c.put_strips.ensures.upper_bound);
    }
