-- What is lent is known to be fit; the record is checked, and then its steps are run.
use Rattle.std.proofs.Common.{◌≡◌, Err, rules}
use Rattle.job.proofs.Wholes.{record-refused, there, ready, at-end, ran-done}
use Rattle.job.proofs.run_record_in.Goals as goal

pub returns-in_err-record_refusal : goal.returns-in_err-record_refusal
returns-in_err-record_refusal c =
    let same : c.from_residual.result ≡ Err c.in_err-record_refusal.field-0.0 = search rules in
    rw same
    (record-refused _ _ _ _ _ _ _ c.requires.lends _ c.record_refusal.ensures _ c.in_err-record_refusal.was)

pub bounds-bytes-at : goal.bounds-bytes-at
bounds-bytes-at c = there _ _ _ c.record_refusal.ensures _ c.in_ok-record_refusal.was

pub returns-then-bytes-at-eq0 : goal.returns-then-bytes-at-eq0
returns-then-bytes-at-eq0 c =
    at-end _ _ _ _ _ _ _ c.requires.lends _ c.record_refusal.ensures _ c.in_ok-record_refusal.was c.if-bytes-at-eq0.true

pub run_steps-requires-clause-ready : goal.run_steps-requires-clause-ready
run_steps-requires-clause-ready c =
    ready _ _ _ c.record_refusal.ensures _ c.in_ok-record_refusal.was c.if-bytes-at-eq0.false _ c.requires.lends

pub returns : goal.returns
returns c =
    ran-done _ _ _ _ _ _ _ c.requires.lends _ c.record_refusal.ensures _ c.in_ok-record_refusal.was
    c.if-bytes-at-eq0.false _ _ _ _ _ c.run_steps.ensures
