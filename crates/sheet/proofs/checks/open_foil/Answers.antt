-- `sheet::checks::open_foil` is `lend_foil`, and then the foil's own 13.
use Rattle.std.proofs.Common.{◌≡◌, Err, rules}
use Rattle.sheet.proofs.Checking.{taken_out, not-out, unopened, own-opened, own-refused}
use Rattle.sheet.proofs.checks.open_foil.Goals as goal

pub returns-in_err-board : goal.returns-in_err-board
returns-in_err-board c =
    let same : c.from_residual.result ≡ Err c.in_err-board.field-0.0 = search rules in
    rw same (unopened _ _ _ (not-out _ _ _ _ c.lend_foil.ensures _ c.in_err-board.was))

pub returns-in_err-lent_refusal : goal.returns-in_err-lent_refusal
returns-in_err-lent_refusal c =
    let same : c.from_residual-in_err-lent_refusal.result ≡ Err c.in_err-lent_refusal.field-0.0 = search rules in
    rw same
    (own-refused _ _ _ _ (taken_out _ _ _ _ c.lend_foil.ensures _ c.in_ok-board.was) _ c.lent_refusal.ensures _
    c.in_err-lent_refusal.was)

pub returns : goal.returns
returns c =
    own-opened _ _ _ _ (taken_out _ _ _ _ c.lend_foil.ensures _ c.in_ok-board.was) _ c.lent_refusal.ensures _
    c.in_ok-lent_refusal.was
