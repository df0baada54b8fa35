-- `foil::settle` hands on what `take_over` did.
use Rattle.std.proofs.Common.{rules, ◌≡◌, Some, None, Err}
use Rattle.tables.proofs.Taking.{stored-by, unchanged-by}
use Rattle.foil.proofs.Giving.{taken, not_taken}
use Rattle.foil.proofs.settle.Goals as goal

pub returns-in_err-board : goal.returns-in_err-board
returns-in_err-board c =
    let none : c.take_over.result ≡ None = search rules in
    let told : c.from_residual.result ≡ Err 11 = search rules in
    rw told (not_taken _ _ _ _ _ _ (unchanged-by _ c.take_over.ensures none))

pub returns : goal.returns
returns c =
    let some : c.take_over.result ≡ Some c.in_ok-board.field-0 = search rules in
    taken _ _ _ _ _ _ _ (stored-by _ c.take_over.ensures _ some)
