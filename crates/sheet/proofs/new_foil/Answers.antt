-- `sheet::new_foil` takes foil k out, is `new_foil_in` of it, and puts it back.
use native.Mathlib.Omega.{arith}
use mathlib.Core.Path.{refl}
use Rattle.std.proofs.Common.{◌≡◌, Err, rules}
use Rattle.foil_spec.specs.Sheet.{writes}
use Rattle.foil.specs.Contract.{clearance_of}
use Rattle.tables.proofs.Filling.{no_rows}
use Rattle.sheet.proofs.Checking.{taken_out, not-out, step-unopened}
use Rattle.sheet.proofs.Closing.{gave-refused, may-finish, finished}
use Rattle.sheet.proofs.new_foil.Goals as goal

pub lend_foil-requires : goal.lend_foil-requires
lend_foil-requires c = no_rows

pub returns-in_err-board : goal.returns-in_err-board
returns-in_err-board c =
    let same : c.from_residual.result ≡ Err c.in_err-board.field-0.0 = search rules in
    rw same
    (gave-refused _ c.args.sheet.now _ _ _ _ _
    (step-unopened _ _ _ (not-out _ _ _ _ c.lend_foil.ensures _ c.in_err-board.was) _ _))

pub close-requires : goal.close-requires
unfolding writes clearance_of
close-requires c =
    let o = taken_out _ _ _ _ c.lend_foil.ensures _ c.in_ok-board.was in
    may-finish _ c.args.sheet.now _ _ _ _ _ o refl _ _ _ _ _ refl (λ r long is. c.new_foil_in-answer.ensures r long)
    (omega arith) _ c.is_ok.ensures.value

pub returns : goal.returns
unfolding writes clearance_of
returns c =
    let o = taken_out _ _ _ _ c.lend_foil.ensures _ c.in_ok-board.was in
    finished _ c.args.sheet.now _ _ _ _ _ o refl _ _ _ _ _ refl (λ r long is. c.new_foil_in-answer.ensures r long)
    _ c.is_ok.ensures.value _ _ c.close.ensures
