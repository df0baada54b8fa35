-- `sheet::lay` takes foil k out, is `lay_in` of it, and puts it back.
use native.Mathlib.Omega.{arith}
use mathlib.Core.Path.{refl}
use Rattle.std.proofs.Common.{◌≡◌, Err, rules}
use Rattle.foil_spec.specs.Ledger.{reads}
use Rattle.foil_spec.specs.Sheet.{writes}
use Rattle.tables.proofs.Filling.{no_rows}
use Rattle.sheet.specs.Parts.{reads_foil}
use Rattle.sheet.proofs.Checking.{opened, not_opened, keeps-rules, limit-most}
use Rattle.sheet.proofs.Closing.{wrote-refused, may-finish-output, output-finished}
use Rattle.sheet.proofs.lay.Goals as goal

pub open_foil-requires : goal.open_foil-requires
open_foil-requires c = no_rows

pub returns-in_err-board : goal.returns-in_err-board
unfolding reads_foil reads
returns-in_err-board c =
    let same : c.from_residual.result ≡ Err c.in_err-board.field-0.0 = search rules in
    rw same
    (wrote-refused _ c.args.sheet.now _ _ _ _ _ (not_opened _ _ _ _ c.open_foil.ensures _ c.in_err-board.was _ _ refl))

pub lay_in-answer-requires-clause-strips_value : goal.lay_in-answer-requires-clause-strips_value
lay_in-answer-requires-clause-strips_value c =
    keeps-rules _ _ _ _ (opened _ _ _ _ c.open_foil.ensures _ c.in_ok-board.was)

pub lay_in-answer-requires-clause-limit_le_max_entries : goal.lay_in-answer-requires-clause-limit_le_max_entries
lay_in-answer-requires-clause-limit_le_max_entries c = limit-most _ _ _ c.limit-most.ensures

pub close-requires : goal.close-requires
unfolding writes
close-requires c =
    let o = opened _ _ _ _ c.open_foil.ensures _ c.in_ok-board.was in
    may-finish-output _ c.args.sheet.now _ _ _ _ _ o.out refl _ _ _ _ _ c.limit-most.ensures _ _ c.lay_in-answer.ensures
    (omega arith) _ c.is_ok.ensures.value

pub returns : goal.returns
unfolding writes
returns c =
    let o = opened _ _ _ _ c.open_foil.ensures _ c.in_ok-board.was in
    output-finished _ c.args.sheet.now _ _ _ _ _ o.out refl _ _ _ _ _ c.limit-most.ensures _ _ c.lay_in-answer.ensures
    _ c.is_ok.ensures.value _ _ c.close.ensures
