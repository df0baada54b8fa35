-- `sheet::queries::find` takes foil k out, and is `find_in` of it.
use mathlib.Core.Path.{refl}
use Rattle.std.proofs.Common.{◌≡◌, Err, rules}
use Rattle.foil_spec.specs.Ledger.{reads}
use Rattle.foil_spec.specs.Sheet.{writes}
use Rattle.tables.proofs.Filling.{no_rows}
use Rattle.sheet.specs.Parts.{reads_foil}
use Rattle.sheet.proofs.Checking.{opened, not_opened, keeps-rules}
use Rattle.sheet.proofs.Reading.{read-refused, read_done}
use Rattle.sheet.proofs.queries.find.Goals as goal

pub open_foil-requires : goal.open_foil-requires
open_foil-requires c = no_rows

pub returns-in_err-board : goal.returns-in_err-board
unfolding reads_foil reads
returns-in_err-board c =
    let same : c.from_residual.result ≡ Err c.in_err-board.field-0.0 = search rules in
    rw same
    (read-refused _ _ _ _ _ (not_opened _ _ _ _ c.open_foil.ensures _ c.in_err-board.was _ _ refl))

pub find_in-requires : goal.find_in-requires
find_in-requires c = keeps-rules _ _ _ _ (opened _ _ _ _ c.open_foil.ensures _ c.in_ok-board.was)

pub returns : goal.returns
unfolding writes
returns c =
    let o = opened _ _ _ _ c.open_foil.ensures _ c.in_ok-board.was in
    read_done _ _ _ _ _ _ o.out refl _ _ c.find_in.ensures
