-- `sheet::queries::ohms` takes foil k out, and is `net_ohms` of it.
use mathlib.Core.Path.{refl}
use Rattle.tables.proofs.Filling.{no_rows}
use Rattle.nets.proofs.Measuring.{sound-boxes}
use Rattle.sheet.specs.Parts.{reads_foil}
use Rattle.sheet.proofs.Checking.{opened, not_opened, keeps-rules}
use Rattle.sheet.proofs.Reading.{ohms-refused, ohms-done}
use Rattle.sheet.proofs.queries.ohms.Goals as goal

pub open_foil-requires : goal.open_foil-requires
open_foil-requires c = no_rows

pub returns-in-Err : goal.returns-in-Err
unfolding reads_foil
returns-in-Err c = rw c.into.ensures
    (ohms-refused _ _ _ _ _ (not_opened _ _ _ _ c.open_foil.ensures _ c.in-Err.is _ _ refl))

pub net_ohms-requires : goal.net_ohms-requires
net_ohms-requires c =
    let o = opened _ _ _ _ c.open_foil.ensures _ c.in-Ok.is in
    sound-boxes _ _ c.args.strips.now (keeps-rules _ _ _ _ o)

pub returns-in-Ok : goal.returns-in-Ok
returns-in-Ok c =
    let o = opened _ _ _ _ c.open_foil.ensures _ c.in-Ok.is in
    ohms-done _ _ _ _ _ _ o _ c.net_ohms.ensures
