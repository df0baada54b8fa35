-- `sheet::checks::open_for_list` answers 23, the list's 12, and then as `open_foil`.
use Rattle.sheet.proofs.Listing.{list-no-foil, list-many, list-opened}
use Rattle.sheet.proofs.checks.open_for_list.Goals as goal

pub returns-then-k-ge-FOILS : goal.returns-then-k-ge-FOILS
returns-then-k-ge-FOILS c = rw c.into.ensures (list-no-foil _ _ _ _ c.if-k-ge-FOILS.true c.args.rows.now)

pub returns-then-too_many : goal.returns-then-too_many
returns-then-too_many c =
    rw c.into-then-too_many.ensures
    (list-many _ _ _ _ c.if-k-ge-FOILS.false _ c.too_many.ensures c.if-too_many.true c.args.rows.now)

pub returns : goal.returns
returns c =
    list-opened _ _ _ _ c.if-k-ge-FOILS.false _ c.too_many.ensures c.if-too_many.false _ c.open_foil.result
    c.open_foil.ensures
