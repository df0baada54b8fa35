-- `sheet::list::lay_list` takes foil k out, is `lay_list_in` of it, and puts it back.
use native.Mathlib.Omega.{arith}
use Rattle.std.proofs.Common.{◌≡◌, Err, rules}
use Rattle.tables.proofs.Filling.{no_rows}
use Rattle.listing.proofs.Many.{places}
use Rattle.sheet.proofs.Checking.{keeps-rules, limit-most}
use Rattle.sheet.proofs.Listing.{list-out, list-not-out, list-refused, list-closable, list_done}
use Rattle.sheet.proofs.list.lay_list.Goals as goal

pub open_for_list-requires : goal.open_for_list-requires
open_for_list-requires c = no_rows

pub returns-in_err-board : goal.returns-in_err-board
returns-in_err-board c =
    let same : c.from_residual.result ≡ Err c.in_err-board.field-0.0 = search rules in
    rw same
    (list-refused _ c.args.sheet.now _ _ _ _ _ _
    (list-not-out _ _ _ _ _ _ c.open_for_list.ensures _ c.in_err-board.was _))

pub limit-most-requires : goal.limit-most-requires
limit-most-requires c =
    let o = (list-out _ _ _ _ _ _ c.open_for_list.ensures _ c.in_ok-board.was).0 in
    (o.out.here, o.out.eight-foils.limits)

pub lay_list_in-laid-requires : goal.lay_list_in-laid-requires
lay_list_in-laid-requires c =
    let o = list-out _ _ _ _ _ _ c.open_for_list.ensures _ c.in_ok-board.was in
    record {
      strips_value = keeps-rules _ _ _ _ o.0;
      limit_le_max_entries = limit-most _ _ _ c.limit-most.ensures;
      wishes_in_bounds = places _ c.args.answers.now o.1;
    }

pub close-requires : goal.close-requires
close-requires c =
    let o = list-out _ _ _ _ _ _ c.open_for_list.ensures _ c.in_ok-board.was in
    list-closable _ c.args.sheet.now _ _ _ _ _ _ _ o.0 o.1 _ c.limit-most.ensures _ _ _ _ _ _
    c.lay_list_in-laid.ensures (omega arith)

pub returns : goal.returns
returns c =
    let o = list-out _ _ _ _ _ _ c.open_for_list.ensures _ c.in_ok-board.was in
    list_done _ c.args.sheet.now _ _ _ _ _ _ _ o.0 o.1 _ c.limit-most.ensures _ _ _ _ _ _
    c.lay_list_in-laid.ensures _ _ c.close.ensures
