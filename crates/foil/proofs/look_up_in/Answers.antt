-- `foil::look_up_in` answers by the strip that holds the point, if one does.
use mathlib.Core.Path.{sym, ◌∙◌}
use Rattle.std.proofs.Common.{rules, ◌≡◌, Some, None, Err}
use Rattle.ledger_laws.proofs.Sound.{of-sound}
use Rattle.state.proofs.Rising.{by-row-of}
use Rattle.foil.proofs.Looking.{off-foil, strips-long, nowhere, somewhere}
use Rattle.foil.proofs.look_up_in.Goals as goal

pub returns-then-board-point : goal.returns-then-board-point
returns-then-board-point c = rw c.into.ensures (off-foil _ _ _ c.args.point c.requires c.then-board-point.either)

pub locate-requires : goal.locate-requires
locate-requires c = record {
  count_in_bounds = strips-long _ _ _ c.args.point c.requires;
  by_row = by-row-of _ (of-sound _ c.requires);
}

pub returns-in_err-place : goal.returns-in_err-place
returns-in_err-place c =
    let none : c.locate.result ≡ None = search rules in
    let told : c.from_residual.result ≡ Err 8 = search rules in
    rw told
    (nowhere _ _ _ c.args.point c.requires c.if-board-point.false c.if-board-point-2.false
    (sym c.locate.ensures ∙ none))

pub returns : goal.returns
returns c =
    let some : c.locate.result ≡ Some c.in_ok-place.place = search rules in
    somewhere _ _ _ c.args.point c.requires c.if-board-point.false c.if-board-point-2.false _
    (sym c.locate.ensures ∙ some)
