-- `foil::new_foil_in` tests the sizes and the clearance, and takes an empty table over.
use mathlib.Core.Path.{◌≡◌, sym, ap, ◌∙◌}
use mathlib.Core.Bool.{true}
use Rattle.std.proofs.Common.{rules, Err}
use Rattle.foil_spec.specs.Foil.{size_ok, pen_ok}
use Rattle.tables.proofs.Filling.{no_rows}
use Rattle.foil.proofs.Beginning.{passed-pen, bare-table, no-width, no-height, no-pen, begun}
use Rattle.foil.proofs.new_foil_in.Goals as goal
use Rattle.foil.proofs.new_foil_in.Goals.{then-not-size_ok-via-then-not-size_ok}
use Rattle.foil.proofs.new_foil_in.Goals.{then-not-size_ok-via-else-not-size_ok+then-not-size_ok-2}

pub returns-then-not-size_ok : goal.returns-then-not-size_ok
returns-then-not-size_ok c = λ room long.
    rw c.into.ensures
    (elim c.then-not-size_ok.branch [
      | then-not-size_ok-via-then-not-size_ok w ↦
          no-width _ _ _ _ _ _ room long _ c.size_ok.ensures w.if-not-size_ok.true
      | then-not-size_ok-via-else-not-size_ok+then-not-size_ok-2 w ↦
          no-height _ _ _ _ _ _ room long _ c.size_ok.ensures w.if-not-size_ok.false _
          w.size_ok-else-not-size_ok.ensures w.if-not-size_ok-2.true
    ])

pub returns-in_err-clearance_refusal : goal.returns-in_err-clearance_refusal
returns-in_err-clearance_refusal c =
    let told : c.from_residual.result ≡ Err c.in_err-clearance_refusal.field-0.0 = search rules in
    λ room long.
    rw told
    (no-pen _ _ _ _ _ _ room long _ c.size_ok.ensures c.if-not-size_ok.false _
    c.size_ok-else-not-size_ok.ensures c.if-not-size_ok-2.false _ c.in_err-clearance_refusal.ensures)

pub settle-requires : goal.settle-requires
settle-requires c =
    let wide : size_ok c.args.w ≡ true = sym c.size_ok.ensures ∙ c.if-not-size_ok.false in
    let high : size_ok c.args.h ≡ true = sym c.size_ok-else-not-size_ok.ensures ∙ c.if-not-size_ok-2.false in
    record {
      table = bare-table _ _ _ wide high
          (ap pen_ok c.pen_of-pen.ensures ∙ passed-pen _ c.in_ok-clearance_refusal.ensures);
      rows_value = no_rows;
      table_size_in_bounds = c.requires;
    }

pub returns : goal.returns
returns c = λ room long.
    begun _ _ _ _ _ _ room long _ c.size_ok.ensures c.if-not-size_ok.false _
    c.size_ok-else-not-size_ok.ensures c.if-not-size_ok-2.false c.in_ok-clearance_refusal.ensures _
    c.pen_of-pen.ensures _ _ _ _ c.settle.ensures
