-- `sheet_rows::table::put_back` puts the rows back, and the record.
use native.Mathlib.Omega.{arith}
use Prim.Native.Nat.{ℕ, ◌≤◌}
use mathlib.Core.Path.{sym, subst}
use mathlib.Core.List.{List}
use Rattle.foil_spec.specs.Sheet.{limit_of}
use Rattle.sheet_rows.proofs.Tables.{counts-fine, limit-few, putting}
use Rattle.sheet_rows.proofs.table.put_back.Goals as goal

pub put_rows-requires : goal.put_rows-requires
put_rows-requires c = record {
  k_lt_sheet_foils = (
    c.requires.k_lt_sheet_foils.0,
    counts-fine _ _ c.requires.eight_foils _ c.requires.k_lt_sheet_foils.0 _ c.counts_of.ensures,
    subst (λ (ns : List ℕ). c.args.board.entries ≤ limit_of ns c.args.k) (sym c.counts_of.ensures) c.requires.k_lt_sheet_foils.1,
  );
  sheet_size_in_bounds = (c.requires.eight_foils.places, omega (arith, limit-few _ _ _ c.requires.k_lt_sheet_foils.1, c.requires.table_size_in_bounds));
}

pub returns : goal.returns
returns c = putting _ _ c.requires.eight_foils _ c.requires.k_lt_sheet_foils.0 _ c.counts_of.ensures _ _ _ _
    c.put_rows.ensures c.with_board.ensures
