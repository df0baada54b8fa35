-- `sheet_rows::table::put_rows` finds where foil k's numbers begin and end, and replaces them.
use native.Mathlib.Omega.{arith}
use Prim.Native.Nat.{◌*◌}
use lib.Seq.{length-take-le}
use Rattle.sheet_rows.proofs.Counting.{start_small}
use Rattle.sheet_rows.proofs.Tables.{new-fits, rest_in, replaced}
use Rattle.sheet_rows.proofs.table.put_rows.Goals as goal

pub replace-requires-clause-rest_bound : goal.replace-requires-clause-rest_bound
replace-requires-clause-rest_bound c = (
  omega (
    arith,
    length-take-le (c.args.n * 5) c.args.rows.now c.requires.sheet_size_in_bounds.1,
    new-fits c.args.counts c.requires.k_lt_sheet_foils.1 c.args.k (omega arith) (omega arith) _ _ _ _
        c.requires.k_lt_sheet_foils.2 c.start_of-start.ensures c.start_of-rest.ensures c.start_of-end.ensures,
  ),
  rest_in c.args.counts c.requires.k_lt_sheet_foils.1 c.args.k (omega arith) (omega arith) _ _ _ _
      c.requires.k_lt_sheet_foils.2 c.start_of-start.ensures c.start_of-rest.ensures c.start_of-end.ensures,
  omega (arith, c.start_of-end.ensures, start_small c.args.counts 8 c.requires.k_lt_sheet_foils.1),
)

pub returns : goal.returns
returns c =
    replaced c.args.counts c.requires.k_lt_sheet_foils.1 c.args.k (omega arith) (omega arith) _ _ _ _
    c.requires.k_lt_sheet_foils.2 c.start_of-start.ensures c.start_of-rest.ensures c.start_of-end.ensures _
    c.args.table.now _ c.replace.ensures
