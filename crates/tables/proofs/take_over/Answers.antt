-- `tables::take_over` meets its contract: the strips are put first, and the table where they are not too many.
use native.Mathlib.Omega.{arith}
use mathlib.Core.Path.{refl, ap}
use mathlib.Core.List.{List, ◌++◌}
use Prim.Native.Nat.{ℕ}
use lib.ListN.{drop}
use lib.Seq.{length-take-le}
use Rattle.zones.proofs.Zoning.{zoned-strips}
use Rattle.tables.proofs.Taking.{rows_long, refused, taken}
use Rattle.tables.proofs.take_over.Goals as goal

pub returns-in_err-count : goal.returns-in_err-count
returns-in_err-count c =
    rw c.from_residual.ensures
    (refused _ _ _ _ _ _ _ _ (zoned-strips _ _ _ _ _ _ _ c.pen_zones-m.ensures) _ _ c.in_err-count.ensures refl)

pub copy-requires : goal.copy-requires
copy-requires c =
    omega (
      arith,
      rows_long c.args.n c.args.rows.now c.requires.table.few c.requires.rows_value,
      length-take-le 640 c.args.table.now (omega (arith, c.requires.table_size_in_bounds)),
    )

pub returns : goal.returns
returns c =
    taken _ _ _ _ _ _ _ _ (zoned-strips _ _ _ _ _ _ _ c.pen_zones-m.ensures) _ _ _ c.requires.table.few
    c.requires.rows_value c.in_ok-count.ensures
    (ap (λ (x : List ℕ). x ++ drop 640 c.args.table.now) c.copy.ensures)
