-- `sheet_rows::table::take_out` copies foil k's numbers from where they begin.
use native.Mathlib.Omega.{arith}
use Prim.Native.Nat.{ℕ, ◌+◌, ◌-◌, ◌*◌, ◌≤◌}
use mathlib.Core.Path.{◌≡◌, sym, ap, ◌∙◌}
use mathlib.Core.List.{List, [], ◌++◌}
use lib.ListN.{length, get_or, take, drop, length-take, length-drop}
use Rattle.std.proofs.Common.{rules}
use lib.Seq.{length-take-le, take_all}
use Rattle.foil_spec.specs.Limits.{table_size}
use Rattle.tables.specs.Rows.{rows_of}
use Rattle.tables.proofs.Filling.{length-rows}
use Rattle.sheet_rows.proofs.Tables.{part-small, part-inside, taking}
use Rattle.sheet_rows.proofs.table.take_out.Goals as goal

pub overflow_mul-size : goal.overflow_mul-size
overflow_mul-size c =
    omega (arith, part-small _ _ c.requires.eight_foils _ c.requires.k_lt_sheet_foils.0 _ c.counts_of-counts.ensures)

pub slice_bounds-copy-end : goal.slice_bounds-copy-end
slice_bounds-copy-end c =
    omega (
      arith,
      part-small _ _ c.requires.eight_foils _ c.requires.k_lt_sheet_foils.0 _ c.counts_of-counts.ensures,
      ap length c.requires.k_lt_sheet_foils.1,
      length-rows [] (omega arith),
    )

rows-long : (rows : List ℕ) (m : ℕ) → m ≤ table_size → rows ≡ rows_of [] → m ≡ length (take m rows)
rows-long rows m h e = sym (length-take-le m rows (omega (arith, ap length e, length-rows [] (omega arith))))

pub slice_bounds-copy-end-2 : goal.slice_bounds-copy-end-2
slice_bounds-copy-end-2 c =
    rows-long _ _ (part-small _ _ c.requires.eight_foils _ c.requires.k_lt_sheet_foils.0 _ c.counts_of-counts.ensures)
    c.requires.k_lt_sheet_foils.1

pub offset_bounds-table-start : goal.offset_bounds-table-start
offset_bounds-table-start c =
    omega (
      arith,
      part-inside _ _ c.requires.eight_foils _ c.requires.k_lt_sheet_foils.0 _ c.counts_of-counts.ensures _
          c.start_of-start.ensures,
    )

pub slice_bounds-copy-count : goal.slice_bounds-copy-count
slice_bounds-copy-count c =
    omega (
      arith,
      part-inside _ _ c.requires.eight_foils _ c.requires.k_lt_sheet_foils.0 _ c.counts_of-counts.ensures _
          c.start_of-start.ensures,
    )

pub slice_bounds-copy-start : goal.slice_bounds-copy-start
slice_bounds-copy-start c =
    let h : c.start_of-start.result ≤ length c.args.table.now =
    omega (
      arith,
      part-inside _ _ c.requires.eight_foils _ c.requires.k_lt_sheet_foils.0 _ c.counts_of-counts.ensures _
          c.start_of-start.ensures,
    ) in
    search rules

part-long : (table : List ℕ) (start m : ℕ) → start + m ≤ length table
    → m ≡ length (take m (take (length table - start) (drop start table)))
part-long table start m h =
    sym (length-take-le m _ (omega (arith, length-take (length table - start) (drop start table), length-drop start table)))

pub slice_bounds-copy-end-4 : goal.slice_bounds-copy-end-4
slice_bounds-copy-end-4 c =
    part-long c.args.table.now c.start_of-start.result _
    (part-inside _ _ c.requires.eight_foils _ c.requires.k_lt_sheet_foils.0 _ c.counts_of-counts.ensures _
    c.start_of-start.ensures)

pub copy-requires : goal.copy-requires
copy-requires c =
    sym (rows-long _ _
    (part-small _ _ c.requires.eight_foils _ c.requires.k_lt_sheet_foils.0 _ c.counts_of-counts.ensures)
    c.requires.k_lt_sheet_foils.1)
    ∙ part-long c.args.table.now c.start_of-start.result _
    (part-inside _ _ c.requires.eight_foils _ c.requires.k_lt_sheet_foils.0 _ c.counts_of-counts.ensures _
    c.start_of-start.ensures)

pub returns : goal.returns
returns c =
    taking _ _ c.requires.eight_foils _ c.requires.k_lt_sheet_foils.0 _ c.counts_of-counts.ensures _ _ _
    c.start_of-start.ensures c.requires.k_lt_sheet_foils.1
    (ap (λ (x : List ℕ). x ++ drop (get_or c.counts_of-counts.result c.args.k 0 * 5) c.args.rows.now)
    (c.copy.ensures
    ∙ ap (take (get_or c.counts_of-counts.result c.args.k 0 * 5))
    (take_all _ (drop c.start_of-start.result c.args.table.now)
    (omega (arith, length-drop c.start_of-start.result c.args.table.now)))))
