-- The rows that a call makes are those of the layout that its step leaves.
use Prim.Native.Nat.{ℕ, ◌-◌, ◌≤◌}
use native.Mathlib.Omega.{arith}
use mathlib.Core.Path.{◌≡◌, sym, ap, ◌∙◌}
use mathlib.Core.Bool.{true}
use mathlib.Core.List.{List, ◌++◌, map, append-nil}
use lib.ListN.{length, take, replicate}
use Rattle.foil_spec.specs.Lists.{range, all, each}
use Rattle.foil_spec.specs.Limits.{max_entries, table_size}
use Rattle.foil_spec.specs.Foil.{Entry, entry_numbers, Pen, Rule, entry_ok}
use Rattle.foil_spec.specs.Lent.{Lent, written, store, entry_at, layout_of, held}
use Rattle.ledger_laws.proofs.Stored.{entries_fit}
use Rattle.ledger_laws.proofs.Sound.{Sound, front-written}
use Rattle.zones.specs.Table.{Small, Sized, Table}
use Rattle.zones.proofs.Tables.{table_of}
use Rattle.tables.specs.Rows.{rows_of}
use Rattle.tables.proofs.Filling.{length-rows, read-rows}

-- rows of some entries, as a list that is read by place
module _ (rows : List ℕ) (es : List Entry) (n : ℕ) (count : length es ≡ n) (is : rows ≡ rows_of es) where
  pub rows-again : rows ≡ rows_of (map (entry_at rows) (range 0 n))
  rows-again = is ∙ ap rows_of (sym (read-rows rows es n count is))

  pub rows-layout : (w h : ℕ) (p : Pen)
      → layout_of w h p n rows ≡ record { width = w; height = h; pen = p; entries = es }
  unfolding layout_of
  rows-layout w h p = ap (λ (x : List Entry). record { width = w; height = h; pen = p; entries = x })
      (read-rows rows es n count is)

  pub rows-table : (r : Rule) (w h : ℕ) → n ≤ max_entries → Small r → Sized w h → all (entry_ok w h) es ≡ true
      → Table rows n r w h
  rows-table r w h few small sized ok =
      table_of rows n r w h few (omega (arith, length-rows es (omega arith), ap length is)) small sized
      (ap (all (entry_ok w h)) (read-rows rows es n count is) ∙ ok)

-- the front of a sound table is rows of its entries
pub front-rows : (m : Lent) → Sound m → take table_size m.table ≡ rows_of (held m).entries
unfolding store rows_of written
front-rows m k =
    let ns : List ℕ = each entry_numbers (held m).entries in
    ap (take table_size) k.table_is
    ∙ front-written table_size ns m.table (entries_fit (held m) k.kept)
    ∙ ap (λ (x : List ℕ). ns ++ x) (sym (append-nil (replicate (table_size - length ns) 0)))
