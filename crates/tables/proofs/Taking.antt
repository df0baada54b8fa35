-- Rows and strips that are copied over make the lists that hold the layout.
use Prim.Native.Nat.{ℕ, ◌-◌, ◌≤◌}
use native.Mathlib.Omega.{arith}
use mathlib.Core.Path.{◌≡◌, sym, ap, ◌∙◌, subst}
use mathlib.Core.List.{List, [], ◌++◌, map, append_assoc}
use lib.ListN.{length, drop, replicate}
use lib.Seq.{drop-nil}
use borrow.Author.Tests.{lt-ltb, le-ltb}
use Rattle.std.specs.Prelude.{Option, Some, None}
use Rattle.foil_spec.specs.Lists.{range, each}
use Rattle.foil_spec.specs.Limits.{max_entries, table_size, max_strips, strips_size}
use Rattle.foil_spec.specs.Foil.{entry_numbers, Pen, Layout}
use Rattle.foil_spec.specs.Strips.{Strip}
use Rattle.foil_spec.specs.Ledger.{strips_of, is_too_fine}
use Rattle.foil_spec.specs.Lent.{strip_numbers, written, board_of, entry_at, layout_of}
use Rattle.foil_spec.specs.declared.Board.{Board}
use Rattle.ledger_laws.proofs.Stored.{length-entries}
use Rattle.ledger_laws.proofs.Sound.{length-read}
use Rattle.tables.specs.Rows.{rows_of}
use Rattle.tables.specs.StripList.{PutStrips}
use Rattle.tables.specs.Booked.{Stored, Unchanged, Booking}
use Rattle.tables.proofs.Filling.{length-rows}

pub rows_long : (n : ℕ) (rows : List ℕ) → n ≤ max_entries
    → rows ≡ rows_of (map (entry_at rows) (range 0 n)) → table_size ≡ length rows
rows_long n rows few e =
    let k = length-read rows n in
    omega (arith, length-rows (map (entry_at rows) (range 0 n)) (omega arith), ap length e)

-- what is written to an empty list and put to the front of another is written to that
pub put_front : (n : ℕ) (ns d : List ℕ) → written n ns [] ++ drop n d ≡ written n ns d
unfolding written
put_front n ns d =
    ap (λ (x : List ℕ). (ns ++ (replicate (n - length ns) 0 ++ x)) ++ drop n d) (drop-nil n)
    ∙ append_assoc ns (replicate (n - length ns) 0 ++ []) (drop n d)
    ∙ ap (λ (x : List ℕ). ns ++ x) (append_assoc (replicate (n - length ns) 0) [] (drop n d))

-- the layout of the rows, and its strips ss, built anew
module _ (w h : ℕ) (p : Pen) (n : ℕ) (rows t s : List ℕ) (ss : List Strip)
    (are : ss ≡ strips_of (layout_of w h p n rows)) where
  abbrev l : Layout
  l = layout_of w h p n rows

  -- the record with these counts
  abbrev board_with : ℕ → ℕ → Board
  board_with k c =
      record { width = w; height = h; half = p.half; gap = p.gap; entries = k; strips = c }

  pub refused : (t' s' : List ℕ) → PutStrips s s' None ss → t' ≡ t → Unchanged l t s t' s'
  unfolding is_too_fine
  refused t' s' z a =
      record {
        many = lt-ltb max_strips (length (strips_of l)) (omega (arith, z.0, ap length are));
        table = a;
        strips = z.1;
      }

  pub taken : (t' s' : List ℕ) (c : ℕ) → n ≤ max_entries → rows ≡ rows_of (map (entry_at rows) (range 0 n))
      → PutStrips s s' (Some c) ss → t' ≡ rows ++ drop table_size t → Stored l t s t' s' (board_with n c)
  unfolding is_too_fine board_of layout_of rows_of
  taken t' s' c few r p a =
      let es = length-entries (map (entry_at rows) (range 0 n)) in
      let k = length-read rows n in
      let z : c ≡ length (strips_of l) = omega (arith, p.0, ap length are) in
      record {
        fine = le-ltb max_strips (length (strips_of l)) (omega (arith, p.1));
        board = λ i. board_with (sym k i) (z i);
        table =
            a ∙ ap (λ (x : List ℕ). x ++ drop table_size t) r
            ∙ put_front table_size (each entry_numbers (map (entry_at rows) (range 0 n))) t;
        strips = p.2 ∙ ap (λ (ts : List Strip). written strips_size (each strip_numbers ts) s) are;
      }

-- what a booking left, by the case that it answers
module _ {l : Layout} {t s t' s' : List ℕ} (k : Option Board) (left : Booking l t s t' s' k) where
  pub stored-by : (after : Board) → k ≡ Some after → Stored l t s t' s' after
  stored-by after e = subst (λ (x : Option Board). Booking l t s t' s' x) e left

  pub unchanged-by : k ≡ None → Unchanged l t s t' s'
  unchanged-by e = subst (λ (x : Option Board). Booking l t s t' s' x) e left
