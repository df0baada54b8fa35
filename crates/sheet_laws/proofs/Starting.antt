-- The sheets that a list of calls may start from hold the ledger's rows.
use Prim.Native.Nat.{ℕ, zero, suc, ◌+◌, ◌-◌, ◌≤◌}
use native.Mathlib.Omega.{arith}
use native.Mathlib.Nat.{zero-add, suc-add}
use mathlib.Core.Path.{◌≡◌, refl, sym, ap, ap₂, ◌∙◌, subst}
use mathlib.Core.Bool.{true, false, cond}
use mathlib.Core.List.{List, [], ◌∷◌, ◌++◌, map, append_assoc, append-nil}
use mathlib.Core.Logic.{inl, inr}
use lib.Dec.{eqb}
use borrow.Author.Tests.{leb-true, le-leb}
use lib.ListN.{length, get_or, take, drop, replicate, length-append, length-take, length-replicate}
use lib.Seq.{drop_at}
use Rattle.foil_spec.specs.Limits.{max_entries, table_size, strips_size, sheet_foils, sheet_entries, sheet_size}
use Rattle.foil_spec.specs.Foil.{Layout, no_foil}
use Rattle.foil_spec.specs.Ledger.{carry}
use Rattle.foil_spec.specs.Lent.{Lent, written, board_of, store, held, sound, step_on}
use Rattle.foil_spec.specs.Sheet.{total, reserved, each_few, counts_ok, no_board, joined, blank, row_counts, Sheet}
use Rattle.foil_spec.specs.Sheet.{row_numbers, row_strips, rows_table, store_sheet}
use Rattle.foil_spec.specs.declared.Board.{Board}
use Rattle.list_laws.proofs.Tests.{clash, and_i}
use Rattle.ledger_laws.proofs.Stored.{entries_fit}
use Rattle.ledger_laws.proofs.Rules.{of-ok}
use Rattle.ledger_laws.proofs.Carrying.{carried-lists}
use Rattle.ledger_laws.proofs.Sound.{Sound, of-sound, sound-store-is, sound-long, front-written}
use Rattle.sheet_laws.specs.Sheet.{unused_sheet, carried_sheet, Starts, unused, carried_over}
use Rattle.sheet_laws.proofs.Rows.{Row, begun, no-board}
use Rattle.sheet_laws.proofs.Lending.{Holds}

-- ---- foils that are not begun

pub get_d-blank : (n k : ℕ) → get_or (replicate n no_foil) k no_foil ≡ no_foil
get_d-blank zero k = refl
get_d-blank (suc n) zero = refl
get_d-blank (suc n) (suc k) = get_d-blank n k

strips-blank : (l : Layout) (s : List ℕ) → l ≡ no_foil → row_strips l s ≡ s
unfolding row_strips blank
strips-blank l s e = rw e refl

blank-yes : (l : Layout) → l ≡ no_foil → blank l ≡ true
unfolding blank
blank-yes l e = rw e refl

boards-blank : (n : ℕ) → map board_of (replicate n no_foil) ≡ replicate n no_board
boards-blank zero = refl
boards-blank (suc n) = ap₂ {A = Board} {B = List Board} (λ b bs. b ∷ bs) no-board (boards-blank n)

joined-blank : (n : ℕ) → joined (map row_numbers (replicate n no_foil)) ≡ []
unfolding joined row_numbers
joined-blank zero = refl
joined-blank (suc n) = joined-blank n

-- ---- the sheets hold their rows

pub unused-stored : (rest : List ℕ) (ss : ℕ → List ℕ)
    → store_sheet (replicate sheet_foils no_foil) (unused_sheet rest ss) ≡ unused_sheet rest ss
unfolding store_sheet rows_table written
unused-stored rest ss =
    λ i.
    record {
      boards = boards-blank sheet_foils i;
      table = zeros i;
      strips = λ (k : ℕ). strips-blank (get_or (replicate sheet_foils no_foil) k no_foil) (ss k) (get_d-blank sheet_foils k) i;
    }
  where
    zeros : written sheet_size (joined (map row_numbers (replicate sheet_foils no_foil))) (replicate sheet_size 0 ++ rest)
        ≡ replicate sheet_size 0 ++ rest
    zeros =
        ap (λ (ns : List ℕ). written sheet_size ns (replicate sheet_size 0 ++ rest)) (joined-blank sheet_foils)
        ∙ ap (λ (l : List ℕ). replicate sheet_size 0 ++ l)
        (drop_at (replicate sheet_size 0) rest sheet_size (length-replicate {A = ℕ} sheet_size 0))

zeros-append : (a b : ℕ) (l : List ℕ) → replicate a 0 ++ (replicate b 0 ++ l) ≡ replicate (a + b) 0 ++ l
zeros-append zero b l = rw zero-add refl
zeros-append (suc a) b l = rw suc-add (ap (λ (x : List ℕ). 0 ∷ x) (zeros-append a b l))

module _ (n : Lent) (rest : List ℕ) (ss : ℕ → List ℕ) (g : sound n ≡ true) where
  known : Sound n
  known = of-sound n g

  abbrev numbers : List ℕ
  numbers = row_numbers (held n)

  fit : length numbers ≤ table_size
  unfolding row_numbers
  fit = entries_fit (held n) known.kept

  board-is : board_of (held n) ≡ n.board
  unfolding store
  board-is = ap (λ (x : Lent). x.board) (sound-store-is n known)

  front-is : take table_size n.table ≡ numbers ++ replicate (table_size - length numbers) 0
  unfolding store row_numbers
  front-is =
      ap (λ (t : List ℕ). take table_size t) known.table_is ∙ front-written table_size numbers n.table fit

  abbrev table : List ℕ
  table = (take table_size n.table ++ replicate 1920 0) ++ rest

  all-zeros : table ≡ numbers ++ (replicate (sheet_size - length numbers) 0 ++ rest)
  all-zeros =
      let e : table_size - length numbers + 1920 ≡ sheet_size - length numbers = omega (arith, fit) in
      ap (λ (t : List ℕ). (t ++ replicate 1920 0) ++ rest) front-is
      ∙ append_assoc (numbers ++ replicate (table_size - length numbers) 0) (replicate 1920 0) rest
      ∙ append_assoc numbers (replicate (table_size - length numbers) 0) (replicate 1920 0 ++ rest)
      ∙ ap (λ (t : List ℕ). numbers ++ t) (zeros-append (table_size - length numbers) 1920 rest)
      ∙ ap (λ (i : ℕ). numbers ++ (replicate i 0 ++ rest)) e

  past : drop sheet_size table ≡ rest
  past =
      drop_at (take table_size n.table ++ replicate 1920 0) rest sheet_size
      (ap (λ (t : List ℕ). length (t ++ replicate 1920 0)) front-is
      ∙ simp (length-append, length-replicate) (omega (arith, fit)))

  table_is : rows_table (held n ∷ replicate 7 no_foil) table ≡ table
  unfolding rows_table written joined
  table_is =
      ap₂ (λ (ns t : List ℕ). ns ++ (replicate (sheet_size - length ns) 0 ++ t))
      (ap (λ (ns : List ℕ). numbers ++ ns) (joined-blank 7) ∙ append-nil numbers) past
      ∙ sym all-zeros

  strips-are : (k : ℕ) → row_strips (get_or (held n ∷ replicate 7 no_foil) k no_foil) (cond (eqb k 0) n.strips (ss k))
      ≡ cond (eqb k 0) n.strips (ss k)
  unfolding store row_strips
  strips-are zero = rw (begun (held n) known.kept) (sym known.strips-are)
  strips-are (suc k) = strips-blank (get_or (replicate 7 no_foil) k no_foil) _ (get_d-blank 7 k)

  pub carried-stored : store_sheet (held n ∷ replicate 7 no_foil) (carried_sheet n rest ss) ≡ carried_sheet n rest ss
  unfolding store_sheet
  carried-stored =
      λ i.
      record {
        boards = board-is i ∷ boards-blank 7 i;
        table = table_is i;
        strips = λ (k : ℕ). strips-are k i;
      }

-- ---- and they are long enough

no-strips : (l : Layout) (s : List ℕ) → l ≡ no_foil → blank l ≡ false → strips_size ≤ length s
no-strips l s e b = clash (blank-yes l e) b

unused-holds : (rest : List ℕ) (ss : ℕ → List ℕ) → Holds (unused_sheet rest ss) (replicate sheet_foils no_foil)
unused-holds rest ss =
    record {
      eight = length-replicate sheet_foils no_foil;
      limits = unfold row_counts counts_ok each_few reserved total in refl;
      rows = λ k. inl (get_d-blank sheet_foils k);
      table = simp (length-append, length-replicate) (omega arith);
      strips = λ k. no-strips (get_or (replicate sheet_foils no_foil) k no_foil) (ss k) (get_d-blank sheet_foils k);
    }

-- one foil of no more than 128 entries keeps both limits
pub one-foil : (n : ℕ) → n ≤ max_entries → counts_ok (n ∷ replicate 7 0) ≡ true
unfolding counts_ok each_few reserved total
one-foil n h =
    and_i (and_i (le-leb n max_entries h) refl) (le-leb (reserved (n ∷ replicate 7 0)) sheet_entries (omega arith))

module _ (n : Lent) (rest : List ℕ) (ss : ℕ → List ℕ) (g : sound n ≡ true) where
  abbrev rows : List Layout
  rows = held n ∷ replicate 7 no_foil

  few : length (held n).entries ≤ max_entries
  few = leb-true (length (held n).entries) max_entries (of-ok (held n) (of-sound n g).kept).long

  limits-kept : counts_ok (row_counts rows) ≡ true
  unfolding row_counts
  limits-kept = one-foil (length (held n).entries) few

  each_row : (k : ℕ) → Row (get_or rows k no_foil)
  each_row zero = inr (of-sound n g).kept
  each_row (suc k) = inl (get_d-blank 7 k)

  each-strips : (k : ℕ) → blank (get_or rows k no_foil) ≡ false
      → strips_size ≤ length (cond (eqb k 0) n.strips (ss k))
  each-strips zero b = (sound-long n g).strips
  each-strips (suc k) b =
      no-strips (get_or (replicate 7 no_foil) k no_foil) (cond (eqb (suc k) 0) n.strips (ss (suc k))) (get_d-blank 7 k) b

  carried-holds : Holds (carried_sheet n rest ss) rows
  carried-holds =
      record {
        eight = ap suc (length-replicate 7 no_foil);
        limits = limits-kept;
        rows = each_row;
        table =
            let t = length-take table_size n.table in
            let l = (sound-long n g).table in
            simp (length-append, length-replicate) (omega arith);
        strips = each-strips;
      }

-- a sheet that a list of calls starts from
pub starts-holds : (m : Sheet) (ls : List Layout) → Starts m ls → (store_sheet ls m ≡ m) × Holds m ls
starts-holds _ _ (unused rest ss) = (unused-stored rest ss, unused-holds rest ss)
starts-holds _ _ (carried_over r o m ns rest ss e) =
    let n : Lent = (step_on r (carry o) m).state in
    let (g, is) = carried-lists r o m ns e in
    subst
    (λ (l : Layout).
    (store_sheet (l ∷ replicate 7 no_foil) (carried_sheet n rest ss) ≡ carried_sheet n rest ss)
    × Holds (carried_sheet n rest ss) (l ∷ replicate 7 no_foil))
    is (carried-stored n rest ss g, carried-holds n rest ss g)
