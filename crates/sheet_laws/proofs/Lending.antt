-- One call of a list on a sheet goes as on the ledger, on whole lists or front parts.
use Prim.Native.Nat.{ℕ, ◌/◌, ◌≤◌, ◌<◌}
use native.Mathlib.Omega.{arith}
use native.Mathlib.Decide.{ℕ_discrete}
use mathlib.Core.Path.{◌≡◌, refl, sym, ap, ap₂, ◌∙◌, subst, fun_ext}
use mathlib.Core.Bool.{Bool, true, false, cond}
use mathlib.Core.List.{List, ◌++◌, map}
use mathlib.Core.Logic.{by_cases}
use mathlib.Core.Option.{Option, none, some}
use lib.Dec.{ltb, eqb}
use borrow.Author.Tests.{ltb-false, eq-eqb, ne_eqb, eqb-true}
use lib.ListN.{length, get_or, set, take, drop, length-take, length-set, take-append-drop}
use lib.Seq.{get_or-set_same, get_or-set_other}
use Rattle.foil_spec.specs.Lists.{each}
use Rattle.foil_spec.specs.Limits.{max_entries, max_strips, strips_size, sheet_foils, sheet_entries, sheet_size}
use Rattle.foil_spec.specs.Foil.{Layout, no_foil}
use Rattle.foil_spec.specs.Ledger.{strips_of, Room, short, refused, After}
use Rattle.foil_spec.specs.Lent.{strip_numbers, board_of}
use Rattle.foil_spec.specs.Calls.{Reply, answered}
use Rattle.foil_spec.specs.Sheet.{counts_ok, limit_of, SheetLent, counts, joined, sheet_room, sheet_refusal, unless}
use Rattle.foil_spec.specs.Sheet.{sheet_call, blank, row_call, sheet_ledger_call, row_counts, Sheet, row_numbers, row_strips}
use Rattle.foil_spec.specs.Sheet.{rows_table, store_sheet, SheetLending, sheet_front, sheet_back, room_on, called_on}
use Rattle.foil_spec.specs.Sheet.{lend_sheet, told_sheet}
use Rattle.foil_spec.proofs.Written.{length-written, take-written, written_back, drop_past}
use Rattle.list_laws.proofs.Tests.{both, clash, parts}
use Rattle.ledger_laws.proofs.Stored.{strips-fit}
use Rattle.ledger_laws.proofs.Replies.{shown_by}
use Rattle.sheet_laws.proofs.Rows.{Row, row_ok, rows_lent, counts-rows, rows_fit}
use Rattle.sheet_laws.proofs.Called.{Fits, call_fits, own-fits, set-ok, passed, call-row}

-- ---- the strip list of a row

module _ (l : Layout) (s : List ℕ) (g : Row l) where
  -- that of a foil that is begun is long
  abbrev LongStrips : Type 0
  LongStrips = blank l ≡ false → strips_size ≤ length s

  numbers_fit : blank l ≡ false → length (each strip_numbers (strips_of l)) ≤ strips_size
  numbers_fit b = strips-fit l (row_ok l g b)

  length-row : LongStrips → length (row_strips l s) ≡ length s
  unfolding row_strips
  length-row long =
      both (blank l)
      (λ b. rw b refl)
      (λ b. rw b (length-written strips_size (each strip_numbers (strips_of l)) s (numbers_fit b) (long b)))

  module _ (n : ℕ) (h : strips_size ≤ n) where
    take_row : take n (row_strips l s) ≡ row_strips l (take n s)
    unfolding row_strips
    take_row =
        both (blank l)
        (λ b. rw b refl)
        (λ b. rw b (take-written strips_size (each strip_numbers (strips_of l)) s (numbers_fit b) n h))

    drop-row : drop n (row_strips l s) ≡ drop n s
    unfolding row_strips
    drop-row =
        both (blank l)
        (λ b. rw b refl)
        (λ b. rw b (drop_past strips_size (each strip_numbers (strips_of l)) s (numbers_fit b) n h))

    back-row : row_strips l (take n s) ++ drop n s ≡ row_strips l s
    unfolding row_strips
    back-row =
        both (blank l)
        (λ b. rw b (take-append-drop n s))
        (λ b. rw b (written_back strips_size (each strip_numbers (strips_of l)) s (numbers_fit b) n h))

-- ---- a sheet that holds rows

-- the rows of eight foils, each not begun or keeping the rules, within both limits, and the lists that they are held in
-- are long enough
pub record Holds (m : Sheet) (ls : List Layout) : Type 0 where
  pub eight : length ls ≡ sheet_foils
  pub limits : counts_ok (row_counts ls) ≡ true
  pub rows : (k : ℕ) → Row (get_or ls k no_foil)
  pub table : sheet_size ≤ length m.table
  pub strips : (k : ℕ) → blank (get_or ls k no_foil) ≡ false → strips_size ≤ length (m.strips k)

-- ---- front parts

-- what is lent is long enough
pub record LongFront (c : SheetLending) (m : Sheet) : Type 0 where
  pub table : sheet_size ≤ c.table_front
  pub strips : strips_size ≤ c.strip_front
  pub strips-long : strips_size ≤ length (m.strips c.foil)

pub table-long : (n : ℕ) → ltb (cond (ltb (n / 5) sheet_entries) 0 max_entries) max_entries ≡ false → sheet_size ≤ n
table-long n h =
    both (ltb (n / 5) sheet_entries)
    (λ t. clash (ap (λ (b : Bool). ltb (cond b 0 max_entries) max_entries) t) h)
    (λ t. omega (arith, ltb-false (n / 5) sheet_entries t))

pub long-front : (c : SheetLending) (ns : List ℕ) (m : Sheet) → short (room_on c ns m) ≡ false → LongFront c m
unfolding short room_on sheet_room sheet_front
long-front c ns m e =
    let t : List ℕ = take c.table_front m.table in
    let s : List ℕ = take c.strip_front (m.strips c.foil) in
    let a : ltb (cond (ltb (length t / 5) sheet_entries) 0 max_entries) max_entries ≡ false = search parts in
    let b : ltb (length s / 4) max_strips ≡ false = search parts in
    let lt = table-long (length t) a in
    let ls = ltb-false (length s / 4) max_strips b in
    let nt = length-take c.table_front m.table in
    let ns = length-take c.strip_front (m.strips c.foil) in
    record { table = omega arith; strips = omega arith; strips-long = omega arith }

pub back-front : (c : SheetLending) (m : Sheet) → sheet_back c m (sheet_front c m) ≡ m
unfolding sheet_back sheet_front
back-front c m =
    ap₂ {A = List ℕ} {B = ℕ → List ℕ} (λ t ss. record { boards = m.boards; table = t; strips = ss })
    (take-append-drop c.table_front m.table)
    (fun_ext
    (λ k.
    both (eqb k c.foil)
    (λ e. rw (e, ← (eqb-true k c.foil e)) (take-append-drop c.strip_front (m.strips k)))
    (λ e. rw e refl)))

-- ---- one call of the list

module _ (c : SheetLending) (m : Sheet) (ls : List Layout) (h : Holds m ls) where
  abbrev k : ℕ
  k = c.foil

  abbrev r : Room
  r = room_on c (row_counts ls) m

  stored-counts : counts (store_sheet ls m).boards ≡ row_counts ls
  unfolding store_sheet
  stored-counts = counts-rows ls

  front-counts : counts (sheet_front c (store_sheet ls m)).boards ≡ row_counts ls
  unfolding store_sheet sheet_front
  front-counts = counts-rows ls

  as_long : room_on c (row_counts ls) (store_sheet ls m) ≡ r
  unfolding room_on sheet_room sheet_front store_sheet rows_table
  as_long =
      simp (
        length-take,
        length-written sheet_size (joined (map row_numbers ls)) m.table (rows_fit ls h.limits) h.table,
        length-row (get_or ls k no_foil) (m.strips k) (h.rows k) (h.strips k),
      )

  room-same : room_on c (counts (store_sheet ls m).boards) (store_sheet ls m) ≡ r
  room-same = ap (λ (ns : List ℕ). room_on c ns (store_sheet ls m)) stored-counts ∙ as_long

  -- refused before the foil is looked at
  called-refused : (n : ℕ) → sheet_refusal r false k c.call ≡ some n
      → called_on c (store_sheet ls m) ≡ record { answer = answered (refused n); state = sheet_front c (store_sheet ls m) }
  unfolding called_on sheet_call unless
  called-refused n e = rw (room-same, front-counts, h.limits, e) refl

  told-refused : (n : ℕ) → sheet_refusal r false k c.call ≡ some n
      → told_sheet m c ls ≡ record { answer = answered (refused n); state = ls }
  unfolding told_sheet sheet_ledger_call unless
  told-refused n e = rw e refl

  lend-refused : (n : ℕ) → sheet_refusal r false k c.call ≡ some n
      → lend_sheet c (store_sheet ls m) ≡ shown_by (λ xs. store_sheet xs m) (told_sheet m c ls)
  unfolding lend_sheet shown_by
  lend-refused n e =
      rw (called-refused n e, told-refused n e)
      (ap {A = Sheet} {B = After Reply Sheet} (λ x. record { answer = answered (refused n); state = x })
      (back-front c (store_sheet ls m)))

  module _ (f : LongFront c m) where
    abbrev l : Layout
    l = get_or ls k no_foil

    front-rows : sheet_front c (store_sheet ls m) ≡ rows_lent k ls (sheet_front c m)
    unfolding sheet_front store_sheet rows_lent rows_table
    front-rows =
        ap₂ {A = List ℕ} {B = List ℕ} (λ t s. record { boards = map board_of ls; table = t; strips = s })
        (take-written sheet_size (joined (map row_numbers ls)) m.table (rows_fit ls h.limits)
        c.table_front f.table)
        (take_row l (m.strips k) (h.rows k) c.strip_front f.strips)

    -- another row of the foil comes back to the whole sheet
    module _ (x : Layout) (g : Row x) (ok : counts_ok (row_counts (set ls k x)) ≡ true) (here : k < length ls) where
      abbrev xs : List Layout
      xs = set ls k x

      own-strips : row_strips (get_or xs k no_foil) (take c.strip_front (m.strips k))
          ++ drop c.strip_front (row_strips l (m.strips k))
          ≡ row_strips (get_or xs k no_foil) (m.strips k)
      own-strips =
          let e = get_or-set_same ls k x no_foil here in
          rw e
          (ap (λ (t : List ℕ). row_strips x (take c.strip_front (m.strips k)) ++ t)
          (drop-row l (m.strips k) (h.rows k) c.strip_front f.strips)
          ∙ back-row x (m.strips k) g c.strip_front f.strips)

      strips-back : (j : ℕ)
          → cond (eqb j k)
          (row_strips (get_or xs k no_foil) (take c.strip_front (m.strips k))
          ++ drop c.strip_front (row_strips (get_or ls j no_foil) (m.strips j)))
          (row_strips (get_or ls j no_foil) (m.strips j))
          ≡ row_strips (get_or xs j no_foil) (m.strips j)
      strips-back j =
          by_cases (ℕ_discrete j k)
          (λ e. rw (eq-eqb j k e, e) own-strips)
          (λ ne.
          rw (ne_eqb j k ne)
          (ap (λ (y : Layout). row_strips y (m.strips j)) (sym (get_or-set_other ls k j x no_foil ne))))

      back-rows : sheet_back c (store_sheet ls m) (rows_lent k xs (sheet_front c m)) ≡ store_sheet xs m
      unfolding sheet_back sheet_front store_sheet rows_lent rows_table
      back-rows =
          ap₂ {A = List ℕ} {B = ℕ → List ℕ} (λ t ss. record { boards = map board_of xs; table = t; strips = ss })
          (ap (λ (t : List ℕ). rows_table xs (take c.table_front m.table) ++ t)
          (drop_past sheet_size (joined (map row_numbers ls)) m.table (rows_fit ls h.limits)
          c.table_front f.table)
          ∙ written_back sheet_size (joined (map row_numbers xs)) m.table (rows_fit xs ok) c.table_front
          f.table)
          (fun_ext strips-back)

  limit_is : r.limit ≡ limit_of (row_counts ls) k
  unfolding room_on sheet_room
  limit_is = refl

  -- not refused so, it leaves another row of the foil
  module _ (e : sheet_refusal r false k c.call ≡ none) where
    abbrev x : Layout
    x = (row_call r c.call (get_or ls k no_foil)).state

    here : k < length ls
    here = omega (arith, (passed r false k c.call e).here, h.eight)

    long : LongFront c m
    long = long-front c (row_counts ls) m (passed r false k c.call e).long

    row_fits : Fits r x
    row_fits =
        call_fits r c.call (get_or ls k no_foil)
        (own-fits k (sheet_front c m) r ls here h.limits limit_is (h.rows k))

    row-limits : counts_ok (row_counts (set ls k x)) ≡ true
    row-limits = set-ok k (sheet_front c m) r ls here h.limits limit_is x row_fits

    told-row : told_sheet m c ls
        ≡ record { answer = (row_call r c.call (get_or ls k no_foil)).answer; state = set ls k x }
    unfolding told_sheet sheet_ledger_call unless
    told-row = rw e refl

    called-row : called_on c (store_sheet ls m)
        ≡ shown_by (λ xs. rows_lent k xs (sheet_front c m)) (told_sheet m c ls)
    unfolding called_on told_sheet
    called-row =
        ap₂ (λ (q : Room) (y : SheetLent). sheet_call q k c.call y) room-same (front-rows long)
        ∙ call-row k (sheet_front c m) r c.call ls h.eight h.limits (h.rows k) limit_is

    lend-row : lend_sheet c (store_sheet ls m) ≡ shown_by (λ xs. store_sheet xs m) (told_sheet m c ls)
    unfolding lend_sheet shown_by
    lend-row =
        rw (called-row, told-row)
        (ap {A = Sheet} {B = After Reply Sheet}
        (λ y. record { answer = (row_call r c.call (get_or ls k no_foil)).answer; state = y })
        (back-rows long x row_fits.row row-limits here))

    rows-kept : (j : ℕ) → Row (get_or (set ls k x) j no_foil)
    rows-kept j =
        by_cases (ℕ_discrete j k)
        (λ q. subst (λ (i : ℕ). Row (get_or (set ls k x) i no_foil)) (sym q)
        (subst Row (sym (get_or-set_same ls k x no_foil here)) row_fits.row))
        (λ ne. subst Row (sym (get_or-set_other ls k j x no_foil ne)) (h.rows j))

    strips-kept : (j : ℕ) → blank (get_or (set ls k x) j no_foil) ≡ false → strips_size ≤ length (m.strips j)
    strips-kept j b =
        by_cases (ℕ_discrete j k)
        (λ q. subst (λ (i : ℕ). strips_size ≤ length (m.strips i)) (sym q) long.strips-long)
        (λ ne. h.strips j (subst (λ (y : Layout). blank y ≡ false) (get_or-set_other ls k j x no_foil ne) b))

    row_kept : Holds m (set ls k x)
    row_kept =
        record {
          eight = length-set ls k x ∙ h.eight;
          limits = row-limits;
          rows = rows-kept;
          table = h.table;
          strips = strips-kept;
        }

  by-refusal : (o : Option ℕ) → sheet_refusal r false k c.call ≡ o
      → (lend_sheet c (store_sheet ls m) ≡ shown_by (λ xs. store_sheet xs m) (told_sheet m c ls))
      × Holds m (told_sheet m c ls).state
  by-refusal (some n) e = (lend-refused n e, rw (told-refused n e) h)
  by-refusal none e = (lend-row e, rw (told-row e) (row_kept e))

  -- a call on a sheet that holds rows goes as on the ledger, and the sheet holds the rows after it
  pub lend-is : lend_sheet c (store_sheet ls m) ≡ shown_by (λ xs. store_sheet xs m) (told_sheet m c ls)
  lend-is = (by-refusal (sheet_refusal r false k c.call) refl).0

  pub lend-kept : Holds m (told_sheet m c ls).state
  lend-kept = (by-refusal (sheet_refusal r false k c.call) refl).1
