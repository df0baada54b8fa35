-- A foil of a sheet that holds rows, seen as a foil of its own and put back.
use Prim.Native.Nat.{ℕ, zero, suc, ◌-◌, ◌*◌, ◌≤◌, ◌<◌}
use native.Mathlib.Omega.{arith}
use mathlib.Core.Path.{◌≡◌, refl, sym, ap, ap₂, ◌∙◌, subst}
use mathlib.Core.Bool.{true, false, not}
use mathlib.Core.List.{List, [], ◌∷◌, ◌++◌, map}
use mathlib.Core.Logic.{◌⊎◌, inl, inr}
use lib.Dec.{leb, eqb}
use borrow.Author.Tests.{leb-true, ne_eqb}
use lib.ListN.{length, get_or, set, take, drop, replicate, length-map, get_or-map}
use lib.Seq.{take_at, get_or-set_same}
use Rattle.foil_spec.specs.Lists.{each}
use Rattle.foil_spec.specs.Limits.{table_size, strips_size, sheet_size}
use Rattle.foil_spec.specs.Foil.{entry_numbers, size_ok, Layout, no_foil}
use Rattle.foil_spec.specs.Strips.{strips_from}
use Rattle.foil_spec.specs.Sound.{keeps_asked}
use Rattle.foil_spec.specs.Ledger.{strips_of}
use Rattle.foil_spec.specs.Lent.{Lent, lent, strip_numbers, written, board_of, store, held, layout_ok, sound}
use Rattle.foil_spec.specs.Sheet.{counts_ok, SheetLent, no_board, counts, parts, joined, table_at, view, put_back, blank}
use Rattle.foil_spec.specs.Sheet.{row_counts, row_numbers, row_strips, rows_table}
use Rattle.foil_spec.specs.declared.Board.{Board}
use Rattle.foil_spec.proofs.Written.{written-again}
use Rattle.list_laws.proofs.Tests.{clash, and_l}
use Rattle.ledger_laws.proofs.Stored.{length-entries, entries_fit, strips-fit, held-store, sound-held}
use Rattle.ledger_laws.proofs.Stored.{sound-store}
use Rattle.ledger_laws.proofs.Rules.{of-ok}
use Rattle.sheet_laws.proofs.Counts.{ok-total}
use Rattle.sheet_laws.proofs.Parts.{Sized, length-joined, parts-written}

-- ---- rows that are begun or not

-- no foil is begun, or one that keeps the rules
abbrev pub Row : Layout → Type 0
Row l = (l ≡ no_foil) ⊎ (layout_ok l ≡ true)

pub begun : (l : Layout) → layout_ok l ≡ true → blank l ≡ false
unfolding blank size_ok
begun l g =
    let h = leb-true 1 l.width (and_l (leb 1 l.width) (leb l.width 4096) (of-ok l g).width) in
    ne_eqb l.width 0 (λ e. omega arith)

pub row_ok : (l : Layout) → Row l → blank l ≡ false → layout_ok l ≡ true
unfolding blank
row_ok l (inl e) h = clash (ap (λ (x : Layout). eqb x.width 0) e) h
row_ok l (inr g) h = g

-- ---- a foil of its own that holds a row; s was lent for its strips

unfoldable pub alone : Layout → List ℕ → Lent
alone l s = lent (board_of l) (written table_size (row_numbers l) []) (row_strips l s)

-- nothing but the strip list is lent
abbrev pub bare : List ℕ → Lent
bare s = lent no_board [] s

pub alone-stored : (l : Layout) (s : List ℕ) → blank l ≡ false → alone l s ≡ store l (bare s)
unfolding alone store row_numbers row_strips
alone-stored l s h = rw h refl

pub held-alone : (l : Layout) (s : List ℕ) → held (alone l s) ≡ l
unfolding alone row_numbers held store
held-alone l s = held-store l (bare s)

pub sound-alone : (l : Layout) (s : List ℕ) → Row l → sound (alone l s) ≡ not (blank l)
unfolding layout_ok keeps_asked size_ok blank
sound-alone l s (inl e) = sound-held (alone l s) ∙ rw (held-alone l s, e) refl
sound-alone l s (inr g) = ap sound (alone-stored l s (begun l g)) ∙ sound-store l (bare s) g ∙ ap not (sym (begun l g))

row_fits : (l : Layout) → Row l → length (row_numbers l) ≤ table_size
unfolding row_numbers
row_fits l (inl e) = subst (λ (x : Layout). length (each entry_numbers x.entries) ≤ table_size) (sym e) (omega arith)
row_fits l (inr g) = entries_fit l g

strips-again : (l l' : Layout) (s : List ℕ) → Row l
    → written strips_size (each strip_numbers (strips_of l')) (row_strips l s)
    ≡ written strips_size (each strip_numbers (strips_of l')) s
unfolding row_strips blank
strips-again l l' s (inl e) = rw e refl
strips-again l l' s (inr g) =
    rw (begun l g)
    (written-again strips_size (each strip_numbers (strips_of l)) s (strips-fit l g) (each strip_numbers (strips_of l')))

-- what it held makes no difference to what is stored in it
pub stored-anew : (l l' : Layout) (s : List ℕ) → Row l → store l' (alone l s) ≡ store l' (bare s)
unfolding store alone row_numbers
stored-anew l l' s g =
    ap₂ (lent (board_of l'))
    (written-again table_size (row_numbers l) [] (row_fits l g) (row_numbers l'))
    (strips-again l l' s g)

-- ---- a sheet that holds rows, as it is lent to a call on foil k

unfoldable pub rows_lent : ℕ → List Layout → SheetLent → SheetLent
rows_lent k ls m =
    record {
      boards = map board_of ls;
      table = rows_table ls m.table;
      strips = row_strips (get_or ls k no_foil) m.strips;
    }

pub map-set : {A B : Type 0} (f : A → B) (xs : List A) (k : ℕ) (x : A) → map f (set xs k x) ≡ set (map f xs) k (f x)
map-set f [] k x = refl
map-set f (y ∷ xs) zero x = refl
map-set {A} {B} f (y ∷ xs) (suc k) x = ap (λ (zs : List B). f y ∷ zs) (map-set f xs k x)

pub counts-rows : (ls : List Layout) → counts (map board_of ls) ≡ row_counts ls
unfolding counts row_counts board_of
counts-rows [] = refl
counts-rows (l ∷ ls) = ap (λ (ns : List ℕ). length l.entries ∷ ns) (counts-rows ls)

pub counts-set : (ls : List Layout) (k : ℕ) (l : Layout)
    → row_counts (set ls k l) ≡ set (row_counts ls) k (length l.entries)
unfolding row_counts
counts-set ls k l = map-set (λ (x : Layout). length x.entries) ls k l

pub count_at : (ls : List Layout) (k : ℕ) → get_or (row_counts ls) k 0 ≡ length (get_or ls k no_foil).entries
unfolding row_counts
count_at ls k = get_or-map (λ (x : Layout). length x.entries) ls k no_foil

pub length-counts : (ls : List Layout) → length (row_counts ls) ≡ length ls
unfolding row_counts
length-counts ls = length-map ls (λ (x : Layout). length x.entries)

sized_rows : (ls : List Layout) → Sized (row_counts ls) (map row_numbers ls)
unfolding row_counts row_numbers
sized_rows [] = tt
sized_rows (l ∷ ls) = (length-entries l.entries, sized_rows ls)

-- the rows fit the table where they keep both limits
pub rows_fit : (ls : List Layout) → counts_ok (row_counts ls) ≡ true → length (joined (map row_numbers ls)) ≤ sheet_size
rows_fit ls ok =
    omega (arith, length-joined (row_counts ls) (map row_numbers ls) (sized_rows ls), ok-total (row_counts ls) ok)

pub no-board : board_of no_foil ≡ no_board
unfolding board_of strips_of strips_from
no-board = refl

rows-parts : (ls : List Layout) (t : List ℕ) → parts (counts (map board_of ls)) (rows_table ls t) ≡ map row_numbers ls
unfolding rows_table
rows-parts ls t =
    ap (λ (ns : List ℕ). parts ns (written sheet_size (joined (map row_numbers ls)) t)) (counts-rows ls)
    ∙ parts-written (row_counts ls) (map row_numbers ls) sheet_size t (sized_rows ls)

row-part : (ls : List Layout) (k : ℕ) → get_or (map row_numbers ls) k [] ≡ row_numbers (get_or ls k no_foil)
unfolding row_numbers
row-part ls k = get_or-map row_numbers ls k no_foil

-- foil k alone holds its row
pub view-row : (ls : List Layout) (k : ℕ) (m : SheetLent)
    → view k (rows_lent k ls m) ≡ alone (get_or ls k no_foil) m.strips
unfolding view table_at rows_lent alone
view-row ls k m =
    ap₂ (λ (b : Board) (t : List ℕ). lent b (written table_size t []) (row_strips (get_or ls k no_foil) m.strips))
    (ap (get_or (map board_of ls) k) (sym no-board) ∙ get_or-map board_of ls k no_foil)
    (ap (λ (ps : List (List ℕ)). get_or ps k []) (rows-parts ls m.table) ∙ row-part ls k)

pub front-row : (l : Layout) → take (5 * length l.entries) (written table_size (row_numbers l) []) ≡ row_numbers l
unfolding written row_numbers
front-row l =
    take_at (row_numbers l) (replicate (table_size - length (row_numbers l)) 0 ++ drop table_size [])
    (5 * length l.entries) (length-entries l.entries)

table-back : (ls : List Layout) (k : ℕ) (l : Layout) (t : List ℕ) → counts_ok (row_counts ls) ≡ true
    → written sheet_size
    (joined (set (parts (counts (map board_of ls)) (rows_table ls t)) k
    (take (5 * length l.entries) (written table_size (row_numbers l) []))))
    (rows_table ls t)
    ≡ rows_table (set ls k l) t
unfolding rows_table
table-back ls k l t ok =
    ap₂ (λ (ps : List (List ℕ)) (p : List ℕ). written sheet_size (joined (set ps k p)) (rows_table ls t))
    (rows-parts ls t) (front-row l)
    ∙ ap (λ (ps : List (List ℕ)). written sheet_size (joined ps) (rows_table ls t)) (sym (map-set row_numbers ls k l))
    ∙ written-again sheet_size (joined (map row_numbers ls)) t (rows_fit ls ok) (joined (map row_numbers (set ls k l)))

-- a foil that is put back with another row takes the place of its row, and no other row changes
pub put-row : (ls : List Layout) (k : ℕ) (l : Layout) (m : SheetLent) → k < length ls → counts_ok (row_counts ls) ≡ true
    → blank l ≡ false → put_back k (rows_lent k ls m) (store l (bare m.strips)) ≡ rows_lent k (set ls k l) m
unfolding put_back rows_lent store board_of row_numbers row_strips
put-row ls k l m h ok b =
    rw (get_or-set_same ls k l no_foil h, b)
    (ap₂
    (λ (bs : List Board) (t : List ℕ).
    record { boards = bs; table = t; strips = written strips_size (each strip_numbers (strips_of l)) m.strips })
    (sym (map-set board_of ls k l)) (table-back ls k l m.table ok))
