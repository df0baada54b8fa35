-- What is lent after a layout is stored in it: it reads back, it is sound, and a front part of it goes the same way.
use Prim.Native.Nat.{ℕ, suc, ◌+◌, ◌-◌, ◌*◌, ◌≤◌}
use native.Mathlib.Omega.{arith}
use mathlib.Core.Path.{◌≡◌, refl, ap, ap₂, ◌∙◌, fun_ext}
use mathlib.Core.Bool.{true, ◌&&◌}
use mathlib.Core.List.{List, [], ◌∷◌, ◌++◌, map, append_assoc}
use lib.Dec.{eqb}
use borrow.Author.Tests.{eq-eqb, leb-true, ltb-false}
use lib.ListN.{length, drop, replicate}
use Rattle.foil_spec.specs.Lists.{range, each}
use Rattle.foil_spec.specs.Limits.{max_entries, table_size, max_strips, strips_size}
use Rattle.foil_spec.specs.Foil.{Point, Entry, entry_numbers, Layout, free}
use Rattle.foil_spec.specs.Strips.{Strip}
use Rattle.foil_spec.specs.Sound.{today, strips_by, listed_in, sound_by}
use Rattle.foil_spec.specs.Ledger.{strips_of, with_entries, is_too_fine}
use Rattle.foil_spec.specs.Corners.{point_numbers}
use Rattle.foil_spec.specs.Lent.{Lent, lent, strip_numbers, written, board_of, store}
use Rattle.foil_spec.specs.Lent.{entry_at, layout_of, held, layout_ok, same_numbers, sound}
use Rattle.foil_spec.specs.Sequence.{Lending, front, back}
use Rattle.foil_spec.proofs.Written.{written-again, take-written, written_back, drop_past}
use Rattle.list_laws.proofs.Members.{map-later}
use Rattle.ledger_laws.proofs.Rules.{of-ok}

-- ---- how long the flat lists are

-- lists that are long enough
pub record Long (m : Lent) : Type 0 where
  pub table : table_size ≤ length m.table
  pub strips : strips_size ≤ length m.strips

pub length-entries : (es : List Entry) → length (each entry_numbers es) ≡ 5 * length es
unfolding entry_numbers
length-entries [] = refl
length-entries (e ∷ es) = omega (arith, length-entries es)

pub length-strips : (ss : List Strip) → length (each strip_numbers ss) ≡ 4 * length ss
unfolding strip_numbers
length-strips [] = refl
length-strips (s ∷ ss) = omega (arith, length-strips ss)

pub length-points : (ps : List Point) → length (each point_numbers ps) ≡ 2 * length ps
unfolding point_numbers
length-points [] = refl
length-points (p ∷ ps) = omega (arith, length-points ps)

-- the entries and the strips of a layout that keeps the rules fit their lists
pub entries_fit : (l : Layout) → layout_ok l ≡ true → length (each entry_numbers l.entries) ≤ table_size
entries_fit l g =
    omega (arith, length-entries l.entries, leb-true (length l.entries) max_entries (of-ok l g).long)

pub strips-fit : (l : Layout) → layout_ok l ≡ true → length (each strip_numbers (strips_of l)) ≤ strips_size
unfolding is_too_fine
strips-fit l g =
    omega (arith, length-strips (strips_of l), ltb-false max_strips (length (strips_of l)) (of-ok l g).fine)

-- ---- reading back

entry-later : (e : Entry) (t : List ℕ) (k : ℕ) → entry_at (entry_numbers e ++ t) (suc k) ≡ entry_at t k
unfolding entry_at entry_numbers
entry-later e t k =
    let a : suc k * 5 ≡ suc (suc (suc (suc (suc (k * 5))))) = omega arith in
    let b : (j : ℕ) → suc k * 5 + j ≡ suc (suc (suc (suc (suc (k * 5 + j))))) = λ j. omega arith in
    rw (b 1, b 2, b 3, b 4, a) refl

entry_here : (e : Entry) (t : List ℕ) → entry_at (entry_numbers e ++ t) 0 ≡ e
unfolding entry_at entry_numbers
entry_here e t = refl

pub read_back : (es : List Entry) (rest : List ℕ)
    → map (entry_at (each entry_numbers es ++ rest)) (range 0 (length es)) ≡ es
read_back [] rest = refl
read_back (e ∷ es) rest =
    let t : List ℕ = each entry_numbers es ++ rest in
    ap (λ (u : List ℕ). map (entry_at u) (range 0 (suc (length es))))
    (append_assoc (entry_numbers e) (each entry_numbers es) rest)
    ∙ ap₂ {A = Entry} {B = List Entry} {C = List Entry} (λ a b. a ∷ b) (entry_here e t)
    (map-later (entry_at (entry_numbers e ++ t)) 0 (length es)
    ∙ ap (λ (g : ℕ → Entry). map g (range 0 (length es))) (fun_ext (λ k. entry-later e t k))
    ∙ read_back es rest)

pub held-store : (l : Layout) (m : Lent) → held (store l m) ≡ l
unfolding held store board_of layout_of written
held-store l m =
    ap (with_entries l)
    (read_back l.entries
    (replicate (table_size - length (each entry_numbers l.entries)) 0 ++ drop table_size m.table))

pub same_refl : (l : List ℕ) → same_numbers l l ≡ true
unfolding same_numbers
same_refl [] = refl
same_refl (x ∷ l) = rw (eq-eqb x x refl) (same_refl l)

-- ---- storing again, and in front parts

pub store-again : (l l' : Layout) (m : Lent) → layout_ok l ≡ true → store l' (store l m) ≡ store l' m
unfolding store
store-again l l' m g =
    ap₂ (lent (board_of l'))
    (written-again table_size (each entry_numbers l.entries) m.table (entries_fit l g)
    (each entry_numbers l'.entries))
    (written-again strips_size (each strip_numbers (strips_of l)) m.strips (strips-fit l g)
    (each strip_numbers (strips_of l')))

-- 13 in words of the layout that is held
pub sound-held : (m : Lent)
    → sound m
    ≡ (layout_ok (held m)
    && (eqb m.board.strips (store (held m) m).board.strips
    && same_numbers m.table (store (held m) m).table && same_numbers m.strips (store (held m) m).strips))
unfolding sound sound_by listed_in layout_ok held layout_of store board_of today strips_of strips_by free
sound-held m = refl

-- 13 does not apply to what a layout that keeps the rules is stored in
pub sound-store : (l : Layout) (m : Lent) → layout_ok l ≡ true → sound (store l m) ≡ true
sound-store l m g =
    sound-held (store l m)
    ∙ rw (
      held-store l m,
      store-again l l m g,
      g,
      eq-eqb (store l m).board.strips (store l m).board.strips refl,
      same_refl (store l m).table,
      same_refl (store l m).strips,
    ) refl

module _ (c : Lending) (m : Lent) (ht : table_size ≤ c.table_front) (hs : strips_size ≤ c.strip_front) where
  pub front-store : (l : Layout) → layout_ok l ≡ true → front c (store l m) ≡ store l (front c m)
  unfolding front store
  front-store l g =
      ap₂ (lent (board_of l))
      (take-written table_size (each entry_numbers l.entries) m.table (entries_fit l g) c.table_front ht)
      (take-written strips_size (each strip_numbers (strips_of l)) m.strips (strips-fit l g) c.strip_front hs)

  -- what was lent comes back, written, to lists that hold anything
  pub back-new : (l : Layout) → layout_ok l ≡ true → back c m (store l (front c m)) ≡ store l m
  unfolding front store back
  back-new l g =
      ap₂ (lent (board_of l))
      (written_back table_size (each entry_numbers l.entries) m.table (entries_fit l g) c.table_front ht)
      (written_back strips_size (each strip_numbers (strips_of l)) m.strips (strips-fit l g) c.strip_front hs)

  -- and to lists that hold a layout
  pub back-store : (l l' : Layout) → layout_ok l ≡ true → layout_ok l' ≡ true
      → back c (store l m) (store l' (front c m)) ≡ store l' m
  unfolding store back
  back-store l l' g g' =
      ap₂ (lent (board_of l'))
      (ap (λ (t : List ℕ). (store l' (front c m)).table ++ t)
      (drop_past table_size (each entry_numbers l.entries) m.table (entries_fit l g) c.table_front ht))
      (ap (λ (t : List ℕ). (store l' (front c m)).strips ++ t)
      (drop_past strips_size (each strip_numbers (strips_of l)) m.strips (strips-fit l g) c.strip_front hs))
      ∙ back-new l' g'
