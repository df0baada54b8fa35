-- What 13 asks of the record and the lists, number by number.
use Prim.Native.Nat.{ℕ, zero, suc, ◌+◌, ◌-◌, ◌*◌, ◌≤◌, ◌<◌}
use native.Mathlib.Omega.{arith}
use mathlib.Core.Path.{◌≡◌, refl, sym, ap, ap₂, ◌∙◌, subst}
use mathlib.Core.Bool.{true}
use mathlib.Core.List.{List, [], ◌∷◌, ◌++◌, map, append_assoc}
use lib.Dec.{eqb}
use borrow.Author.Tests.{eqb-true, eq-eqb, leb-true, ltb-false}
use lib.ListN.{length, get_or, take, drop, replicate, length-map, length-append, length-drop, length-replicate}
use lib.ListN.{get_or-replicate, take-append-drop}
use lib.Seq.{ext_get_or, take-add, drop-drop, get_or-take, get_or-drop, length-take-le, take_at}
use Rattle.foil_spec.specs.Lists.{range, each}
use Rattle.foil_spec.specs.Limits.{max_entries, table_size, max_strips, strips_size}
use Rattle.foil_spec.specs.Foil.{Entry, entry_numbers, free}
use Rattle.foil_spec.specs.Strips.{Strip}
use Rattle.foil_spec.specs.Sound.{Asked, today, strips_by, keeps_asked, listed_in, sound_by}
use Rattle.foil_spec.specs.Ledger.{strips_of}
use Rattle.foil_spec.specs.Lent.{Lent, lent, strip_numbers, written, board_of, store, entry_at, layout_of, pen_in, held}
use Rattle.foil_spec.specs.Lent.{layout_ok, same_numbers, sound, listed_strips}
use Rattle.foil_spec.specs.declared.Board.{Board}
use Rattle.list_laws.proofs.Tests.{clash, and_l, and_r, parts}
use Rattle.list_laws.proofs.Members.{length-range}
use Rattle.strip_laws.proofs.Listed.{listed-written}
use Rattle.ledger_laws.proofs.Stored.{Long, same_refl, length-entries, length-strips}
use Rattle.ledger_laws.proofs.Rules.{of-asked}

same-is : (a b : List ℕ) → same_numbers a b ≡ true → a ≡ b
unfolding same_numbers
same-is [] [] h = refl
same-is [] (n ∷ b) h = clash h refl
same-is (m ∷ a) [] h = clash h refl
same-is (m ∷ a) (n ∷ b) h =
    ap₂ {A = ℕ} {B = List ℕ} {C = List ℕ} (λ x l. x ∷ l)
    (eqb-true m n (and_l (eqb m n) (same_numbers a b) h))
    (same-is a b (and_r (eqb m n) (same_numbers a b) h))

-- ---- the entries of a table, and the numbers that they are read from

pub length-read : (t : List ℕ) (n : ℕ) → length (map (entry_at t) (range 0 n)) ≡ n
length-read t n = length-map (range 0 n) (entry_at t) ∙ length-range 0 n

five : (l : List ℕ) → 5 ≤ length l
    → get_or l 0 0 ∷ get_or l 1 0 ∷ get_or l 2 0 ∷ get_or l 3 0 ∷ get_or l 4 0 ∷ [] ≡ take 5 l
five [] h = absurd (omega arith)
five (a ∷ []) h = absurd (omega arith)
five (a ∷ b ∷ []) h = absurd (omega arith)
five (a ∷ b ∷ c ∷ []) h = absurd (omega arith)
five (a ∷ b ∷ c ∷ d ∷ []) h = absurd (omega arith)
five (a ∷ b ∷ c ∷ d ∷ e ∷ l) h = refl

entry_read : (t : List ℕ) (k : ℕ) → k * 5 + 5 ≤ length t → entry_numbers (entry_at t k) ≡ take 5 (drop (k * 5) t)
unfolding entry_numbers entry_at
entry_read t k h =
    let d = length-drop (k * 5) t in
    rw (
      ← (get_or-drop (k * 5) t 1 0),
      ← (get_or-drop (k * 5) t 2 0),
      ← (get_or-drop (k * 5) t 3 0),
      ← (get_or-drop (k * 5) t 4 0),
    )
    (let z : get_or t (k * 5) 0 ≡ get_or (drop (k * 5) t) 0 0 =
    ap (λ (i : ℕ). get_or t i 0) (let e : k * 5 ≡ k * 5 + 0 = omega arith in e) ∙ sym (get_or-drop (k * 5) t 0 0) in
    rw z (five (drop (k * 5) t) (omega arith)))

-- the entries, as numbers again, are the numbers that they were read from
read-from : (t : List ℕ) (a n : ℕ) → (a + n) * 5 ≤ length t
    → each entry_numbers (map (entry_at t) (range a n)) ≡ take (n * 5) (drop (a * 5) t)
read-from t a zero h = refl
read-from t a (suc n) h =
    let e : 5 + n * 5 ≡ suc n * 5 = omega arith in
    let s : a * 5 + 5 ≡ suc a * 5 = omega arith in
    ap₂ (λ (x y : List ℕ). x ++ y) (entry_read t a (omega arith))
    (read-from t (suc a) n (omega arith)
    ∙ ap (λ (k : ℕ). take (n * 5) (drop k t)) (sym s)
    ∙ ap (λ (l : List ℕ). take (n * 5) l) (sym (drop-drop 5 (a * 5) t)))
    ∙ sym (take-add 5 (n * 5) (drop (a * 5) t))
    ∙ ap (λ (k : ℕ). take k (drop (a * 5) t)) e

pub read-numbers : (t : List ℕ) (n : ℕ) → n * 5 ≤ length t
    → each entry_numbers (map (entry_at t) (range 0 n)) ≡ take (n * 5) t
read-numbers t n h = read-from t 0 n (omega arith)

-- ---- lists that are as `written` leaves them

module _ (n : ℕ) (ns l : List ℕ) (fits : length ns ≤ n) where
  -- the first n numbers
  pub front-written : take n (written n ns l) ≡ ns ++ replicate (n - length ns) 0
  unfolding written
  front-written =
      let h : length (ns ++ replicate (n - length ns) 0) ≡ n = simp (length-append, length-replicate) (omega arith) in
      rw (← append_assoc) (take_at (ns ++ replicate (n - length ns) 0) (drop n l) n h)

  -- a list with such a front is as `written` leaves it
  pub is-written : take n l ≡ ns ++ replicate (n - length ns) 0 → l ≡ written n ns l
  unfolding written
  is-written e =
      sym (take-append-drop n l) ∙ ap (λ (x : List ℕ). x ++ drop n l) e
      ∙ append_assoc ns (replicate (n - length ns) 0) (drop n l)

module _ (a n : ℕ) (l : List ℕ) (le : a ≤ n) (long : n ≤ length l) where
  middle : ((k : ℕ) → a ≤ k → k < n → get_or l k 0 ≡ 0) → take (n - a) (drop a l) ≡ replicate (n - a) 0
  middle h =
      let d = length-drop a l in
      let t = length-take-le (n - a) (drop a l) (omega arith) in
      ext_get_or 0 (take (n - a) (drop a l)) (replicate (n - a) 0) (t ∙ sym (length-replicate (n - a) 0))
      (λ i u.
      let v : i < n - a = omega arith in
      get_or-take (n - a) (drop a l) i 0 v ∙ get_or-drop a l i 0 ∙ h (a + i) (omega arith) (omega arith)
      ∙ sym (get_or-replicate (n - a) i 0 0 v))

  -- zeros from place a up to place n
  pub zeros-written : ((k : ℕ) → a ≤ k → k < n → get_or l k 0 ≡ 0) → l ≡ written n (take a l) l
  zeros-written h =
      let t = length-take-le a l (omega arith) in
      let e : a + (n - a) ≡ n = omega arith in
      is-written n (take a l) l (omega arith)
      (ap (λ (k : ℕ). take k l) (sym e) ∙ take-add a (n - a) l
      ∙ ap₂ (λ (x : List ℕ) (k : ℕ). take a l ++ x) (middle h) t
      ∙ ap (λ (k : ℕ). take a l ++ replicate (n - k) 0) (sym t))

-- ---- 13, by what is asked

-- what is known of a record and lists that 13 does not apply to
pub record SoundAs (a : Asked) (W H n count : ℕ) (t s : List ℕ) : Type 0 where
  pub kept : keeps_asked a W H (map (entry_at t) (range 0 n)) ≡ true
  pub few : n ≤ max_entries
  pub counted : count ≡ length (strips_by a.rule W H (map (entry_at t) (range 0 n)))
  pub table_is : t ≡ written table_size (each entry_numbers (map (entry_at t) (range 0 n))) t
  pub strips-are : s
      ≡ written strips_size (each strip_numbers (strips_by a.rule W H (map (entry_at t) (range 0 n)))) s

written-long : (n : ℕ) (ns old : List ℕ) → length ns ≤ n → n ≤ length (written n ns old)
unfolding written
written-long n ns old h = simp (length-append, length-replicate, length-drop) (omega arith)

module _ (a : Asked) (W H n count : ℕ) (t s : List ℕ) where
  abbrev es : List Entry
  es = map (entry_at t) (range 0 n)

  abbrev ss : List Strip
  ss = strips_by a.rule W H es

  pub of-sound-as : sound_by a W H n count t s ≡ true → SoundAs a W H n count t s
  unfolding sound_by listed_in
  of-sound-as h =
      let g : keeps_asked a W H es ≡ true = search parts in
      let c : eqb count (length ss) ≡ true = search parts in
      record {
        kept = g;
        few = omega (arith, leb-true (length es) max_entries (of-asked a W H es g).long, length-read t n);
        counted = eqb-true _ _ c;
        table_is = same-is _ _ (search parts);
        strips-are = same-is _ _ (search parts);
      }

  pub to-sound-as : keeps_asked a W H es ≡ true → count ≡ length ss
      → t ≡ written table_size (each entry_numbers es) t → s ≡ written strips_size (each strip_numbers ss) s
      → sound_by a W H n count t s ≡ true
  unfolding sound_by listed_in
  to-sound-as g c e f =
      simp (
        g,
        eq-eqb count (length ss) c,
        subst (λ (l : List ℕ). same_numbers t l ≡ true) e (same_refl t),
        subst (λ (l : List ℕ). same_numbers s l ≡ true) f (same_refl s),
      )

  -- such lists are long enough
  pub as_long : SoundAs a W H n count t s → (table_size ≤ length t) × (strips_size ≤ length s)
  as_long k =
      let g = of-asked a W H es k.kept in
      let few = leb-true (length es) max_entries g.long in
      let fine = ltb-false max_strips (length ss) g.fine in (
        omega (
          arith,
          ap length k.table_is,
          written-long table_size (each entry_numbers es) t (omega (arith, length-entries es)),
        ),
        omega (
          arith,
          ap length k.strips-are,
          written-long strips_size (each strip_numbers ss) s (omega (arith, length-strips ss)),
        ),
      )

-- ---- 13 today

-- what is known of lists that 13 does not apply to
pub record Sound (m : Lent) : Type 0 where
  pub kept : layout_ok (held m) ≡ true
  pub few : m.board.entries ≤ max_entries
  pub counted : m.board.strips ≡ length (strips_of (held m))
  pub table_is : m.table ≡ (store (held m) m).table
  pub strips-are : m.strips ≡ (store (held m) m).strips

pub of-sound : (m : Lent) → sound m ≡ true → Sound m
unfolding sound layout_ok held layout_of store today strips_of strips_by free
of-sound m h =
    let b : Board = m.board in
    let k = of-sound-as (today (pen_in b)) b.width b.height b.entries b.strips m.table m.strips h in
    record {
      kept = k.kept;
      few = k.few;
      counted = k.counted;
      table_is = k.table_is;
      strips-are = k.strips-are;
    }

-- it is what it says, stored
pub sound-store-is : (m : Lent) → Sound m → store (held m) m ≡ m
unfolding store board_of held layout_of
sound-store-is m s =
    λ i.
    lent
    (record {
      width = m.board.width;
      height = m.board.height;
      half = m.board.half;
      gap = m.board.gap;
      entries = length-read m.table m.board.entries i;
      strips = sym s.counted i;
    })
    (sym s.table_is i)
    (sym s.strips-are i)

-- the strips that the record counts are those of the layout
pub strips-listed : (m : Lent) → Sound m → listed_strips m.strips m.board.strips ≡ strips_of (held m)
unfolding store
strips-listed m s =
    ap₂ (λ (x : List ℕ) (n : ℕ). listed_strips x n) s.strips-are s.counted
    ∙ listed-written strips_size (strips_of (held m)) m.strips

-- lists that 13 does not apply to are long enough
pub sound-long : (m : Lent) → sound m ≡ true → Long m
unfolding sound
sound-long m h =
    let b : Board = m.board in
    let a : Asked = today (pen_in b) in
    let long = as_long a b.width b.height b.entries b.strips m.table m.strips
    (of-sound-as a b.width b.height b.entries b.strips m.table m.strips h) in
    record { table = long.0; strips = long.1 }
