-- The rows with the legs of a way are those of the layout that a booking leaves.
use Prim.Native.Nat.{ℕ, zero, suc, ◌+◌, ◌-◌, ◌≤◌, ◌<◌, max}
use native.Mathlib.Omega.{arith}
use mathlib.Core.Path.{◌≡◌, sym, ap, ◌∙◌, refl, subst}
use mathlib.Core.Bool.{Bool, true}
use mathlib.Core.List.{List, ◌++◌, map}
use lib.ListN.{length, take, length-append, length-map}
use Rattle.foil_spec.specs.Lists.{range, all}
use Rattle.foil_spec.specs.Limits.{max_entries, table_size, strips_size}
use Rattle.foil_spec.specs.Foil.{Point, Layout, entry_ok, pen_rule}
use Rattle.foil_spec.specs.Paths.{is_way}
use Rattle.foil_spec.specs.Corners.{corner_at, corners_in}
use Rattle.foil_spec.specs.Ledger.{legs}
use Rattle.foil_spec.specs.Lent.{Lent, lent, entry_at, layout_of, pen_in, held}
use Rattle.foil_spec.specs.declared.Board.{Board}
use Rattle.list_laws.proofs.Tests.{clash, all_append}
use Rattle.list_laws.proofs.Members.{at_place, length-range}
use Rattle.path_laws.proofs.Ways.{corners-free}
use Rattle.zones.specs.Table.{Table}
use Rattle.ledger_laws.proofs.Legs.{legs-ok, length-legs}
use Rattle.ledger_laws.proofs.Rules.{of-ok}
use Rattle.ledger_laws.proofs.Sound.{Sound, of-sound, sound-long, length-read}
use Rattle.tables.specs.Rows.{rows_of}
use Rattle.tables.specs.Booked.{Booking}
use Rattle.tables.specs.Legs.{Corners, Legs}
use Rattle.std.specs.Prelude.{Option}
use Rattle.foil.proofs.Making.{rows-again, rows-layout, rows-table, front-rows}
use Rattle.foil.proofs.Limits.{Held, held-limits}
use Rattle.booking.specs.Booking.{with_legs, MayBook}

pub corners-count : (path : List ℕ) (k : ℕ) → length (corners_in path k) ≡ k
unfolding corners_in
corners-count path k = length-map (range 0 k) (corner_at path) ∙ length-range 0 k

-- a way has a corner
pub some-corner : (f : ℕ → ℕ → Bool) (path : List ℕ) (k : ℕ) → is_way f (corners_in path k) ≡ true → 1 ≤ k
unfolding corners_in is_way
some-corner f path zero w = clash w refl
some-corner f path (suc k) w = omega arith

-- how many entries there are then
pub entries-count : (m : Lent) (net : ℕ) (cs : List Point) → 1 ≤ length cs
    → length (with_legs (held m) net cs).entries ≡ m.board.entries + max 1 (length cs - 1)
unfolding held layout_of
entries-count m net cs some =
    length-append (held m).entries (legs net cs)
    ∙ omega (arith, length-read m.table m.board.entries, length-legs net cs some)

module _ (b : Board) (t s : List ℕ) (net : ℕ) (path : List ℕ) (k : ℕ) (y : MayBook (lent b t s) net path k) where
  abbrev m : Lent
  m = lent b t s

  abbrev l : Layout
  l = held m

  abbrev cs : List Point
  cs = corners_in path k

  facts : Sound m
  facts = of-sound m y.fine

  limits : Held b
  limits = held-limits b t s facts

  pub lists-long : (table_size ≤ length t) × (strips_size ≤ length s)
  lists-long = let k = sound-long m y.fine in (k.table, k.strips)

  pub sums : (1 ≤ k) × (b.entries + k ≤ suc max_entries) × (b.entries < max_entries)
  sums =
      let one = some-corner y.clear path k y.way in
      (one, omega (arith, y.room, one), omega (arith, y.room))

  -- each corner is small enough for the sums
  pub small : Corners path k
  unfolding corners_in held layout_of
  small =
      let at =
      at_place (λ (q : Point). y.clear q.x q.y) (corner_at path) k (corners-free y.clear cs y.way) in
      record {
        long = y.long;
        small-x = λ i u. omega (arith, (y.inside _ _ (at i u)).0, limits.sized.width);
        small-y = λ i u. omega (arith, (y.inside _ _ (at i u)).1, limits.sized.height);
      }

  module _ (old rows : List ℕ) (all-rows : ℕ) (copied : old ≡ take table_size t)
      (added : Legs old rows b.entries net path k all-rows) where
    booked-rows : rows ≡ rows_of (l.entries ++ legs net cs)
    unfolding held layout_of
    booked-rows = added.rows l.entries (length-read t b.entries) (copied ∙ front-rows m facts)

    booked-count : length (l.entries ++ legs net cs) ≡ all-rows
    unfolding held layout_of
    booked-count =
        length-append l.entries (legs net cs)
        ∙ ap (λ (n : ℕ). n + length (legs net cs)) (length-read t b.entries) ∙ sym added.counted

    all-ok : all (entry_ok b.width b.height) (l.entries ++ legs net cs) ≡ true
    unfolding held layout_of
    all-ok =
        all_append (entry_ok b.width b.height) l.entries (legs net cs)
        (of-ok l facts.kept).entries
        (legs-ok b.width b.height net y.allowed y.clear y.inside cs y.way)

    pub booked-table : Table rows all-rows (pen_rule (pen_in b)) b.width b.height
    booked-table =
        rows-table rows (l.entries ++ legs net cs) all-rows booked-count booked-rows
        (pen_rule (pen_in b)) b.width b.height added.few limits.small limits.sized
        all-ok

    pub booked-again : rows ≡ rows_of (map (entry_at rows) (range 0 all-rows))
    booked-again = rows-again rows (l.entries ++ legs net cs) all-rows booked-count booked-rows

    layout_is : layout_of b.width b.height (pen_in b) all-rows rows ≡ with_legs l net cs
    unfolding held layout_of
    layout_is =
        rows-layout rows (l.entries ++ legs net cs) all-rows booked-count booked-rows
        b.width b.height (pen_in b)

    pub booked-is : (t' s' : List ℕ) (r : Option Board)
        → Booking (layout_of b.width b.height (pen_in b) all-rows rows) t s t' s' r
        → Booking (with_legs l net cs) t s t' s' r
    booked-is t' s' r k = subst (λ (x : Layout). Booking x t s t' s' r) layout_is k
