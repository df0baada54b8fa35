-- Book, return by return.
use Prim.Native.Nat.{ℕ, ◌+◌, ◌-◌, ◌/◌, ◌%◌, ◌≤◌, ◌<◌, min, max}
use native.Mathlib.Omega.{arith}
use mathlib.Core.Path.{◌≡◌, refl, sym, ap, ◌∙◌, subst}
use mathlib.Core.Bool.{Bool, true, false, not}
use mathlib.Core.List.{List, [], ◌∷◌, map}
use lib.Dec.{eqb}
use lib.ListN.{length}
use borrow.Author.Tests.{eqb-true, eqb-false, lt-ltb, le-ltb, not-true, not-false}
use Rattle.foil_spec.specs.Lists.{range}
use Rattle.foil_spec.specs.Limits.{max_entries}
use Rattle.foil_spec.specs.Foil.{Point, Layout, net_ok, free}
use Rattle.foil_spec.specs.Paths.{is_way, bends}
use Rattle.foil_spec.specs.Corners.{corners_in, drawn}
use Rattle.foil_spec.specs.Nets.{in_use}
use Rattle.foil_spec.specs.Ledger.{Room, too_long, is_too_fine, Step, book, Answer, booked, next, says}
use Rattle.foil_spec.specs.Ledger.{◌⇒◌, first, refusals, After, settle}
use Rattle.foil_spec.specs.Lent.{Lent, lent, store, entry_at, layout_of, pen_in, held, sound, step_on}
use Rattle.foil_spec.specs.declared.Board.{Board}
use Rattle.list_laws.proofs.Tests.{both, clash}
use Rattle.zones.specs.Boxes.{box_free, Zoned}
use Rattle.zones.proofs.Free.{free-inside}
use Rattle.ledger_laws.proofs.CornerLists.{drawn-whole, drawn-half}
use Rattle.ledger_laws.proofs.Drawn.{book-from-19}
use Rattle.tables.specs.Booked.{Stored, Unchanged}
use Rattle.std.specs.Prelude.{Ok, Err}
use Rattle.foil.specs.Contract.{answer_of, Gave, StepIn}
use Rattle.foil.specs.declared.Accepted.TheVariants.{Laid}
use Rattle.foil.proofs.Giving.{own-done, own-step}
use Rattle.booking.specs.Booking.{with_legs, MayBook}
use Rattle.booking.proofs.Booking.{corners-count, some-corner, entries-count}

-- what is a way between the boxes of a table is one over the free points of its layout
pub layout-way : (l : Layout) (w h n : ℕ) (z ks : List ℕ) → Zoned (free l) w h z n → (r : Bool)
    → r ≡ is_way (box_free w h n z) (drawn ks) → r ≡ is_way (free l) (drawn ks)
layout-way l w h n z ks Z r is = is ∙ ap (λ (f : ℕ → ℕ → Bool). is_way f (drawn ks)) Z.same

-- a list that draws a way has whole places
way-whole : (f : ℕ → ℕ → Bool) (ks : List ℕ) → is_way f (drawn ks) ≡ true → drawn ks ≡ corners_in ks (length ks / 2)
unfolding is_way
way-whole f ks w =
    both (eqb (length ks % 2) 0)
    (λ t. drawn-whole ks (eqb-true (length ks % 2) 0 t))
    (λ t. clash w (ap (is_way f) (drawn-half ks (eqb-false (length ks % 2) 0 t))))

module _ (b : Board) (t s ks : List ℕ) (net limit : ℕ) (limited : limit ≤ max_entries) (y : sound (lent b t s) ≡ true)
  where
    abbrev m : Lent
    m = lent b t s

    abbrev l : Layout
    l = held m

    abbrev c : Step
    c = book net ks

    -- what the call is to give where it is refused: all stays as it is
    abbrev Refused : ℕ → Type 0
    Refused n = StepIn c limit m (Err n) b t s

    module _ (o : Bool) (o_is : o ≡ net_ok net) where
      pub no-net : not o ≡ true → Refused 4
      unfolding first refusals
      no-net n room long _ = own-done c m 4 y room long (rw (sym o_is ∙ not-true o n) refl)

      module _ (ok : not o ≡ false) (u : Bool)
          (u-is : u ≡ in_use net (map (entry_at t) (range 0 b.entries))) where
        pub used : u ≡ true → Refused 5
        unfolding first refusals held layout_of
        used e room long _ = own-done c m 5 y room long (rw (sym o_is ∙ not-false o ok, sym u-is ∙ e) refl)

        module _ (unused : u ≡ false) (w : Bool)
            (w-is : w ≡ is_way (free (layout_of b.width b.height (pen_in b) b.entries t)) (drawn ks)) where
          from-19 : (room : Room) → first (refusals c room l)
              ≡ first ((not w ⇒ 19) ∷ (too_long room (next c l) ⇒ 10) ∷ (is_too_fine (next c l) ⇒ 11) ∷ [])
          unfolding held layout_of
          from-19 room =
              book-from-19 room l net ks (sym o_is ∙ not-false o ok) (sym u-is ∙ unused)
              ∙ ap (λ (x : Bool).
              first ((not x ⇒ 19) ∷ (too_long room (next c l) ⇒ 10) ∷ (is_too_fine (next c l) ⇒ 11) ∷ [])) (sym w-is)

          pub no_way : not w ≡ true → Refused 19
          unfolding first
          no_way e room long _ = own-done c m 19 y room long (from-19 room ∙ rw (not-true w e) refl)

          module _ (drew : not w ≡ false) where
            way : is_way (free l) (drawn ks) ≡ true
            unfolding held
            way = sym w-is ∙ not-false w drew

            -- how many corners are drawn
            abbrev k : ℕ
            k = length ks / 2

            drawn-is : drawn ks ≡ corners_in ks k
            drawn-is = way-whole (free l) ks way

            count : length (drawn ks) ≡ k
            count = ap length drawn-is ∙ corners-count ks k

            some : 1 ≤ k
            some = some-corner (free l) ks k (ap (is_way (free l)) (sym drawn-is) ∙ way)

            entries-after : length (next c l).entries ≡ b.entries + max 1 (k - 1)
            unfolding next
            entries-after =
                entries-count m net (drawn ks) (omega (arith, count, some))
                ∙ ap (λ (n : ℕ). b.entries + max 1 (n - 1)) count

            from-10 : (room : Room) → first (refusals c room l)
                ≡ first ((too_long room (next c l) ⇒ 10) ∷ (is_too_fine (next c l) ⇒ 11) ∷ [])
            unfolding first
            from-10 room = from-19 room ∙ rw (not-false w drew) refl

            pub table-full : (n : ℕ) → n ≡ max 1 (k - 1) → limit < b.entries + n → Refused 10
            unfolding first too_long
            table-full n e h room long is =
                own-done c m 10 y room long
                (from-10 room
                ∙ rw (lt-ltb (min max_entries room.limit) (length (next c l).entries)
                (omega (arith, entries-after))) refl)

            module _ (n : ℕ) (n-is : n ≡ max 1 (k - 1)) (fits : b.entries + n ≤ limit) where
              pub may-book : MayBook m net ks k
              may-book =
                  record {
                    fine = y;
                    allowed = sym o_is ∙ not-false o ok;
                    long = omega arith;
                    clear = free l;
                    inside = free-inside l;
                    way = ap (is_way (free l)) (sym drawn-is) ∙ way;
                    room = omega (arith, limited);
                  }

              from-11 : (room : Room) → room.limit ≡ limit
                  → first (refusals c room l) ≡ first ((is_too_fine (next c l) ⇒ 11) ∷ [])
              unfolding first too_long
              from-11 room is =
                  from-10 room
                  ∙ rw (le-ltb (min max_entries room.limit) (length (next c l).entries)
                  (omega (arith, entries-after, limited))) refl

              layout_is : with_legs l net (corners_in ks k) ≡ next c l
              unfolding next
              layout_is = ap (λ (cs : List Point). with_legs l net cs) (sym drawn-is)

              pub too_fine : (t' s' : List ℕ) → Unchanged (with_legs l net (corners_in ks k)) t s t' s'
                  → StepIn c limit m (Err 11) b t' s'
              unfolding first
              too_fine t' s' u room long is =
                  let n = subst (λ (x : Layout). Unchanged x t s t' s') layout_is u in
                  let g = own-done c m 11 y room long (from-11 room is ∙ rw n.many refl) in
                  record {
                    answer = g.answer;
                    board = g.board;
                    table = n.table ∙ g.table;
                    strips = n.strips ∙ g.strips;
                  }

              pub booked-done : (after : Board) (t' s' : List ℕ) (j : ℕ) → j ≡ k - 2
                  → Stored (with_legs l net (corners_in ks k)) t s t' s' after
                  → StepIn c limit m (Ok (Laid k j)) after t' s'
              unfolding settle answer_of store first says bends
              booked-done after t' s' j j-is u room long is =
                  let d = subst (λ (x : Layout). Stored x t s t' s' after) layout_is u in
                  let e : j ≡ length (drawn ks) - 2 = j-is ∙ ap (λ (n : ℕ). n - 2) (sym count) in
                  let o : step_on room c m
                  ≡ record { answer = booked (length (drawn ks)) (bends (drawn ks)); state = store (next c l) m } =
                  own-step room c m y long ∙ rw (from-11 room is, d.fine) refl in
                  subst (λ (a : After Answer Lent). Gave a (Ok (Laid k j)) after t' s') (sym o)
                  (record {
                    answer = λ i. Ok (Laid (sym count i) (e i));
                    board = d.board;
                    table = d.table;
                    strips = d.strips;
                  })
