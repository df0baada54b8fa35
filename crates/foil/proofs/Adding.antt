-- An entry more, and with it a patch that is drawn and a leg as booked, return by return.
use Prim.Native.Nat.{ℕ, ◌+◌, ◌*◌, min, ◌≤◌, ◌<◌}
use native.Mathlib.Omega.{arith}
use mathlib.Core.Path.{◌≡◌, refl, sym, ap, ◌∙◌, subst}
use mathlib.Core.Bool.{Bool, true, false}
use mathlib.Core.List.{List, [], ◌∷◌, ◌++◌, map}
use lib.ListN.{length, take, length-append}
use lib.Seq.{sets}
use borrow.Author.Tests.{lt-ltb, le-ltb}
use Rattle.foil_spec.specs.Lists.{range, all}
use Rattle.foil_spec.specs.Limits.{max_entries, table_size}
use Rattle.foil_spec.specs.Foil.{Entry, entry, entry_numbers, Layout, net_ok, box_ok, entry_ok, over_leg, under_patch}
use Rattle.foil_spec.specs.Foil.{pen_rule, patch_margin}
use Rattle.foil_spec.specs.Ledger.{Room, too_long, Step, draw, put_leg, next, says, first, refusals, After, settle}
use Rattle.foil_spec.specs.Ledger.{Answer as Outcome}
use Rattle.foil_spec.specs.Lent.{Lent, lent, store, entry_at, layout_of, pen_in, held, sound}
use Rattle.foil_spec.specs.declared.Board.{Board}
use Rattle.list_laws.proofs.Tests.{and_i, all_append}
use Rattle.ledger_laws.proofs.Rules.{of-ok}
use Rattle.ledger_laws.proofs.Line.{patch-ok}
use Rattle.ledger_laws.proofs.Sound.{Sound, of-sound, length-read}
use Rattle.zones.specs.Table.{Table}
use Rattle.tables.specs.Rows.{rows_of}
use Rattle.tables.proofs.Filling.{appended, length-rows}
use Rattle.std.specs.Prelude.{Err}
use Rattle.foil.specs.Contract.{Answer, Gave, StepIn, taken_over, with_entry, entry_added}
use Rattle.foil.proofs.Giving.{gave-refused, own-done, own-step}
use Rattle.foil.proofs.Making.{rows-again, rows-layout, rows-table, front-rows}
use Rattle.foil.proofs.Limits.{Held, held-limits}

module _ (b : Board) (t s : List ℕ) (g : sound (lent b t s) ≡ true) (limit : ℕ) (limited : limit ≤ max_entries) where
  abbrev m : Lent
  m = lent b t s

  facts : Sound m
  facts = of-sound m g

  -- ---- an entry more

  module _ (e : Entry) where
    -- what the call is to give, in each room of the limit
    abbrev Added : Answer → Board → List ℕ → List ℕ → Type 0
    Added r b' t' s' = (room : Room) → room.limit ≡ limit → Gave (entry_added room e m) r b' t' s'

    one-longer : length ((held m).entries ++ e ∷ []) ≡ b.entries + 1
    unfolding held layout_of
    one-longer = length-append (held m).entries (e ∷ []) ∙ omega (arith, length-read t b.entries)

    pub table-full : limit ≤ b.entries → Added (Err 10) b t s
    unfolding first too_long
    table-full l room is =
        gave-refused _ _ m 10
        (rw (lt-ltb (min max_entries room.limit) (length ((held m).entries ++ e ∷ [])) (omega (arith, one-longer)))
        refl)

    module _ (few : b.entries < limit) (ok : entry_ok b.width b.height e ≡ true) (rows : List ℕ) (old : List ℕ)
        (copied : old ≡ take table_size t)
        (put : rows ≡ sets old (b.entries * 5) (entry_numbers e)) where
      added-rows : rows ≡ rows_of ((held m).entries ++ e ∷ [])
      unfolding held layout_of
      added-rows =
          let old-is = copied ∙ front-rows m facts in
          let count = length-read t b.entries in
          let long = length-rows (held m).entries (omega (arith, count)) in
          (appended e b.entries old rows (omega arith) (long ∙ ap length (sym old-is)) put).rows _ count old-is

      all-ok : all (entry_ok b.width b.height) ((held m).entries ++ e ∷ []) ≡ true
      unfolding held layout_of
      all-ok =
          all_append (entry_ok b.width b.height) (held m).entries (e ∷ [])
          (of-ok (held m) facts.kept).entries
          (and_i {a = entry_ok b.width b.height e} ok refl)

      pub added-again : rows ≡ rows_of (map (entry_at rows) (range 0 (b.entries + 1)))
      added-again = rows-again rows ((held m).entries ++ e ∷ []) (b.entries + 1) one-longer added-rows

      pub added-table : Table rows (b.entries + 1) (pen_rule (pen_in b)) b.width b.height
      added-table =
          let h : Held b = held-limits b t s facts in
          rows-table rows ((held m).entries ++ e ∷ []) (b.entries + 1) one-longer added-rows
          (pen_rule (pen_in b)) b.width b.height (omega arith) h.small h.sized all-ok

      layout_is : layout_of b.width b.height (pen_in b) (b.entries + 1) rows ≡ with_entry m e
      unfolding held layout_of
      layout_is =
          rows-layout rows ((held m).entries ++ e ∷ []) (b.entries + 1) one-longer added-rows
          b.width b.height (pen_in b)

      pub entry-added : (r : Answer) (b' : Board) (t' s' : List ℕ)
          → Gave (taken_over (layout_of b.width b.height (pen_in b) (b.entries + 1) rows) m) r b' t' s'
          → Added r b' t' s'
      unfolding first too_long
      entry-added r b' t' s' k room is =
          rw (le-ltb (min max_entries room.limit) (length ((held m).entries ++ e ∷ [])) (omega (arith, one-longer)))
          (subst (λ (l : Layout). Gave (taken_over l m) r b' t' s') layout_is k)

  -- ---- a step that adds an entry

  module _ (c : Step) (e : Entry) where
    -- past the refusals of its own, only 10 and 11 can still refuse the step
    abbrev PastOwn : Type 0
    PastOwn =
        (room : Room)
        → settle (first (refusals c room (held m)))
        (record { answer = says c (held m); state = store (next c (held m)) m }) m
        ≡ entry_added room e m

    step_added : PastOwn → (r : Answer) (b' : Board) (t' s' : List ℕ) → Added e r b' t' s' → StepIn c limit m r b' t' s'
    step_added past r b' t' s' k room long is =
        subst (λ (a : After Outcome Lent). Gave a r b' t' s') (sym (own-step room c m g long ∙ past room)) (k room is)

  -- ---- a patch

  module _ (x0 y0 x1 y1 : ℕ) (o : Bool) (o_is : o ≡ box_ok b.width b.height (entry 0 x0 y0 x1 y1)) where
    pub no-patch : o ≡ false → StepIn (draw x0 y0 x1 y1) limit m (Err 3) b t s
    unfolding first refusals held layout_of
    no-patch n room long is =
        own-done (draw x0 y0 x1 y1) m 3 g room long (rw (sym o_is ∙ n) refl)

    module _ (box : o ≡ true) where
      pub is-entry : entry_ok b.width b.height (entry 0 x0 y0 x1 y1) ≡ true
      is-entry = patch-ok b.width b.height x0 y0 x1 y1 (sym o_is ∙ box)

      module _ (d : ℕ) (d-is : d ≡ patch_margin (pen_in b)) (v : Bool)
          (v-is : v ≡ over_leg d (map (entry_at t) (range 0 b.entries)) (entry 0 x0 y0 x1 y1)) where
        over-is : over_leg (patch_margin (pen_in b)) (map (entry_at t) (range 0 b.entries)) (entry 0 x0 y0 x1 y1) ≡ v
        over-is =
            ap (λ (x : ℕ). over_leg x (map (entry_at t) (range 0 b.entries)) (entry 0 x0 y0 x1 y1)) (sym d-is)
            ∙ sym v-is

        pub patch-across : v ≡ true → StepIn (draw x0 y0 x1 y1) limit m (Err 21) b t s
        unfolding first refusals held layout_of
        patch-across y room long is =
            own-done (draw x0 y0 x1 y1) m 21 g room long (rw (sym o_is ∙ box, over-is ∙ y) refl)

        module _ (clear : v ≡ false) where
          past-21 : PastOwn (draw x0 y0 x1 y1) (entry 0 x0 y0 x1 y1)
          unfolding refusals first says next held layout_of
          past-21 room = rw (sym o_is ∙ box, over-is ∙ clear) refl

          pub drawn : (r : Answer) (b' : Board) (t' s' : List ℕ) → Added (entry 0 x0 y0 x1 y1) r b' t' s'
              → StepIn (draw x0 y0 x1 y1) limit m r b' t' s'
          drawn = step_added (draw x0 y0 x1 y1) (entry 0 x0 y0 x1 y1) past-21

  -- ---- a leg

  module _ (e : Entry) (n : Bool) (n-is : n ≡ net_ok e.net) where
    pub no-net : n ≡ false → StepIn (put_leg e) limit m (Err 4) b t s
    unfolding first refusals
    no-net f room long is = own-done (put_leg e) m 4 g room long (rw (sym n-is ∙ f) refl)

    module _ (named : n ≡ true) (o : Bool) (o_is : o ≡ entry_ok b.width b.height e) where
      pub no-leg : o ≡ false → StepIn (put_leg e) limit m (Err 3) b t s
      unfolding first refusals held layout_of
      no-leg f room long is =
          own-done (put_leg e) m 3 g room long (rw (sym n-is ∙ named, sym o_is ∙ f) refl)

      module _ (ok : o ≡ true) where
        module _ (d : ℕ) (d-is : d ≡ patch_margin (pen_in b)) (v : Bool)
            (v-is : v ≡ under_patch d (map (entry_at t) (range 0 b.entries)) e) where
          under-is : under_patch (patch_margin (pen_in b)) (map (entry_at t) (range 0 b.entries)) e ≡ v
          under-is =
              ap (λ (x : ℕ). under_patch x (map (entry_at t) (range 0 b.entries)) e) (sym d-is) ∙ sym v-is

          pub leg-across : v ≡ true → StepIn (put_leg e) limit m (Err 21) b t s
          unfolding first refusals held layout_of
          leg-across y room long is =
              own-done (put_leg e) m 21 g room long
              (rw (sym n-is ∙ named, sym o_is ∙ ok, under-is ∙ y) refl)

          module _ (clear : v ≡ false) where
            past-4-3-and-21 : PastOwn (put_leg e) e
            unfolding refusals first says next held layout_of
            past-4-3-and-21 room =
                rw (sym n-is ∙ named, sym o_is ∙ ok, under-is ∙ clear) refl

            pub leg-put : (r : Answer) (b' : Board) (t' s' : List ℕ) → Added e r b' t' s'
                → StepIn (put_leg e) limit m r b' t' s'
            leg-put = step_added (put_leg e) e past-4-3-and-21
