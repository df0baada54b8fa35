-- Lift, return by return.
use Prim.Native.Nat.{ℕ}
use native.Mathlib.Omega.{arith}
use mathlib.Core.Path.{◌≡◌, refl, sym, ap, ◌∙◌, subst}
use mathlib.Core.Bool.{Bool, true, false, not}
use mathlib.Core.List.{List, map}
use Rattle.foil_spec.specs.Lists.{range, all}
use Rattle.foil_spec.specs.Foil.{Entry, Layout, net_ok, entry_ok, pen_rule}
use Rattle.foil_spec.specs.Nets.{of_net, in_use}
use Rattle.foil_spec.specs.Ledger.{lift, Room, short, next, says, first, refusals, After, settle}
use Rattle.foil_spec.specs.Ledger.{Answer as Outcome}
use Rattle.foil_spec.specs.Lent.{Lent, lent, store, entry_at, layout_of, pen_in, held, sound, step_on}
use Rattle.foil_spec.specs.declared.Board.{Board}
use Rattle.list_laws.proofs.Tests.{all_keep}
use Rattle.ledger_laws.proofs.Rules.{of-ok}
use Rattle.ledger_laws.proofs.Sound.{Sound, of-sound}
use Rattle.zones.specs.Table.{Table}
use Rattle.tables.specs.Rows.{rows_of, other_nets, Kept}
use Rattle.std.specs.Prelude.{Err}
use Rattle.foil.specs.Contract.{Answer, Gave, taken_over}
use Rattle.foil.proofs.Giving.{own-done, own-step}
use Rattle.foil.proofs.Making.{rows-again, rows-layout, rows-table}
use Rattle.foil.proofs.Limits.{Held, held-limits}

module _ (b : Board) (t s : List ℕ) (net : ℕ) (g : sound (lent b t s) ≡ true) where
  abbrev m : Lent
  m = lent b t s

  -- what the call is to give, in each room that is long enough
  abbrev Lifted : Answer → Board → List ℕ → List ℕ → Type 0
  Lifted r b' t' s' = (room : Room) → short room ≡ false → Gave (step_on room (lift net) m) r b' t' s'

  facts : Sound m
  facts = of-sound m g

  module _ (o : Bool) (o_is : o ≡ net_ok net) where
    pub no-net : o ≡ false → Lifted (Err 4) b t s
    unfolding first refusals
    no-net n room long = own-done (lift net) m 4 g room long (rw (sym o_is ∙ n) refl)

    module _
        (allowed : o ≡ true) (u : Bool) (u-is : u ≡ in_use net (map (entry_at t) (range 0 b.entries))) where
      pub not_there : u ≡ false → Lifted (Err 6) b t s
      unfolding first refusals held layout_of
      not_there n room long =
          own-done (lift net) m 6 g room long (rw (sym o_is ∙ allowed, sym u-is ∙ n) refl)

      module _ (used : u ≡ true) (rows : List ℕ) (n : ℕ) (kept : Kept rows t net b.entries n) where
        abbrev es : List Entry
        es = other_nets net t b.entries

        all-ok : all (entry_ok b.width b.height) es ≡ true
        unfolding other_nets held layout_of
        all-ok =
            all_keep (entry_ok b.width b.height) (λ (e : Entry). not (of_net net e))
            (map (entry_at t) (range 0 b.entries)) (of-ok (held m) facts.kept).entries

        pub lifted-again : rows ≡ rows_of (map (entry_at rows) (range 0 n))
        lifted-again = rows-again rows es n (sym kept.counted) kept.is

        pub lifted-table : Table rows n (pen_rule (pen_in b)) b.width b.height
        lifted-table =
            let h : Held b = held-limits b t s facts in
            rows-table rows es n (sym kept.counted) kept.is (pen_rule (pen_in b)) b.width b.height
            (omega (arith, kept.few, h.few)) h.small h.sized all-ok

        layout_is : layout_of b.width b.height (pen_in b) n rows ≡ next (lift net) (held m)
        unfolding next held layout_of other_nets
        layout_is = rows-layout rows es n (sym kept.counted) kept.is b.width b.height (pen_in b)

        past-6 : (room : Room)
            → settle (first (refusals (lift net) room (held m)))
            (record { answer = says (lift net) (held m); state = store (next (lift net) (held m)) m }) m
            ≡ taken_over (next (lift net) (held m)) m
        unfolding refusals first says held layout_of
        past-6 room = rw (sym o_is ∙ allowed, sym u-is ∙ used) refl

        pub lifted : (r : Answer) (b' : Board) (t' s' : List ℕ)
            → Gave (taken_over (layout_of b.width b.height (pen_in b) n rows) m) r b' t' s' → Lifted r b' t' s'
        lifted r b' t' s' k room long =
            subst (λ (a : After Outcome Lent). Gave a r b' t' s')
            (ap (λ (l : Layout). taken_over l m) layout_is
            ∙ sym (own-step room (lift net) m g long ∙ past-6 room)) k
