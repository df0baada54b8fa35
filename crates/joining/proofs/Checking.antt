-- Join before its search, return by return.
use Prim.Native.Nat.{ℕ, ◌≤◌, ◌<◌}
use mathlib.Core.Path.{◌≡◌, refl, sym, ◌∙◌}
use mathlib.Core.Bool.{Bool, true, false, not}
use mathlib.Core.List.{List, map}
use borrow.Author.Tests.{not-true, not-false, le-leb, lt-leb}
use Rattle.foil_spec.specs.Lists.{range}
use Rattle.foil_spec.specs.Foil.{Point, net_ok}
use Rattle.foil_spec.specs.Nets.{in_use}
use Rattle.foil_spec.specs.Ledger.{join, free_for, off_foil, first, refusals}
use Rattle.foil_spec.specs.Lent.{Lent, lent, entry_at, layout_of, pen_in, held, sound}
use Rattle.foil_spec.specs.declared.Board.{Board}
use Rattle.std.specs.Prelude.{Err}
use Rattle.foil.specs.Contract.{OutputIn}
use Rattle.foil.proofs.Giving.{own-wrote}
use Rattle.joining.specs.Ready.{ReadyToJoin}

module _ (b : Board) (t s : List ℕ) (net : ℕ) (S : Point) (y : sound (lent b t s) ≡ true) where
  abbrev m : Lent
  m = lent b t s

  off-right : b.width ≤ S.x → off_foil (held m) S ≡ true
  unfolding off_foil held layout_of
  off-right l = simp (le-leb b.width S.x l)

  off-below : S.x < b.width → b.height ≤ S.y → off_foil (held m) S ≡ true
  unfolding off_foil held layout_of
  off-below k l = simp (lt-leb b.width S.x k, le-leb b.height S.y l)

  on-foil : S.x < b.width → S.y < b.height → off_foil (held m) S ≡ false
  unfolding off_foil held layout_of
  on-foil k l = simp (lt-leb b.width S.x k, lt-leb b.height S.y l)

  module _ (o : Bool) (o_is : o ≡ net_ok net) where
    pub no-net : (ks : List ℕ) (limit : ℕ) → not o ≡ true
        → OutputIn (join net S) limit m ks (Err 4) b t s ks
    unfolding first refusals
    no-net ks limit n room long _ _ =
        own-wrote (join net S) m 4 y room ks long (rw (sym o_is ∙ not-true o n) refl)

    module _ (ok : not o ≡ false) (u : Bool)
        (u-is : u ≡ in_use net (map (entry_at t) (range 0 b.entries))) where
      pub not_there : (ks : List ℕ) (limit : ℕ) → not u ≡ true
          → OutputIn (join net S) limit m ks (Err 6) b t s ks
      unfolding first refusals held layout_of
      not_there ks limit e room long _ _ =
          own-wrote (join net S) m 6 y room ks long (rw (sym o_is ∙ not-false o ok, sym u-is ∙ not-true u e) refl)

      module _ (used : not u ≡ false) where
        -- the net is allowed and in use
        in_order : (net_ok net ≡ true) × (in_use net (held m).entries ≡ true)
        unfolding held layout_of
        in_order = (sym o_is ∙ not-false o ok, sym u-is ∙ not-false u used)

        off : (ks : List ℕ) (limit : ℕ) → off_foil (held m) S ≡ true
            → OutputIn (join net S) limit m ks (Err 7) b t s ks
        unfolding first refusals
        off ks limit e room long _ _ =
            own-wrote (join net S) m 7 y room ks long (rw (in_order.0, in_order.1, e) refl)

        pub right : (ks : List ℕ) (limit : ℕ) → b.width ≤ S.x → OutputIn (join net S) limit m ks (Err 7) b t s ks
        right ks limit l = off ks limit (off-right l)

        module _ (in-x : S.x < b.width) where
          pub below : (ks : List ℕ) (limit : ℕ) → b.height ≤ S.y
              → OutputIn (join net S) limit m ks (Err 7) b t s ks
          below ks limit l = off ks limit (off-below in-x l)

          module _ (in-y : S.y < b.height) (v : Bool)
              (v-is : v ≡ free_for net (layout_of b.width b.height (pen_in b) b.entries t) S.x S.y) where
            free-is : v ≡ free_for net (held m) S.x S.y
            unfolding held
            free-is = v-is

            pub blocked-there : (ks : List ℕ) (limit : ℕ) → not v ≡ true
                → OutputIn (join net S) limit m ks (Err 8) b t s ks
            unfolding first refusals
            blocked-there ks limit e room long _ _ =
                own-wrote (join net S) m 8 y room ks long
                (rw (in_order.0, in_order.1, on-foil in-x in-y, sym free-is ∙ not-true v e) refl)

            pub ready-to-join : not v ≡ false → ReadyToJoin m net S
            ready-to-join e =
                record {
                  fine = y;
                  may = record {
                    allowed = in_order.0;
                    used = in_order.1;
                    start-free = sym free-is ∙ not-false v e;
                  };
                }
