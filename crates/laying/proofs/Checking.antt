-- Lay before its search, return by return.
use Prim.Native.Nat.{ℕ}
use mathlib.Core.Path.{◌≡◌, refl, sym, ◌∙◌}
use mathlib.Core.Bool.{Bool, true, false, not, ◌||◌}
use mathlib.Core.List.{List, [], ◌∷◌, map}
use lib.Dec.{ltb}
use lib.ListN.{length}
use borrow.Author.Tests.{not-true, not-false}
use Rattle.foil_spec.specs.Lists.{range}
use Rattle.foil_spec.specs.Foil.{Point, net_ok}
use Rattle.foil_spec.specs.Nets.{in_use}
use Rattle.foil_spec.specs.Ledger.{lay, path_of, no_path, corners_of, off_foil, blocked, Room, corner_room, too_long}
use Rattle.foil_spec.specs.Ledger.{is_too_fine, next, Refusal, ◌⇒◌, first, refusals}
use Rattle.foil_spec.specs.Lent.{Lent, lent, entry_at, layout_of, held, sound}
use Rattle.foil_spec.specs.declared.Board.{Board}
use Rattle.std.specs.Prelude.{Ok, Err}
use Rattle.foil.specs.Contract.{OutputIn}
use Rattle.foil.proofs.Giving.{own-wrote}
use Rattle.finding.specs.Points.{PointsChecked}
use Rattle.laying.specs.Ready.{ReadyToLay}

module _ (b : Board) (t s : List ℕ) (net : ℕ) (S T : Point) (y : sound (lent b t s) ≡ true) where
  abbrev m : Lent
  m = lent b t s

  module _ (o : Bool) (o_is : o ≡ net_ok net) where
    pub no-net : (ks : List ℕ) (limit : ℕ) → not o ≡ true
        → OutputIn (lay net S T) limit m ks (Err 4) b t s ks
    unfolding first refusals
    no-net ks limit n room long _ _ =
        own-wrote (lay net S T) m 4 y room ks long (rw (sym o_is ∙ not-true o n) refl)

    module _ (ok : not o ≡ false) (u : Bool)
        (u-is : u ≡ in_use net (map (entry_at t) (range 0 b.entries))) where
      pub used : (ks : List ℕ) (limit : ℕ) → u ≡ true
          → OutputIn (lay net S T) limit m ks (Err 5) b t s ks
      unfolding first refusals held layout_of
      used ks limit e room long _ _ =
          own-wrote (lay net S T) m 5 y room ks long (rw (sym o_is ∙ not-false o ok, sym u-is ∙ e) refl)

      module _ (unused : u ≡ false) where
        -- the net is allowed and not in use
        in_order : (net_ok net ≡ true) × (in_use net (held m).entries ≡ false)
        unfolding held layout_of
        in_order = (sym o_is ∙ not-false o ok, sym u-is ∙ unused)

        -- the refusals after those for the ends
        abbrev later : Room → List Refusal
        later room =
            (no_path (path_of (held m) S T) ⇒ 9)
            ∷ (ltb (corner_room room) (length (corners_of (held m) S T)) ⇒ 12)
            ∷ (too_long room (next (lay net S T) (held m)) ⇒ 10)
            ∷ (is_too_fine (next (lay net S T) (held m)) ⇒ 11)
            ∷ []

        from-7 : (room : Room) → first (refusals (lay net S T) room (held m))
            ≡ first (
            (off_foil (held m) S || off_foil (held m) T ⇒ 7)
            ∷ (blocked (held m) S || blocked (held m) T ⇒ 8)
            ∷ later room)
        unfolding first refusals
        from-7 room = rw (in_order.0, in_order.1) refl

        pub ends-refused : (ks : List ℕ) (limit n : ℕ) → PointsChecked (held m) S T (Err n)
            → OutputIn (lay net S T) limit m ks (Err n) b t s ks
        ends-refused ks limit n k room long _ _ =
            own-wrote (lay net S T) m n y room ks long (from-7 room ∙ k (later room))

        pub ready-to-lay : (u : Unit {0}) → PointsChecked (held m) S T (Ok u) → ReadyToLay m net S T
        ready-to-lay u k =
            record {
              fine = y;
              may =
                  record {
                    allowed = in_order.0;
                    unused = in_order.1;
                    start-free = k.0;
                    end-free = k.1;
                  };
            }
