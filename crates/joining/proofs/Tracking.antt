-- Join from its search on: what comes of the first path to the net.
use Prim.Native.Nat.{ℕ, ◌*◌, ◌≤◌}
use native.Mathlib.Omega.{arith}
use mathlib.Core.Path.{◌≡◌, refl, ap, ◌∙◌}
use mathlib.Core.Bool.{false, not}
use mathlib.Core.List.{List}
use mathlib.Core.Option.{Option}
use lib.ListN.{length, drop}
use Rattle.foil_spec.specs.Lists.{each}
use Rattle.foil_spec.specs.Foil.{Point, Layout}
use Rattle.foil_spec.specs.Corners.{point_numbers}
use Rattle.foil_spec.specs.Ledger.{join, free_for, on_net, join_of, join_corners, no_path, Room, short}
use Rattle.foil_spec.specs.Ledger.{next, says, settle}
use Rattle.foil_spec.specs.Lent.{Lent, lent, store, layout_of, pen_in, held, sound, step_on}
use Rattle.foil_spec.specs.declared.Board.{Board}
use Rattle.ledger_laws.proofs.Join.{for-inside, join-from-9}
use Rattle.foil.specs.Contract.{Answer, OutputIn}
use Rattle.std.specs.Prelude.{Option as Counted}
use Rattle.search.specs.Search.{PathFound}
use Rattle.booking.specs.Tracks.{most_corners, MayTrack, corners_on, Searched, track_laid, Tracked}
use Rattle.booking.proofs.Tracking.{may-track, step-tracked}
use Rattle.joining.specs.Ready.{ReadyToJoin}

module _ (b : Board) (t s : List ℕ) (net : ℕ) (S : Point) (y : ReadyToJoin (lent b t s) net S) where
  abbrev m : Lent
  m = lent b t s

  abbrev l : Layout
  l = held m

  join-tracks : (room : Room) → short room ≡ false
      → step_on room (join net S) m ≡ track_laid room net (join_of net l S) m
  unfolding step_on next says join_corners
  join-tracks room long =
      ap (λ (o : Option ℕ).
      settle o (record { answer = says (join net S) l; state = store (next (join net S) l) m }) m)
      (join-from-9 room (not (sound m)) l net S long (ap not y.fine) y.may)

  module _ (path₀ path : List ℕ) (k : Counted ℕ) (long₀ : most_corners * 2 ≤ length path₀)
      (found : PathFound (join_of net (layout_of b.width b.height (pen_in b) b.entries t) S) path₀ path k) where
    searched : Searched (join_of net l S) path k
    unfolding held
    searched =
        record {
          nowhere = λ e. ap no_path (found.nowhere e).0 ∙ unfold no_path in refl;
          corners = λ n e.
              let f = found.found n e in
              record {
                some = f.some;
                count = f.count;
                corners = λ few. (
                  drop (length (each point_numbers (corners_on (join_of net l S)))) path₀,
                  f.corners (omega arith),
                );
              };
        }

    pub may-join : most_corners * 2 ≤ length path → MayTrack m net path k
    unfolding join_of
    may-join long =
        may-track m net path k (free_for net l) (for-inside net l) S (on_net net l) y.fine y.may.allowed long
        searched

    pub join-done : (limit : ℕ) (ks : List ℕ) (r : Answer) (b' : Board) (t' s' ks' : List ℕ)
        → ((o : Option (List Point)) → Searched o path k → Tracked net limit o m ks r b' t' s' ks')
        → OutputIn (join net S) limit m ks r b' t' s' ks'
    join-done limit ks r b' t' s' ks' h =
        step-tracked (join net S) net limit (join_of net l S) m ks join-tracks r b' t' s' ks'
        (h (join_of net l S) searched)
