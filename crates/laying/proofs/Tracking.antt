-- Lay from its search on: what comes of the first path between its points.
use Prim.Native.Nat.{ℕ, ◌*◌, ◌≤◌}
use native.Mathlib.Omega.{arith}
use mathlib.Core.Path.{◌≡◌, refl, ap, ◌∙◌}
use mathlib.Core.Bool.{false, not}
use mathlib.Core.List.{List}
use mathlib.Core.Option.{Option}
use lib.ListN.{length, drop}
use Rattle.foil_spec.specs.Lists.{each}
use Rattle.foil_spec.specs.Foil.{Point, Layout, free}
use Rattle.foil_spec.specs.Paths.{at}
use Rattle.foil_spec.specs.Corners.{point_numbers}
use Rattle.foil_spec.specs.Ledger.{lay, path_of, corners_of, no_path, Room, short, next, says, settle}
use Rattle.foil_spec.specs.Lent.{Lent, lent, store, layout_of, pen_in, held, sound, step_on}
use Rattle.foil_spec.specs.declared.Board.{Board}
use Rattle.zones.proofs.Free.{free-inside}
use Rattle.ledger_laws.proofs.Lay.{lay-from-9}
use Rattle.foil.specs.Contract.{Answer, OutputIn}
use Rattle.std.specs.Prelude.{Option as Counted}
use Rattle.finding.specs.Found.{Found}
use Rattle.booking.specs.Tracks.{most_corners, MayTrack, corners_on, Searched, track_laid, Tracked}
use Rattle.booking.proofs.Tracking.{may-track, step-tracked}
use Rattle.laying.specs.Ready.{ReadyToLay}

module _ (b : Board) (t s : List ℕ) (net : ℕ) (S T : Point) (y : ReadyToLay (lent b t s) net S T) where
  abbrev m : Lent
  m = lent b t s

  abbrev l : Layout
  l = held m

  lay-tracks : (room : Room) → short room ≡ false
      → step_on room (lay net S T) m ≡ track_laid room net (path_of l S T) m
  unfolding step_on next says corners_of
  lay-tracks room long =
      ap (λ (o : Option ℕ).
      settle o (record { answer = says (lay net S T) l; state = store (next (lay net S T) l) m }) m)
      (lay-from-9 room (not (sound m)) l net S T long (ap not y.fine) y.may)

  module _ (path₀ path : List ℕ) (k : Counted ℕ) (long₀ : most_corners * 2 ≤ length path₀)
      (found : Found (layout_of b.width b.height (pen_in b) b.entries t) S T path₀ path k) where
    searched : Searched (path_of l S T) path k
    unfolding held
    searched =
        record {
          nowhere = λ e. ap no_path (found.nowhere e).0 ∙ unfold no_path in refl;
          corners = λ n e.
              let f = found.found n e in
              record {
                some = f.some;
                count = f.count;
                corners = λ few. (
                  drop (length (each point_numbers (corners_on (path_of l S T)))) path₀,
                  f.corners (omega arith),
                );
              };
        }

    pub may-lay : most_corners * 2 ≤ length path → MayTrack m net path k
    unfolding path_of
    may-lay long =
        may-track m net path k (free l) (free-inside l) S (at T) y.fine y.may.allowed long searched

    pub lay_done : (limit : ℕ) (ks : List ℕ) (r : Answer) (b' : Board) (t' s' ks' : List ℕ)
        → ((o : Option (List Point)) → Searched o path k → Tracked net limit o m ks r b' t' s' ks')
        → OutputIn (lay net S T) limit m ks r b' t' s' ks'
    lay_done limit ks r b' t' s' ks' h =
        step-tracked (lay net S T) net limit (path_of l S T) m ks lay-tracks r b' t' s' ks' (h (path_of l S T) searched)
