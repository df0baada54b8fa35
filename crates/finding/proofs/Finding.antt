-- Find, return by return.
use Prim.Native.Nat.{ℕ, ◌-◌, ◌/◌, ◌≤◌, ◌<◌}
use native.Mathlib.Omega.{arith}
use mathlib.Core.Path.{◌≡◌, refl, sym, ap, ◌∙◌, subst}
use mathlib.Core.Bool.{true, false, not}
use mathlib.Core.List.{List, [], ◌∷◌}
use mathlib.Core.Option.{Option, none, some, get_or}
use lib.Dec.{ltb}
use lib.ListN.{length}
use borrow.Author.Tests.{lt-ltb, le-ltb}
use Rattle.foil_spec.specs.Foil.{Point, Layout}
use Rattle.foil_spec.specs.Paths.{bends}
use Rattle.foil_spec.specs.Ledger.{path_of, no_path, corners_of, Room, short, corner_room, Step, find, next, says, ◌⇒◌}
use Rattle.foil_spec.specs.Ledger.{first, refusals, settle, refusal_of}
use Rattle.foil_spec.specs.Lent.{Lent, lent, layout_of, pen_in, held, sound, step_on, over_front, output_after}
use Rattle.foil_spec.specs.declared.Board.{Board}
use Rattle.ledger_laws.proofs.Sound.{of-sound, sound-store-is}
use Rattle.ledger_laws.proofs.Drawn.{find-from-9}
use Rattle.search.specs.Search.{CornersFound}
use Rattle.foil.specs.Contract.{answer_of, Read, ReadIn}
use Rattle.std.specs.Prelude.{Some, None, Ok, Err}
use Rattle.std.specs.Prelude as std
use Rattle.foil.specs.declared.Accepted.TheVariants.{Laid}
use Rattle.foil.proofs.Writing.{read-refused, own, own-unwritten}
use Rattle.foil.proofs.Limits.{held-table}
use Rattle.finding.specs.Points.{PointsChecked}
use Rattle.finding.specs.Found.{Posed, Found}

-- a search between free points of a foil that keeps the rules
pub posed : (b : Board) (t s : List ℕ) (S T : Point) → sound (lent b t s) ≡ true
    → (u : Unit {0}) → PointsChecked (held (lent b t s)) S T (Ok u)
    → Posed t b.entries (pen_in b) b.width b.height S T
unfolding held layout_of
posed b t s S T g u y = record { table = held-table b t s g; s-free = y.0; t-free = y.1 }

-- there is a path with a corner
some-path : (o : Option (List Point)) (k : ℕ) → 1 ≤ k → k ≡ length (get_or o []) → no_path o ≡ false
unfolding no_path
some-path none k l n = absurd (omega (arith, l, n))
some-path (some cs) k l n = refl

module _ (b : Board) (t s ks : List ℕ) (S T : Point) where
  abbrev m : Lent
  m = lent b t s

  abbrev l : Layout
  l = held m

  abbrev c : Step
  c = find S T

  module _ (g : sound m ≡ true) where
    pub ends-refused : (n : ℕ) → PointsChecked l S T (Err n) → ReadIn c m ks (Err n) ks
    unfolding refusals
    ends-refused n k room long size = own-unwritten c m ks room g long n (k _)

    module _ (u : Unit {0}) (y : PointsChecked l S T (Ok u)) (ks' : List ℕ) (k? : std.Option ℕ)
        (searched : Found (layout_of b.width b.height (pen_in b) b.entries t) S T ks ks' k?) where
      found : Found l S T ks ks' k?
      unfolding held
      found = searched

      abbrev cs : List Point
      cs = corners_of l S T

      from-9 : (room : Room) → short room ≡ false → refusal_of room (not (sound m)) c l
          ≡ first ((no_path (path_of l S T) ⇒ 9) ∷ (ltb (corner_room room) (length cs) ⇒ 12) ∷ [])
      from-9 room long = own c m ks room g long ∙ find-from-9 room l S T y.0 y.1

      pub no-path : k? ≡ None → ReadIn c m ks (Err 9) ks'
      unfolding first no_path
      no-path e room long size =
          let (none-is, same) = found.nowhere e in
          subst (λ (x : List ℕ). Read c room m ks (Err 9) x) (sym same)
          (read-refused c m ks room 9 (from-9 room long ∙ rw (ap no_path none-is) refl))

      module _ (k : ℕ) (is : k? ≡ Some k) where
        written : CornersFound (path_of l S T) ks ks' k
        written = found.found k is

        count : k ≡ length cs
        unfolding corners_of
        count = written.count

        there-is : no_path (path_of l S T) ≡ false
        there-is = some-path (path_of l S T) k written.some written.count

        pub few-places : length ks / 2 < k → ReadIn c m ks (Err 12) ks'
        unfolding first corner_room
        few-places h room long size =
            subst (λ (x : List ℕ). Read c room m ks (Err 12) x) (sym (written.untouched (omega (arith, h))))
            (read-refused c m ks room 12 (from-9 room long ∙ rw (
              there-is,
              lt-ltb (room.output / 2) (length cs) (omega (arith, count, h, size)),
            ) refl))

        pub found-done : k ≤ length ks / 2 → (n : ℕ) → n ≡ k - 2 → ReadIn c m ks (Ok (Laid k n)) ks'
        unfolding first corner_room corners_of step_on settle answer_of says next bends output_after over_front
        found-done h n n-is room long size =
            let e : refusal_of room (not (sound m)) c l ≡ none =
            from-9 room long ∙ rw (
              there-is,
              le-ltb (room.output / 2) (length cs) (omega (arith, count, h, size)),
            ) refl in
            let bent : n ≡ length cs - 2 = n-is ∙ ap (λ (j : ℕ). j - 2) count in
            record {
              answer = rw e (λ i. Ok (Laid (count i) (bent i)));
              state = rw e (sym (sound-store-is m (of-sound m g)));
              output = rw e (written.corners (omega (arith, h)));
            }
