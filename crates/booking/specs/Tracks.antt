-- Booking a path that was searched, whatever step looked for it: what that asks for, and what comes of it.
use Rattle.std.specs.Prelude.{ℕ, suc, ◌*◌, ◌≤◌, ◌<◌, ◌≡◌, Bool, true, List, [], ◌∷◌, ◌++◌, ltb, length, Some, None}
use Rattle.std.specs.Prelude.{Option as Counted}
use Rattle.std.proofs.Math.Option.{Option, get_or}
use Rattle.foil_spec.specs.Lists.{each}
use Rattle.foil_spec.specs.Limits.{max_entries}
use Rattle.foil_spec.specs.Foil.{Point, net_ok}
use Rattle.foil_spec.specs.Paths.{is_way, bends}
use Rattle.foil_spec.specs.Corners.{point_numbers, corners_in}
use Rattle.foil_spec.specs.Ledger.{no_path, Room, corner_room, too_long, is_too_fine, Refusal, ◌⇒◌, first}
use Rattle.foil_spec.specs.Ledger.{After, settle}
use Rattle.foil_spec.specs.Ledger.{Answer, laid}
use Rattle.foil_spec.specs.Lent.{Lent, held, store, sound, output_after}
use Rattle.foil_spec.specs.declared.Board.{Board}
use Rattle.foil.specs.Contract.{Answer as Told, Gave}
use Rattle.booking.specs.Booking.{with_legs}

-- a path of so many corners at most can have legs for all places of a table
abbrev pub most_corners : ℕ
most_corners = suc max_entries

-- what is lent keeps the rules, the net is allowed, the list has room for that many corners, and where as many as were
-- counted stand in it, they are a way over points of the foil that are clear for the net
pub record MayTrack (m : Lent) (net : ℕ) (path : List ℕ) (found : Counted ℕ) : Type 0 where
  pub fine : sound m ≡ true
  pub allowed : net_ok net ≡ true
  pub long : most_corners * 2 ≤ length path
  pub clear : ℕ → ℕ → Bool
  pub inside : (x y : ℕ) → clear x y ≡ true → (x < (held m).width) × (y < (held m).height)
  pub way : (k : ℕ) → found ≡ Some k → k ≤ most_corners → is_way clear (corners_in path k) ≡ true

-- the corners of a path, if there is one
abbrev pub corners_on : Option (List Point) → List Point
corners_on o = get_or o []

-- k counts the corners of the path o, one at least, and if they are not too many they stand at the front of a list
pub record AtFront (o : Option (List Point)) (path : List ℕ) (k : ℕ) : Type 0 where
  pub some : 1 ≤ k
  pub count : k ≡ length (corners_on o)
  pub corners : k ≤ most_corners → (rest : List ℕ) × (path ≡ each point_numbers (corners_on o) ++ rest)

-- the corners of the path o were counted, and if they are not too many they stand at the front of a list; or there is
-- no path
pub record Searched (o : Option (List Point)) (path : List ℕ) (found : Counted ℕ) : Type 0 where
  pub nowhere : found ≡ None → no_path o ≡ true
  pub corners : (k : ℕ) → found ≡ Some k → AtFront o path k

-- the refusals that are left for a net's path o over what m holds, in the room r
abbrev pub track_refusals : Room → ℕ → Option (List Point) → Lent → List Refusal
track_refusals r net o m =
    (no_path o ⇒ 9)
    ∷ (ltb (corner_room r) (length (corners_on o)) ⇒ 12)
    ∷ (too_long r (with_legs (held m) net (corners_on o)) ⇒ 10)
    ∷ (is_too_fine (with_legs (held m) net (corners_on o)) ⇒ 11)
    ∷ []

-- what comes of it: its legs are appended, and its corners answered with its bends
abbrev pub track_laid : Room → ℕ → Option (List Point) → Lent → After Answer Lent
track_laid r net o m =
    settle (first (track_refusals r net o m))
    (record {
      answer = laid (corners_on o) (bends (corners_on o));
      state = store (with_legs (held m) net (corners_on o)) m;
    })
    m

-- a booking of the path o for a net that was lent m and the output list out, on a foil of so many entries at most, left
-- what comes of it
pub record Tracked (net limit : ℕ) (o : Option (List Point)) (m : Lent) (out : List ℕ) (a : Told) (b : Board)
    (t s out' : List ℕ) : Type 0 where
  pub gave : (r : Room) → r.limit ≡ limit → r.output ≡ length out → Gave (track_laid r net o m) a b t s
  pub output : (r : Room) → r.limit ≡ limit → r.output ≡ length out
      → out' ≡ output_after (track_laid r net o m).answer out
