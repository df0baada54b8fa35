-- How bent a track can get, by the number of strips before it is booked, as it is stated (document 02, P13).
use Rattle.std.specs.Prelude.{ℕ, ◌≤◌, ◌≡◌, true, List, length}
use Rattle.std.proofs.Math.Option.{some}
use Rattle.foil_spec.specs.Foil.{Point, Layout, free}
use Rattle.foil_spec.specs.Paths.{is_path, bends}
use Rattle.foil_spec.specs.Ledger.{strips_of, path_of, without, join_of, Room, lay, find, laid}
use Rattle.foil_spec.specs.Lent.{Lent, step_on}
use Rattle.box_laws.specs.Bound.{bend_bound}

-- the track found on a foil
abbrev pub TrackBends : Type 0
TrackBends =
    (l : Layout) (S T : Point) (cs : List Point) → path_of l S T ≡ some cs
    → bends cs ≤ bend_bound (length (strips_of l))

-- where a path joins S and T, however bent, a track is found and has so few bends
abbrev pub JoinedBends : Type 0
JoinedBends =
    (l : Layout) (S T : Point) (ds : List Point) → is_path (free l) S T ds ≡ true
    → (cs : List Point) × (path_of l S T ≡ some cs) × (bends cs ≤ bend_bound (length (strips_of l)))

-- a lay that is accepted answers so few bends, by the count of strips in the record before the lay
abbrev pub LaidBends : Type 0
LaidBends =
    (r : Room) (m : Lent) (net : ℕ) (S T : Point) (cs : List Point) (n : ℕ)
    → (step_on r (lay net S T) m).answer ≡ laid cs n → n ≤ bend_bound m.board.strips

-- and so does a find
abbrev pub FoundBends : Type 0
FoundBends =
    (r : Room) (m : Lent) (S T : Point) (cs : List Point) (n : ℕ) → (step_on r (find S T) m).answer ≡ laid cs n
    → n ≤ bend_bound m.board.strips

-- a join goes over the foil without its net, and has so few bends by the strips of that
abbrev pub JoinBound : Type 0
JoinBound =
    (l : Layout) (net : ℕ) (S : Point) (cs : List Point) → join_of net l S ≡ some cs
    → bends cs ≤ bend_bound (length (strips_of (without net l)))
