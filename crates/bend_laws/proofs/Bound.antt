-- The bound on bends: for the track found on a foil, for what a lay or a find answers, for a join.
use Prim.Native.Nat.{ℕ, ◌≤◌}
use native.Mathlib.Omega.{arith}
use mathlib.Core.Path.{◌≡◌, refl, ap}
use mathlib.Core.Bool.{Bool, true, not}
use mathlib.Core.List.{List}
use mathlib.Core.Option.{Option, none, some}
use lib.ListN.{length}
use Rattle.foil_spec.specs.Foil.{Point, Layout, free}
use Rattle.foil_spec.specs.Paths.{at, bends}
use Rattle.foil_spec.specs.Ledger.{strips_of, path_of, without, free_for, on_net, join_of, Room, Step, laid}
use Rattle.foil_spec.specs.Lent.{Lent, held, sound, step_on}
use Rattle.list_laws.proofs.Tests.{not-ff}
use Rattle.path_laws.proofs.Laws.{gives-first, gives_none}
use Rattle.zones.proofs.Free.{free-inside}
use Rattle.ledger_laws.proofs.Sound.{of-sound}
use Rattle.ledger_laws.proofs.Lay.{Seeks, lay-seeks, find-seeks, laid_on, first-laid, laid-unbroken}
use Rattle.box_laws.specs.Bound.{bend_bound}
use Rattle.box_laws.proofs.Bound.{fewest-bends}
use Rattle.bend_laws.specs.Bound.{TrackBends, JoinedBends, LaidBends, FoundBends, JoinBound}

pub track-bends : TrackBends
unfolding path_of strips_of
track-bends l S T cs h =
    let inside = free-inside l in
    let a = gives-first (free l) l.width l.height inside S (at T) cs h in
    fewest-bends (free l) l.width l.height inside S (at T) cs a.path a.fewest

pub joined-bends : JoinedBends
unfolding path_of
joined-bends l S T ds h = go (path_of l S T) refl
  where
    go : (o : Option (List Point)) → path_of l S T ≡ o
        → (cs : List Point) × (o ≡ some cs) × (bends cs ≤ bend_bound (length (strips_of l)))
    go none e = absurd (gives_none (free l) l.width l.height (free-inside l) S (at T) e ds h)
    go (some cs) e = (cs, refl, track-bends l S T cs e)

-- what a step that seeks a path answers
sought-bends : {s : Step} {S T : Point} → Seeks s S T → (r : Room) (m : Lent) (cs : List Point) (n : ℕ)
    → (step_on r s m).answer ≡ laid cs n → n ≤ bend_bound m.board.strips
unfolding strips_of
sought-bends {s} {S} {T} k r m cs n h =
    let l : Layout = held m in
    let o = laid_on k r m cs n h in
    let fine : sound m ≡ true = not-ff (sound m) (laid-unbroken k r (not (sound m)) l cs n o) in
    let a = first-laid k r (not (sound m)) l cs n o in
    let b = fewest-bends (free l) l.width l.height (free-inside l) S (at T) cs a.0.path a.0.fewest in
    omega (arith, a.1, b, ap bend_bound (of-sound m fine).counted)

pub laid-bends : LaidBends
laid-bends r m net S T cs n h = sought-bends (lay-seeks net S T) r m cs n h

pub found-bends : FoundBends
found-bends r m S T cs n h = sought-bends (find-seeks S T) r m cs n h

pub join-bound : JoinBound
unfolding join_of free_for strips_of
join-bound l net S cs h =
    let f : ℕ → ℕ → Bool = free (without net l) in
    let inside = free-inside (without net l) in
    let a = gives-first f l.width l.height inside S (on_net net l) cs h in
    fewest-bends f l.width l.height inside S (on_net net l) cs a.path a.fewest
