-- `boards::combs` meets its contract: there are fewer teeth than columns.
use Prim.Native.Nat.{◌<◌, ◌≤◌, ◌-◌}
use Rattle.boards.proofs.combs.Given as goal

abbrev pub invariant-loop-x : goal.invariant-loop-x
invariant-loop-x l = (l.i < l.x) × (l.x ≤ 128)

abbrev pub decreases-loop-x : goal.decreases-loop-x
decreases-loop-x l = 128 - l.x
