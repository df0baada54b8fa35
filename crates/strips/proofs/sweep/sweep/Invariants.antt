-- `strips::sweep::sweep` meets its contract: the columns from x up to `at` are blocked, and the boxes from place j of
-- the row's list on have none from `at` on. The inner loop leaves `at` as it is until a box goes on past it.
use Prim.Native.Nat.{◌≤◌}
use mathlib.Core.Path.{◌≡◌}
use Rattle.strips.proofs.Sweeping.{Sweeping}
use Rattle.strips.proofs.sweep.sweep.Given as goal

abbrev pub invariant-loop-j : goal.invariant-loop-j
invariant-loop-j l =
    (l.at ≡ l.initial.at) × (l.j ≤ l.initial.j)
    × Sweeping l.boxes l.row.places l.n l.row.count l.w l.y l.x l.at l.j

abbrev pub decreases-loop-j : goal.decreases-loop-j
decreases-loop-j l = l.j

abbrev pub invariant-scan : goal.invariant-scan
invariant-scan l = Sweeping l.boxes l.row.places l.n l.row.count l.w l.y l.x l.at l.j

abbrev pub decreases-scan : goal.decreases-scan
decreases-scan l = l.j
