-- `strips::locate` meets its contract: none of the strips before place k holds the point, and once one begins past it
-- none of the rest does.
use Prim.Native.Nat.{ℕ, ◌-◌, ◌≤◌, ◌<◌}
use mathlib.Core.Bool.{false}
use mathlib.Core.Path.{◌≡◌}
use Rattle.foil_spec.specs.Strips.{holds}
use Rattle.foil_spec.specs.Lent.{listed_strip}
use Rattle.strips.proofs.locate.Given as goal

abbrev pub invariant-loop-k : goal.invariant-loop-k
invariant-loop-k l = (l.k ≤ l.count) × ((i : ℕ) → i < l.k → holds l.point (listed_strip l.list i) ≡ false)

abbrev pub decreases-loop-k : goal.decreases-loop-k
decreases-loop-k l = l.count - l.k
