-- Crossing after crossing, none so far has the label.
use Prim.Native.Nat.{ℕ, ◌≤◌, ◌<◌}
use mathlib.Core.Logic.{◌≢◌}
use Rattle.runs.specs.Line.{across}
use Rattle.runs.proofs.first_stop.Given as goal

abbrev pub invariant-loop-k : goal.invariant-loop-k
invariant-loop-k l = (q : ℕ) → q < l.k → l.lo ≤ q → across l.other l.line q ≢ l.v
