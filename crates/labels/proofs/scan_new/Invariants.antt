-- Crossing after crossing.
use Prim.Native.Nat.{ℕ, ◌≤◌, ◌<◌}
use mathlib.Core.Logic.{◌≢◌}
use Rattle.runs.specs.Line.{along}
use Rattle.labels.proofs.scan_new.Given as goal

abbrev pub invariant-loop-k : goal.invariant-loop-k
invariant-loop-k l = (j : ℕ) → j < l.k → l.at ≤ j → along l.labels l.line j ≢ l.v
