-- Crossing after crossing.
use Prim.Native.Nat.{◌≤◌}
use Rattle.labels.specs.Pass.{RunFilled}
use Rattle.labels.proofs.fill_run.Given as goal

abbrev pub invariant-loop-k : goal.invariant-loop-k
invariant-loop-k l =
    (l.new ≤ l.k) × RunFilled l.line l.lo l.k l.v l.initial.labels l.labels l.new
