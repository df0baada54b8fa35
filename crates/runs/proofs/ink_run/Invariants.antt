-- Crossing after crossing gets the least from both sides.
use Rattle.runs.specs.Ink.{RunInked}
use Rattle.runs.proofs.ink_run.Given as goal

abbrev pub invariant-loop-k : goal.invariant-loop-k
invariant-loop-k l =
    RunInked l.other l.inks l.cross l.line l.v l.lo l.hi l.k l.labels l.initial.own l.own
