-- All crossings from the crossing at up to hi are joined.
use Prim.Native.Nat.{◌-◌}
use Rattle.runs.specs.Line.{Linked}
use Rattle.runs.proofs.run_end.Given as goal

abbrev pub invariant-loop-hi : goal.invariant-loop-hi
invariant-loop-hi l = Linked l.link l.line l.at (l.hi - 1)
