-- All crossings from j on to the crossing at are joined.
use Rattle.runs.specs.Line.{Linked}
use Rattle.runs.proofs.is_left.Given as goal

abbrev pub invariant-loop-j : goal.invariant-loop-j
invariant-loop-j l = Linked l.link l.line l.j l.at
