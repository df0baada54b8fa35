-- All crossings from k on to the crossing at are joined.
use Rattle.runs.specs.Line.{Linked}
use Rattle.runs.proofs.back_from.Given as goal

abbrev pub invariant-loop-k : goal.invariant-loop-k
invariant-loop-k l = Linked l.link l.line l.k l.at
