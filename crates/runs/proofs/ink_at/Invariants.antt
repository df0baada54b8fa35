-- The least over the stops so far is carried along.
use lib.ListN.{get_or}
use Rattle.runs.specs.Ink.{Least}
use Rattle.runs.proofs.ink_at.Given as goal

abbrev pub invariant-loop-k : goal.invariant-loop-k
invariant-loop-k l =
    Least l.other l.inks l.cross l.line l.v l.h l.hi l.h l.k (get_or l.cross l.at 0) l.best
