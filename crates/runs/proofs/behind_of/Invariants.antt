-- From the first crossing of the run up to the last, the least over the stops so far is carried along.
use mathlib.Core.Path.{◌≡◌}
use lib.ListN.{length}
use Rattle.runs.proofs.Inks.{Up}
use Rattle.runs.proofs.behind_of.Given as goal

abbrev pub invariant-loop-k : goal.invariant-loop-k
invariant-loop-k l =
    (length l.behind ≡ length l.initial.behind) × Up l.other l.inks l.cross l.line l.v l.lo l.hi l.k l.best l.behind
