-- From the last crossing of the run down to the first, the least over the stops so far is carried along.
use mathlib.Core.Path.{◌≡◌}
use lib.ListN.{length}
use Rattle.runs.proofs.Inks.{Down}
use Rattle.runs.proofs.ahead_of.Given as goal

abbrev pub invariant-loop-k : goal.invariant-loop-k
invariant-loop-k l =
    (length l.ahead ≡ length l.initial.ahead) × Down l.other l.inks l.cross l.line l.v l.lo l.hi l.k l.best l.ahead
