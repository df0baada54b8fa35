-- The entries before k are counted.
use Rattle.nets.specs.Measured.{Measured}
use Rattle.nets.proofs.measure.Given as goal

abbrev pub invariant-loop-k : goal.invariant-loop-k
invariant-loop-k l = Measured l.table l.k l.net l.track
