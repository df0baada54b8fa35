-- Box after box, from the last one down, is dropped as long as it has no point of the target box.
use Rattle.sowing.specs.Seeds.{Enough}
use Rattle.sowing.proofs.boxes_near.Given as goal

abbrev pub invariant-loop-k : goal.invariant-loop-k
invariant-loop-k l = Enough l.n l.boxes l.target l.k
