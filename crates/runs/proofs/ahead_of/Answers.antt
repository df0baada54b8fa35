-- From the last crossing of the run down to the first, the least over the stops so far is carried along.
use Prim.Native.Nat.{◌-◌}
use native.Mathlib.Omega.{arith}
use mathlib.Core.Path.{◌∙◌}
use lib.ListN.{length-set}
use Rattle.runs.proofs.Inks.{down-more, down-done}
use Rattle.runs.proofs.ahead_of.Goals as goal

pub loop-k-preserved : goal.loop-k-preserved
loop-k-preserved c = (
  length-set c.loop-k.ahead (c.loop-k.k - 1) c.carry-best.result ∙ c.loop-k.invariant.0,
  down-more c.requires.0.crossings c.requires.1.hi-in c.loop-k-test.true (omega arith) c.loop-k.invariant.1
      (rw c.from-in-loop-k.ensures at c.carry-best.ensures),
)

pub returns : goal.returns
returns c = down-done (omega arith) c.loop-k.invariant.1
