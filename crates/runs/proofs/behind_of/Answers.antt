-- From the first crossing of the run up to the last, the least over the stops so far is carried along.
use native.Mathlib.Omega.{arith}
use mathlib.Core.Path.{◌∙◌}
use lib.ListN.{length-set}
use Rattle.runs.proofs.Inks.{up_more, up_done}
use Rattle.runs.proofs.behind_of.Goals as goal

pub loop-k-preserved : goal.loop-k-preserved
loop-k-preserved c = (
  length-set c.loop-k.behind c.loop-k.k c.carry-best.result ∙ c.loop-k.invariant.0,
  up_more c.requires.0.crossings c.requires.1.hi-in c.loop-k-test.true (omega arith) c.loop-k.invariant.1
      (rw c.from-in-loop-k.ensures at c.carry-best.ensures),
)

pub returns : goal.returns
returns c = up_done (omega arith) c.loop-k.invariant.1
