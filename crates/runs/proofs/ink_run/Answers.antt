-- Crossing after crossing gets the least from both sides.
use native.Mathlib.Omega.{arith}
use Rattle.runs.proofs.Inks.{inked-next, inked-done}
use Rattle.runs.proofs.ink_run.Goals as goal

pub loop-k-preserved : goal.loop-k-preserved
loop-k-preserved c = inked-next (omega arith) (omega (arith, c.requires.has_line.0, c.requires.swept.crossings.few)) c.loop-k.invariant
    (c.requires.swept.up.at c.loop-k.k (omega arith) (omega arith)).least (c.requires.swept.down.at c.loop-k.k (omega arith) (omega arith)).least
    c.ink_of.ensures c.put_ink.ensures

pub returns : goal.returns
returns c = inked-done (omega arith) c.loop-k.invariant
