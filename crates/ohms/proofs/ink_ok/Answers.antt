-- The six tests are those of the definition, once it has no test that a figure is finite.
use native.Mathlib.Omega.{arith}
use Rattle.ohms.proofs.Figures.{ink-is}
use Rattle.ohms.proofs.ink_ok.Goals as goal

pub returns-then-ink-5 : goal.returns-then-ink-5
returns-then-ink-5 c = rw (ink-is c.args.ink) (grind arith)

pub returns-else-ink-5 : goal.returns-else-ink-5
returns-else-ink-5 c = rw (ink-is c.args.ink) (grind arith)
