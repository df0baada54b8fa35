-- An accepted answer ends no job; a refusal does by its number.
use native.Mathlib.Omega.{arith}
use Rattle.job.proofs.Ending.{ends-other, ends-number}
use Rattle.job.proofs.running.ends_job.Goals as goal

pub returns-in-Ok : goal.returns-in-Ok
returns-in-Ok c = ends-other _ _ c.in-Ok.is

pub returns-then-number-eq2 : goal.returns-then-number-eq2
returns-then-number-eq2 c = ends-number _ _ _ c.in-Err.is (grind (arith, c.number-number.ensures))

pub returns-else-number-eq2 : goal.returns-else-number-eq2
returns-else-number-eq2 c = ends-number _ _ _ c.in-Err.is (grind (arith, c.number-number.ensures))
