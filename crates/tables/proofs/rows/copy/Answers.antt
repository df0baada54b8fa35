-- `tables::rows::copy` meets its contract: the first i numbers are copied.
use native.Mathlib.Omega.{arith}
use mathlib.Core.Path.{refl}
use Rattle.tables.proofs.Copying.{copied_none, copied_more, copied_all}
use Rattle.tables.proofs.rows.copy.Goals as goal

pub loop-i-init : goal.loop-i-init
loop-i-init c = copied_none _ _ _

pub loop-i-preserved : goal.loop-i-preserved
loop-i-preserved c = copied_more _ _ _ _ _ (omega arith) (omega arith) (omega arith) c.loop-i.invariant

pub returns : goal.returns
returns c = copied_all _ _ _ _ _ refl (omega arith) (omega arith) c.loop-i.invariant
