-- The rows have the net's legs, of the entries before place k.
use mathlib.Core.Path.{refl}
use native.Mathlib.Omega.{arith}
use Rattle.joining.proofs.Own.{own-none, own-done}
use Rattle.joining.proofs.own_legs.Goals as goal

pub loop-k-init : goal.loop-k-init
loop-k-init c = (own-none _ _ _ c.requires.2, refl)

pub keep_own-j-requires : goal.keep_own-j-requires
keep_own-j-requires c = (omega arith, omega arith, c.loop-k.invariant.0)

pub loop-k-preserved : goal.loop-k-preserved
loop-k-preserved c = (c.keep_own-j.ensures, omega (arith, c.keep_own-j.auto.rows, c.loop-k.invariant.1))

pub shape_of-rows : goal.shape_of-rows
shape_of-rows c = c.loop-k.invariant.1

pub returns : goal.returns
returns c = own-done _ _ _ _ _ _ (omega arith) (omega arith) c.loop-k.invariant.0
