-- All crossings from j on to the crossing at are joined.
use Prim.Native.Nat.{◌-◌}
use native.Mathlib.Omega.{arith}
use Rattle.runs.proofs.Line.{linked-refl, linked-down, linked-sym}
use Rattle.runs.proofs.is_left.Goals as goal

pub loop-j-init : goal.loop-j-init
loop-j-init c = linked-refl _ _ _

pub returns-then-other-j : goal.returns-then-other-j
returns-then-other-j c = λ e. record {
  j = c.loop-j.j - 1;
  before = omega arith;
  linked = linked-sym _ _ _ _ (linked-down _ _ _ _ (omega arith) (omega arith) c.loop-j.invariant c.if-link-line-ne1.false);
  stop = c.if-other-j.true;
}

pub loop-j-preserved : goal.loop-j-preserved
loop-j-preserved c = linked-down _ _ _ _ (omega arith) (omega arith) c.loop-j.invariant c.if-link-line-ne1.false
