-- After the bits below k, what they have left is what the definitions give for them.
use native.Mathlib.Omega.{arith}
use mathlib.Core.Path.{refl}
use Rattle.job.specs.Contract.{next_of}
use Rattle.job.proofs.Stepping.{ran-none, bit-ready, next_bit, steps-done}
use Rattle.job.proofs.running.run_steps.Goals as goal

pub loop-k-init : goal.loop-k-init
loop-k-init c = record { table = refl; strips = refl; corners = refl; ran = ran-none _ _ _ _ _ _ _ }

pub run_bit-so_far-requires-clause-may_run : goal.run_bit-so_far-requires-clause-may_run
run_bit-so_far-requires-clause-may_run c =
    bit-ready _ _ _ _ _ c.requires.ready _ _ _ _ _ _ c.loop-k.invariant.ran (omega arith) c.loop-k.invariant.table
    c.loop-k.invariant.strips

pub loop-k-preserved : goal.loop-k-preserved
loop-k-preserved c = record {
  table = omega (arith, c.run_bit-so_far.auto.table, c.loop-k.invariant.table);
  strips = omega (arith, c.run_bit-so_far.auto.strips, c.loop-k.invariant.strips);
  corners = omega (arith, c.run_bit-so_far.auto.corners, c.loop-k.invariant.corners);
  ran =
      next_bit _ _ _ _ _ c.requires.ready _ _ _ _ _ _ _ _ _ _ _ c.run_bit-so_far.ensures c.loop-k.invariant.corners
      c.loop-k.invariant.ran;
}

pub fields_at-requires-clause-begun : goal.fields_at-requires-clause-begun
fields_at-requires-clause-begun c = c.requires.ready.whole.begun

pub returns-then-so_far : goal.returns-then-so_far
unfolding next_of
returns-then-so_far c = steps-done _ _ _ _ _ _ _ _ _ _ _ c.loop-k.invariant.ran (omega arith) _ (rw c.if-so_far.true refl)

pub returns : goal.returns
unfolding next_of
returns c =
    steps-done _ _ _ _ _ _ _ _ _ _ _ c.loop-k.invariant.ran (omega arith) _ (rw (c.if-so_far.false, c.fields_at.ensures) refl)
