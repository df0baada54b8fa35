-- The entries before k are counted.
use native.Mathlib.Omega.{arith}
use mathlib.Core.Path.{refl}
use Rattle.nets.proofs.Measuring.{measured-none, measured-done}
use Rattle.nets.proofs.measure.Goals as goal

pub loop-k-init : goal.loop-k-init
loop-k-init c = measured-none _ _ _ refl refl

pub with_entry-track-requires : goal.with_entry-track-requires
with_entry-track-requires c = record {
  k_lt_max_entries = (omega arith, omega arith);
  fact = c.requires.box c.loop-k.k (omega arith);
  measured = c.loop-k.invariant;
}

pub loop-k-preserved : goal.loop-k-preserved
loop-k-preserved c = c.with_entry-track.ensures

pub returns : goal.returns
returns c = measured-done _ _ _ _ _ (omega arith) (omega arith) c.loop-k.invariant
