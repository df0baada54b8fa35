-- After the map byte and the fields of the bits below i.
use Prim.Native.Nat.{◌+◌}
use native.Mathlib.Omega.{arith}
use mathlib.Core.Path.{refl}
use Rattle.foil_spec.specs.Job.{fields_at}
use Rattle.job.proofs.Places.{fields-more, fields-done, fields-near}
use Rattle.job.proofs.fields.fields_at.Goals as goal

pub loop-i-init : goal.loop-i-init
unfolding fields_at
loop-i-init c = (omega arith, refl)

pub overflow_add-place-in-loop-i : goal.overflow_add-place-in-loop-i
overflow_add-place-in-loop-i c = omega (
  arith,
  fields-more c.args.bytes.now
      c.args.at c.loop-i.i _
      c.field_bytes-place.ensures,
  fields-near c.args.bytes.now
      c.args.at (c.loop-i.i + 1),
)

pub loop-i-preserved : goal.loop-i-preserved
loop-i-preserved c = (omega arith, rw c.loop-i.invariant.1 (fields-more _ _ _ _ c.field_bytes-place.ensures))

pub returns : goal.returns
returns c = fields-done _ _ _ _ _ c.loop-i.invariant.1 (omega arith)
