-- The two bytes stand in the list, low byte first.
use Prim.Native.Nat.{◌+◌, ◌*◌}
use native.Mathlib.Omega.{arith}
use mathlib.Core.Path.{refl}
use Rattle.foil_spec.specs.Job.{number, field}
use Rattle.job.proofs.fields.field.Goals as goal

pub overflow_mul-result : goal.overflow_mul-result
overflow_mul-result c = omega (
  arith,
  c.from-2.ensures,
  c.type_inv.bytes
      (c.fields_at.result + 2 * c.args.i + 1),
)

pub overflow_add-result : goal.overflow_add-result
overflow_add-result c = omega (
  arith,
  c.from.ensures,
  c.from-2.ensures,
  c.type_inv.bytes
      (c.fields_at.result + 2 * c.args.i),
  c.type_inv.bytes
      (c.fields_at.result + 2 * c.args.i + 1),
)

pub returns : goal.returns
unfolding field number
returns c = rw (c.from.ensures, c.from-2.ensures, c.fields_at.ensures) refl
