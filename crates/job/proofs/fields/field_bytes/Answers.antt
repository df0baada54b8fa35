-- None where the bit is not set, else two for each number.
use native.Mathlib.Omega.{arith}
use mathlib.Core.Path.{refl, sym, ◌∙◌}
use Rattle.foil_spec.specs.Job.{field_count}
use Rattle.job.proofs.Places.{count_small}
use Rattle.job.proofs.fields.field_bytes.Goals as goal

pub returns-then-not-has : goal.returns-then-not-has
returns-then-not-has c = rw (sym c.has.ensures ∙ c.if-not-has.true) refl

pub overflow_mul-result : goal.overflow_mul-result
overflow_mul-result c = record { fits = unfold field_count in omega (arith, count_small c.args.k) }

pub returns : goal.returns
returns c = rw (sym c.has.ensures ∙ c.if-not-has.false) (unfold field_count in refl)
