-- Bit 5 is set, and its fields give the pen; or it is not, and bit 0 gives the reach.
use native.Mathlib.Omega.{arith}
use mathlib.Core.Path.{sym, ◌∙◌}
use Rattle.foil_spec.specs.Job.{field_count}
use Rattle.foil.specs.Contract.{clearance_of}
use Rattle.job.proofs.Places.{field-given}
use Rattle.job.proofs.Bits.{by-pen, by-reach}
use Rattle.job.proofs.fields.clearance_of.Goals as goal

pub has-requires : goal.has-requires
has-requires c = (c.requires.0.begun.there, omega arith)

pub field-requires : goal.field-requires
unfolding field_count
field-requires c = field-given _ _ c.requires.0 5 0 (omega arith) (omega arith) (sym c.has.ensures ∙ c.if-has.true)

pub field-requires-then-has : goal.field-requires-then-has
unfolding field_count
field-requires-then-has c = field-given _ _ c.requires.0 5 1 (omega arith) (omega arith)
    (sym c.has.ensures ∙ c.if-has.true)

pub returns-then-has : goal.returns-then-has
unfolding clearance_of
returns-then-has c = by-pen _ _ (sym c.has.ensures ∙ c.if-has.true) _ _ c.field.ensures c.field-then-has.ensures

pub field-requires-2 : goal.field-requires-2
unfolding field_count
field-requires-2 c = field-given _ _ c.requires.0 0 2 (omega arith) (omega arith) c.requires.1

pub returns : goal.returns
unfolding clearance_of
returns c = by-reach _ _ (sym c.has.ensures ∙ c.if-has.false) _ c.field-2.ensures
