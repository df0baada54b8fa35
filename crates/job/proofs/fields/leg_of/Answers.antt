-- The five numbers, one after the other.
use Rattle.foil_spec.specs.Foil.{entry}
use Rattle.foil_spec.specs.Job.{leg_step, step_at}
use Rattle.job.proofs.fields.leg_of.Goals as goal

pub returns : goal.returns
unfolding step_at
returns c = λ i. leg_step (entry (c.field.ensures i) (c.field-2.ensures i)
    (c.field-3.ensures i) (c.field-4.ensures i) (c.field-5.ensures i))
