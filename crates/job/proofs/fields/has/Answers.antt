-- The bit of the byte, as the definition has it.
use mathlib.Core.Path.{refl}
use Rattle.foil_spec.specs.Job.{map_byte, has}
use Rattle.job.proofs.fields.has.Goals as goal

pub returns : goal.returns
unfolding has map_byte
returns c = refl
