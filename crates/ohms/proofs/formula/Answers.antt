-- The code has the four operations in the order of the definition.
use mathlib.Core.Path.{refl}
use Rattle.foil_spec.specs.Ohms.{whole, formula}
use Rattle.ohms.proofs.formula.Goals as goal

pub returns : goal.returns
unfolding formula whole
returns c = refl
