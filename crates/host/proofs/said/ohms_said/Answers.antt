-- 0 of the code is 0 ohms.
use mathlib.Core.Path.{sym, ap}
use lib.Ieee.{of_int, of_bits}
use Rattle.foil_spec.specs.Ohms.{whole}
use Rattle.host.specs.Calls.{ohms_said}
use Rattle.host.proofs.said.ohms_said.Goals as goal

pub returns-in-Refused : goal.returns-in-Refused
unfolding ohms_said whole of_int of_bits
returns-in-Refused c = sym (ap ohms_said c.in-Refused.is)
