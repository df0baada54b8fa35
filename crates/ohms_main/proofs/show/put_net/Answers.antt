-- Each answer has its line.
use native.Mathlib.Omega.{arith}
use Rattle.ohms_main.proofs.Digits.{as-told}
use Rattle.ohms_main.proofs.show.put_net.Goals as goal

pub put_ohms-requires : goal.put_ohms-requires
put_ohms-requires c = record { in_bounds = omega arith; t = c.requires.has_bits _ c.in-Ohms.is }

pub returns-in-Refused : goal.returns-in-Refused
returns-in-Refused c = record { put = as-told _ _ _ c.in-Refused.is c.put_refused.ensures.put; upper_bound = c.put_refused.ensures.upper_bound }

pub returns-in-Ohms : goal.returns-in-Ohms
returns-in-Ohms c = record { put = as-told _ _ _ c.in-Ohms.is c.put_ohms.ensures.put; upper_bound = c.put_ohms.ensures.upper_bound }
