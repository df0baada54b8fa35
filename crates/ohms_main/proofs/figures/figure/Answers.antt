-- A pattern whose exponent is not all ones is no NaN's, and one whose exponent is has no finite f64.
use borrow.Author.Tests.{ne_eqb}
use lib.Ieee.{nan_bits}
use Rattle.ohms_main.proofs.Reading.{as_bits, as-infinity, one-by-none}
use Rattle.ohms_main.proofs.figures.figure.Goals as goal

pub returns-then-bits-eq2047 : goal.returns-then-bits-eq2047
returns-then-bits-eq2047 c = as-infinity _ _ one-by-none c.if-bits-eq2047.true

pub float_from_bits-result : goal.float_from_bits-result
unfolding nan_bits
float_from_bits-result c = rw (ne_eqb _ _ c.if-bits-eq2047.false) tt

pub returns : goal.returns
returns c = as_bits _ c.if-bits-eq2047.false
