-- What equals itself is no NaN, so it has a bit pattern.
use mathlib.Core.Path.{◌≡◌, sym}
use mathlib.Core.Bool.{not, true, true≢false}
use lib.Dec.{T}
use lib.Ieee.{Float, nan, inf, fin, eq, is_nan}
use Rattle.ohms_test.proofs.show.pattern.Goals as goal

-- what equals itself is no NaN
no_nan : (x : Float) → eq x x ≡ true → T (not (is_nan x))
unfolding eq is_nan
no_nan nan h = absurd (true≢false (sym h))
no_nan (inf s) h = tt
no_nan (fin s m e) h = tt

pub float_to_bits-x : goal.float_to_bits-x
float_to_bits-x c = no_nan c.args.x c.if-not-x.false
