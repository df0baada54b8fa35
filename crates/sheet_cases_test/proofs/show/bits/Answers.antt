-- `sheet_cases_test::show::bits` is safe: what equals itself is no NaN, so it has a bit pattern.
use Rattle.std.proofs.Common.{◌≡◌, true, not, T, sym, true≢false}
use lib.Ieee.{Float, nan, inf, fin, eq, is_nan}
use Rattle.sheet_cases_test.proofs.show.bits.Goals as goal

-- what equals itself is no NaN
no_nan : (x : Float) → eq x x ≡ true → T (not (is_nan x))
unfolding eq is_nan
no_nan nan h = absurd (true≢false (sym h))
no_nan (inf s) h = tt
no_nan (fin s m e) h = tt

pub float_to_bits-pattern : goal.float_to_bits-pattern
float_to_bits-pattern c = no_nan c.args.x c.if-not-x.false
