-- The ink is read as its definition says: a number by its bytes, the lower first, and a figure as the f64 of its bits,
-- or as an infinity where that is not finite.
use Prim.Native.Nat.{ℕ, zero, suc, ◌+◌, ◌/◌, ◌%◌}
use mathlib.Core.Path.{◌≡◌, refl, ap, ◌∙◌}
use mathlib.Core.Bool.{Bool, true, false, not, cond}
use mathlib.Core.List.{List}
use lib.Dec.{eqb}
use lib.Ieee.{Float, nan, inf, binary64, prec, low, odd, div, of_fields, of_bits}
use lib.Ieee.Scale.{finite}
use borrow.Author.Tests.{eq-eqb, ne_eqb}
use Rattle.foil_spec.specs.declared.Ink.{Ink}
use Rattle.ohms_main.specs.InkBytes.{number8, figure_of, ink_in}

odd-finite : (d : ℕ) (s : Bool) (q k l : ℕ) → finite (odd d s q k l) ≡ true
unfolding odd
odd-finite d s zero k l = refl
odd-finite d s (suc q) k l = refl

-- a field of ones is that of an infinity or a NaN
fields-finite : (s : Bool) (x t : ℕ) → finite (of_fields binary64 s x t) ≡ not (eqb x 2047)
unfolding of_fields
fields-finite s zero t = odd-finite (prec binary64) s t 0 (low binary64)
fields-finite s (suc x) t = go (eqb (suc x) 2047) (eqb t 0)
  where
    go : (b c : Bool) → finite (cond b (cond c (inf s) nan) (odd 53 s (4503599627370496 + t) x 1074)) ≡ not b
    go true true = refl
    go true false = refl
    go false c = odd-finite 53 s (4503599627370496 + t) x 1074

bits-finite : (n : ℕ)
    → finite (of_bits binary64 n) ≡ not (eqb (n % 9223372036854775808 / 4503599627370496) 2047)
unfolding of_bits
bits-finite n = fields-finite _ (n % 9223372036854775808 / 4503599627370496) _

module _ (n : ℕ) where
  pub as_bits : (n % 9223372036854775808 / 4503599627370496 ≡ 2047 → ⊥) → of_bits binary64 n ≡ figure_of n
  unfolding figure_of
  as_bits h = rw (bits-finite n ∙ ap not (ne_eqb _ _ h)) refl

  pub as-infinity : (x : Float) → x ≡ inf false → n % 9223372036854775808 / 4503599627370496 ≡ 2047 → x ≡ figure_of n
  unfolding figure_of
  as-infinity x e h = rw (bits-finite n ∙ ap not (eq-eqb _ _ h)) e

-- 1 / 0
pub one-by-none : div binary64 (of_bits binary64 0x3ff0_0000_0000_0000) (of_bits binary64 0x0000_0000_0000_0000)
    ≡ inf false
unfolding div of_bits
one-by-none = refl

-- ---- the bytes

pub ink-is : (bs : List ℕ) (m n o : ℕ) (x y z : Float) → m ≡ number8 bs 0 → x ≡ figure_of m → n ≡ number8 bs 8
    → y ≡ figure_of n → o ≡ number8 bs 16 → z ≡ figure_of o
    → ◌≡◌ {A = Ink} (record { sheet = x; width = y; bend = z }) (ink_in bs)
unfolding ink_in
ink-is bs m n o x y z a p b q c r = rw (p, q, r, a, b, c) refl
