-- The resistance of a laid net. An f64 is a `Float` of lib.Ieee: a NaN, an infinity, or a signed m * 2 ^ e.
use Rattle.std.specs.Prelude.{ℕ, Bool, not, ◌&&◌, List, [], ◌∷◌, pos, Float}
use Rattle.std.specs.Float.{binary64}
use Rattle.std.specs.Float.Ieee.{of_int, add, mul, div, lt, le}
use Rattle.std.specs.Float.Ieee.Scale.{finite}
use Rattle.foil_spec.specs.Foil.{Layout, net_ok}
use Rattle.foil_spec.specs.Nets.{in_use, net_length, net_bends}
use Rattle.foil_spec.specs.Ledger.{Refusal, ◌⇒◌}
use Rattle.foil_spec.specs.declared.Ink.{Ink}

-- a whole number as an f64
unfoldable pub whole : ℕ → Float
whole n = of_int binary64 (pos n)

-- 0 < R ≤ 1,000
unfoldable pub resistance_ok : Float → Bool
resistance_ok x = finite x && lt (whole 0) x && le x (whole 1000)

-- 1 ≤ w ≤ 64
unfoldable pub width_ok : Float → Bool
width_ok x = finite x && le (whole 1) x && le x (whole 64)

-- 0 ≤ c ≤ 4; −0 equals 0, so it is in
unfoldable pub bend_ok : Float → Bool
bend_ok x = finite x && le (whole 0) x && le x (whole 4)

-- 22 does not apply
unfoldable pub ink_ok : Ink → Bool
ink_ok i = resistance_ok i.sheet && width_ok i.width && bend_ok i.bend

-- (L / w + c × B) × R, each of the four operations rounded once to an f64
unfoldable pub formula : ℕ → ℕ → Ink → Float
formula L B i =
    mul binary64
    (add binary64 (div binary64 (whole L) i.width) (mul binary64 i.bend (whole B)))
    i.sheet

-- the call's own refusals in their order
unfoldable pub ohms_refusals : ℕ → Ink → Layout → List Refusal
ohms_refusals net i l = (not (net_ok net) ⇒ 4) ∷ (not (in_use net l.entries) ⇒ 6) ∷ (not (ink_ok i) ⇒ 22) ∷ []

-- what it answers where it is not refused
unfoldable pub ohms_of : ℕ → Ink → Layout → Float
ohms_of net i l = formula (net_length net l) (net_bends net l) i
