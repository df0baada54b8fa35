-- Where the ohms are exact. `HasValue x s a c` says that the f64 x is finite, has the sign s, and is a / c in size.
use Rattle.std.specs.Prelude.{ℕ, ◌+◌, ◌*◌, ◌/◌, ◌≤◌, ◌≡◌, Bool, true, false, List, [], ◌∷◌, eqb, Float}
use Rattle.std.specs.Float.Ieee.Exact.{HasValue}
use Rattle.foil_spec.specs.Lists.{any}
use Rattle.foil_spec.specs.Ledger.{Room}
use Rattle.foil_spec.specs.Lent.{Lent, held}
use Rattle.foil_spec.specs.Nets.{net_length, net_bends}
use Rattle.foil_spec.specs.Calls.{ohms, measured, call_on}
use Rattle.foil_spec.specs.declared.Ink.{Ink}

-- the widths that are named
unfoldable pub widths : List ℕ
widths = 1 ∷ 2 ∷ 4 ∷ 8 ∷ []

-- w is one of these; c is a / 256 and at most 1; R is b / 256 and at most 16. The signs are left to 22.
pub record Named (i : Ink) (w a b : ℕ) : Type 0 where
  pub width : HasValue i.width false w 1
  pub one_of : any (eqb w) widths ≡ true
  pub bend : (s : Bool) × HasValue i.bend s a 256
  pub bend-most : a ≤ 256
  pub sheet : (s : Bool) × HasValue i.sheet s b 256
  pub sheet-most : b ≤ 4096

-- the squares of a net, in units of 1 / 256
unfoldable pub squares : ℕ → ℕ → ℕ → ℕ → ℕ
squares L w a B = L * 256 / w + a * B

-- the ohms that are answered for such figures are those squares times b, in units of 1 / 65,536, with nothing rounded
abbrev pub ExactOhms : Type 0
ExactOhms =
    (r : Room) (net : ℕ) (i : Ink) (m : Lent) (x : Float) (w a b : ℕ)
    → (call_on r (ohms net i) m).answer ≡ measured x → Named i w a b
    → HasValue x false (squares (net_length net (held m)) w a (net_bends net (held m)) * b) 65536
