-- Text as bytes.
use Rattle.std.specs.Prelude.{ℕ, zero, suc, ◌+◌, ◌/◌, ◌%◌, true, false, List, [], ◌∷◌, ◌++◌, ltb}
use Prim.Native.String.{String, [], ◌∷◌}
use Prim.Native.Char.{code}

-- the codes of the characters
abbrev pub ascii : String → List ℕ
ascii [] = []
ascii (c ∷ s) = code c ∷ ascii s

-- the decimal digits of a number below 10 to the power of `most`
unfoldable pub digits_in : ℕ → ℕ → List ℕ
digits_in zero n = []
digits_in (suc most) n =
    elim (ltb n 10) [ true ↦ (48 + n) ∷ [] | false ↦ digits_in most (n / 10) ++ ((48 + n % 10) ∷ []) ]

-- the number in decimal
unfoldable pub decimal : ℕ → List ℕ
decimal n = digits_in (suc n) n
