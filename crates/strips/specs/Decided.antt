-- An answer that says whether something holds.
use Rattle.std.specs.Prelude.{Bool, true, false}

-- the answer says whether P
abbrev pub Decided : Type 0 → Bool → Type 0
Decided P true = P
Decided P false = P → ⊥
