-- What decides whether something holds.
use mathlib.Core.Path.{◌≡◌, refl, sym}
use mathlib.Core.Bool.{Bool, true, false, true≢false}
use Rattle.strips.specs.Decided.{Decided}

pub decided : {P : Type 0} (r : Bool) → (r ≡ true → P) → (P → r ≡ true) → Decided P r
decided true f g = f refl
decided false f g = λ p. absurd (true≢false (sym (g p)))
