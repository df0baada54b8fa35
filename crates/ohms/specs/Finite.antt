-- No NaN and no infinity comes out of a call.
use Rattle.std.specs.Prelude.{ℕ, ◌≡◌, true, Float}
use Rattle.std.specs.Float.Ieee.Scale.{finite}
use Rattle.foil_spec.specs.Ledger.{Room}
use Rattle.foil_spec.specs.Lent.{Lent}
use Rattle.foil_spec.specs.Calls.{ohms, measured, call_on}
use Rattle.foil_spec.specs.declared.Ink.{Ink}

-- the ohms that are answered, whatever is lent and whatever figures are given, are a finite f64
abbrev pub FiniteOhms : Type 0
FiniteOhms =
    (r : Room) (net : ℕ) (i : Ink) (m : Lent) (x : Float)
    → (call_on r (ohms net i) m).answer ≡ measured x → finite x ≡ true
