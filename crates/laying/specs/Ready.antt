-- What lay asks for from its search on.
use Rattle.std.specs.Prelude.{ℕ, ◌≡◌, true}
use Rattle.foil_spec.specs.Foil.{Point}
use Rattle.foil_spec.specs.Lent.{Lent, held, sound}
use Rattle.ledger_laws.specs.Demand3.{MayLay}

-- what is lent keeps the rules, the net is allowed and not in use, and the points are free
pub record ReadyToLay (m : Lent) (net : ℕ) (S T : Point) : Type 0 where
  pub fine : sound m ≡ true
  pub may : MayLay (held m) net S T
