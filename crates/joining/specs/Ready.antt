-- What join asks for from its search on.
use Rattle.std.specs.Prelude.{ℕ, ◌≡◌, true}
use Rattle.foil_spec.specs.Foil.{Point}
use Rattle.foil_spec.specs.Lent.{Lent, held, sound}
use Rattle.ledger_laws.specs.Joins.{MayJoin}

-- what is lent keeps the rules, the net is allowed and in use, and the point is free for it
pub record ReadyToJoin (m : Lent) (net : ℕ) (S : Point) : Type 0 where
  pub fine : sound m ≡ true
  pub may : MayJoin (held m) net S
