-- What the contracts say of the two ends of a path.
use Rattle.std.specs.Prelude.{ℕ, ◌≡◌, Bool, true, ◌||◌, List, ◌∷◌, Ok, Err}
use Rattle.std.proofs.Math.Option.{some}
use Rattle.foil_spec.specs.Foil.{Point, Layout, free}
use Rattle.foil_spec.specs.Ledger.{off_foil, blocked, Refusal, ◌⇒◌, first}
use Rattle.foil_spec.specs.Lent.{lent, held}
use Rattle.foil_spec.specs.declared.Board.{Board}
use Rattle.foil.specs.Contract.{Checked}

-- the answer says whether the point is off the foil, whatever the lists hold
pub record OffFoil (b : Board) (p : Point) (r : Bool) : Type 0 where
  pub is : (t s : List ℕ) → r ≡ off_foil (held (lent b t s)) p

-- both ends are free; or a step is refused by this number, whatever refusals come after those for its ends
abbrev pub PointsChecked : Layout → Point → Point → Checked → Type 0
PointsChecked l S T (Ok _) = (free l S.x S.y ≡ true) × (free l T.x T.y ≡ true)
PointsChecked l S T (Err n) =
    (rs : List Refusal)
    → first ((off_foil l S || off_foil l T ⇒ 7) ∷ (blocked l S || blocked l T ⇒ 8) ∷ rs) ≡ some n
