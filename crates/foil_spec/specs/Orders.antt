-- The order in which refusals are tried, by their numbers, as documents 01 and 02 write it. Where two can be met at
-- once on a small foil, a case of specs/Starred meets both; a foil of more than 4,096 strips (11) is too large for one.
use Rattle.std.specs.Prelude.{ℕ, ◌≡◌, Bool, List, [], ◌∷◌, map}
use Rattle.foil_spec.specs.Foil.{Layout}
use Rattle.foil_spec.specs.Ledger.{Room, by_pen, by_reach, Step, new_foil, draw, lay, lift, look_up, put_leg, save}
use Rattle.foil_spec.specs.Ledger.{find, book, slip, join, carry, Refusal, refusals, after_lent}
use Rattle.foil_spec.specs.Ohms.{ohms_refusals}
use Rattle.foil_spec.specs.Calls.{whole_refusals, list_refusals}
use Rattle.foil_spec.specs.declared.Ink.{Ink}

-- the numbers of some refusals
unfoldable pub numbers_from : List Refusal → List ℕ
numbers_from rs = map (λ (r : Refusal). r.number) rs

-- the numbers that a step meets after 12 and 13
unfoldable pub order : Step → List ℕ
order (new_foil W H (by_pen p)) = 1 ∷ 20 ∷ []
order (new_foil W H (by_reach d)) = 1 ∷ 2 ∷ []
order (draw x0 y0 x1 y1) = 3 ∷ 21 ∷ 10 ∷ 11 ∷ []
order (lay net S T) = 4 ∷ 5 ∷ 7 ∷ 8 ∷ 9 ∷ 12 ∷ 10 ∷ 11 ∷ []
order (lift net) = 4 ∷ 6 ∷ 11 ∷ []
order (look_up p) = 7 ∷ 8 ∷ []
order (put_leg e) = 4 ∷ 3 ∷ 21 ∷ 10 ∷ 11 ∷ []
order save = 11 ∷ 12 ∷ []
order (find S T) = 7 ∷ 8 ∷ 9 ∷ 12 ∷ []
order (book net ks) = 4 ∷ 5 ∷ 19 ∷ 10 ∷ 11 ∷ []
order slip = 12 ∷ []
order (join net S) = 4 ∷ 6 ∷ 7 ∷ 8 ∷ 9 ∷ 12 ∷ 10 ∷ 11 ∷ []
order (carry o) = 12 ∷ 12 ∷ 13 ∷ 10 ∷ 11 ∷ []

-- so they are tried in any room, on any foil: of a step, of a record as a whole, of the ohms, of a list of lays
pub record InOrder (r : Room) (broken : Bool) (l : Layout) : Type 0 where
  pub of-step : (s : Step) → numbers_from (after_lent r broken (refusals s r l)) ≡ 12 ∷ 13 ∷ order s
  pub of-record : (bs : List ℕ) (at : ℕ)
      → numbers_from (whole_refusals r broken bs at) ≡ 18 ∷ 12 ∷ 13 ∷ 14 ∷ 15 ∷ 16 ∷ 17 ∷ 14 ∷ []
  pub of-ohms : (net : ℕ) (i : Ink)
      → numbers_from (after_lent r broken (ohms_refusals net i l)) ≡ 12 ∷ 13 ∷ 4 ∷ 6 ∷ 22 ∷ []
  pub of-list : (ws : List ℕ) (n : ℕ) → numbers_from (list_refusals r broken ws n) ≡ 12 ∷ 12 ∷ 13 ∷ []
