-- What the contract of a list of nets says: record, lists, corners and answers are what the definitions give.
use Rattle.std.specs.Prelude.{ℕ, ◌≡◌, Bool, List, [], ◌∷◌, length, Ok, Err, is_ok}
use Rattle.foil_spec.specs.Lists.{each, any}
use Rattle.foil_spec.specs.Ledger.{After}
use Rattle.foil_spec.specs.Ledger.{Answer as Outcome}
use Rattle.foil_spec.specs.Lent.{Lent, room_in, step_on, over_front, numbers_out}
use Rattle.foil_spec.specs.Wishes.{wishes}
use Rattle.foil_spec.specs.Calls.{act_each}
use Rattle.foil_spec.specs.declared.Board.{Board}
use Rattle.foil.specs.Contract.{Answer, answer_of}
use Rattle.foil.specs.declared.Accepted.TheVariants.{Done, Laid, Found, Wrote}
use Rattle.listing.specs.declared.InNumbers.{InNumbers}

-- the numbers of each case of an answer
unfoldable pub in_numbers : Answer → InNumbers
in_numbers (Err n) = record { number = n; corners = 0; bends = 0 }
in_numbers (Ok Done) = record { number = 0; corners = 0; bends = 0 }
in_numbers (Ok (Laid c b)) = record { number = 0; corners = c; bends = b }
in_numbers (Ok (Found k)) = record { number = 0; corners = 0; bends = 0 }
in_numbers (Ok (Wrote n)) = record { number = 0; corners = 0; bends = 0 }

-- a place of the answers' list is three of them: that of a refusal, 0 for none, and those of corners and bends
unfoldable pub place_numbers : InNumbers → List ℕ
place_numbers n = n.number ∷ n.corners ∷ n.bends ∷ []

-- the place of an answer
unfoldable pub answer_numbers : Outcome → List ℕ
answer_numbers a = place_numbers (in_numbers (answer_of a))

-- the answer is no refusal
unfoldable pub took : Outcome → Bool
took a = is_ok (answer_of a)

-- the record b, the table t and the strips s are those of a, and did says whether one of its steps was accepted; its
-- corners stand one after the other at the front of the corner list, which was out, and its answers at the front of
-- theirs, which was ans
pub record ListGave (a : After (List Outcome) Lent) (out ans : List ℕ) (did : Bool) (b : Board) (t s out' ans' : List ℕ)
    : Type 0 where
  pub board : b ≡ a.state.board
  pub table : t ≡ a.state.table
  pub strips : s ≡ a.state.strips
  pub laid : did ≡ any took a.answer
  pub output : out' ≡ over_front (each numbers_out a.answer) out
  pub answers : ans' ≡ over_front (each answer_numbers a.answer) ans

-- the wishes ws were laid on what m holds, on a foil of so many entries at most
abbrev pub ListIn :
    ℕ → List ℕ → Lent → List ℕ → List ℕ → Bool → Board → List ℕ → List ℕ → List ℕ → List ℕ → Type 0
ListIn limit ws m out ans did b t s out' ans' =
    ListGave (act_each step_on (room_in limit m (length out)) (wishes ws) m) out ans did b t s out' ans'
