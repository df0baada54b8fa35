-- What a list of calls on one foil lists of a step is what the step left by its contract.
use Rattle.std.specs.Prelude.{ℕ, ◌≡◌, List, ◌∷◌}
use Rattle.foil_spec.specs.Ledger.{Step}
use Rattle.foil_spec.specs.Ledger.{Answer as Outcome}
use Rattle.foil_spec.specs.Lent.{Lent, lent}
use Rattle.foil_spec.specs.Calls.{step, answered}
use Rattle.foil_spec.specs.Sequence.{Lending, front, room_for, back, Left, run_lent}
use Rattle.foil_spec.specs.declared.Board.{Board}
use Rattle.foil.specs.Contract.{Answer, answer_of, Wrote}

-- o has the answer that r tells, the whole lists m with what the call c left of its front part put back, and the output
-- list out'
pub record Listed (c : Lending) (m : Lent) (o : Left) (r : Answer) (left : Lent) (out' : List ℕ) : Type 0 where
  pub said : Outcome
  pub reply : o.reply ≡ answered said
  pub answer : r ≡ answer_of said
  pub lists : o.lists ≡ back c m left
  pub output : o.output ≡ out'

-- of a step that wrote what its contract says, on lists that hold anything
abbrev pub WroteListed : Type 0
WroteListed =
    (c : Lending) (cs : List Lending) (m : Lent) (o : Left) (os : List Left) → run_lent m (c ∷ cs) ≡ o ∷ os
    → (a : Step) (r : Answer) (b : Board) (t s out' : List ℕ) → c.call ≡ step a
    → Wrote a (room_for c m) (front c m) c.output r b t s out'
    → Listed c m o r (lent b t s) out'
