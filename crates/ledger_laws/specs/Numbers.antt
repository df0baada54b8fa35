-- The numbers that a list of calls answers, and that 13 is none of them, as it is stated.
use Rattle.std.specs.Prelude.{ℕ, ◌≡◌, Bool, false, not, List, [], ◌∷◌, map, eqb}
use Rattle.foil_spec.specs.Lists.{cons_if, any, each}
use Rattle.foil_spec.specs.Foil.{Layout}
use Rattle.foil_spec.specs.Ledger.{Step, number_of}
use Rattle.foil_spec.specs.Lent.{Lent}
use Rattle.foil_spec.specs.Job.{steps}
use Rattle.foil_spec.specs.Wishes.{wishes}
use Rattle.foil_spec.specs.Calls.{Call, step, run_record, ohms, lay_list, Reply, answers_in}
use Rattle.foil_spec.specs.Sequence.{Lending, Begins, Left, run_lent, told}
use Rattle.ledger_laws.specs.Line.{no_carry}

-- the steps that a call may run
unfoldable pub steps_in : Call → List Step
steps_in (step s) = s ∷ []
steps_in (run_record bs at) = steps bs at
steps_in (ohms net i) = []
steps_in (lay_list ws k) = wishes ws

-- the numbers in a reply: that of each answer, 0 if accepted; ohms have none
unfoldable pub numbers_in : Reply → List ℕ
numbers_in r = map number_of (answers_in r)

-- the numbers in the replies to a list of calls
unfoldable pub numbers_of : List Left → List ℕ
numbers_of os = each (λ (o : Left). numbers_in o.reply) os

-- the number stands in the list
unfoldable pub among : ℕ → List ℕ → Bool
among n ns = any (eqb n) ns

-- the call carries a foil over
unfoldable pub carries_over : Call → Bool
carries_over (step s) = not (no_carry s)
carries_over (run_record bs at) = false
carries_over (ohms net i) = false
carries_over (lay_list ws n) = false

-- what is left by the calls of a list that carry none over
unfoldable pub besides_carries : List Lending → List Left → List Left
besides_carries [] os = []
besides_carries (c ∷ cs) [] = []
besides_carries (c ∷ cs) (o ∷ os) = cons_if (not (carries_over c.call)) o (besides_carries cs os)

-- document 01: 13 never applies to a foil begun in the list; the 13 of a carry is about the old foil
abbrev pub NeverBroken : Type 0
NeverBroken =
    (m : Lent) (l : Layout) (c : Lending) (cs : List Lending) → Begins c.call (told m c l).answer
    → among 13 (numbers_of (besides_carries (c ∷ cs) (run_lent m (c ∷ cs)))) ≡ false
