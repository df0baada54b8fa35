-- What a list of calls lists of a step is what the step left.
use Prim.Native.Nat.{ℕ}
use mathlib.Core.Path.{◌≡◌, refl, sym, ap, ◌∙◌}
use mathlib.Core.List.{List}
use Rattle.foil_spec.specs.Ledger.{Step, Answer, After}
use Rattle.foil_spec.specs.Lent.{Lent, lent, step_on}
use Rattle.foil_spec.specs.Calls.{Call, step, Reply, answered, reply, call_on, output_by}
use Rattle.foil_spec.specs.Sequence.{Lending, front, room_for, back, lend, Left, leaves, run_lent}
use Rattle.foil_spec.specs.declared.Board.{Board}
use Rattle.foil.specs.Contract.{Answer as Told, Gave}
use Rattle.foil.specs.Listed.{WroteListed}

-- what a step gave
gave-state : (a : After Answer Lent) (r : Told) (b : Board) (t s : List ℕ) → Gave a r b t s → a.state ≡ lent b t s
gave-state a r b t s g = sym (λ i. lent (g.board i) (g.table i) (g.strips i))

module _ (c : Lending) (m : Lent) (a : Step) (is : c.call ≡ step a) where
  -- what the step does to what it is lent
  abbrev done : After Answer Lent
  done = step_on (room_for c m) a (front c m)

  lent-step : lend c m ≡ record { answer = answered done.answer; state = back c m done.state }
  unfolding lend
  lent-step =
      ap
      (λ (k : Call).
      record {
        answer = (call_on (room_for c m) k (front c m)).answer;
        state = back c m (call_on (room_for c m) k (front c m)).state;
      })
      is
      ∙ unfold call_on reply in refl

  left_step : leaves c (lend c m).answer (lend c m).state
      ≡ leaves c (answered done.answer) (back c m done.state)
  left_step = ap (λ (z : After Reply Lent). leaves c z.answer z.state) lent-step

pub wrote-listed : WroteListed
unfolding run_lent
wrote-listed c cs m o os e a r b t s out' is w =
    let first : leaves c (lend c m).answer (lend c m).state ≡ o = cc in
    let is-left : o ≡ leaves c (answered (done c m a is).answer) (back c m (done c m a is).state) =
    sym first ∙ left_step c m a is in
    record {
      said = (done c m a is).answer;
      reply = ap (λ (x : Left). x.reply) is-left ∙ unfold leaves in refl;
      answer = w.gave.answer;
      lists =
          ap (λ (x : Left). x.lists) is-left
          ∙ unfold leaves in ap (back c m) (gave-state (done c m a is) r b t s w.gave);
      output = ap (λ (x : Left). x.output) is-left ∙ unfold leaves output_by in sym w.output;
    }
