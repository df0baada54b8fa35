-- Each question has its answer: the bytes are at the front of the list, or there is the line of its refusal.
use native.Mathlib.Omega.{arith}
use mathlib.Core.Path.{refl, sym, ap, ◌∙◌}
use mathlib.Core.List.{[], append-nil}
use Rattle.std.specs.Prelude.{Ok}
use Rattle.sheet_laws.specs.Jobs.{only_foil0}
use Rattle.job_end.specs.Asked.{step_of, word_of, bytes_of, foil_said}
use Rattle.job_end.specs.declared.asking.Question.TheVariants.{Save, Slip}
use Rattle.job_end.proofs.Answering.{Given, said-as, asked-given, in_front, bytes-hold, number-said, line-holds}
use Rattle.job_end.proofs.Answering.{none-else}
use Rattle.job_end.proofs.asking.put_answer.Goals as goal
use Rattle.job_end.proofs.asking.put_answer.Goals.{in-Save, in-Slip, Joined-question}

given : (c : Joined-question)
    → Given (foil_said c.args.question (only_foil0 c.args.board c.args.table.now c.args.strips.now))
    c.match-question.answer.1.now c.match-question.out c.match-question.answer.0
unfolding step_of word_of bytes_of
given c = elim c.match-question.branch [
  | in-Save w ↦
      in_front
      (asked-given Save _ _ _ _ _ _ _ refl _ c.only_foil_0-sheet.ensures (omega arith) (omega arith) (omega arith)
      w.save.ensures) _ w.out-is (said-as _ _ _ w.in-Save.is)
      (ap (λ x. x.1.now) w.answer-is) (ap (λ x. x.0) w.answer-is)
  | in-Slip w ↦
      in_front
      (asked-given Slip _ _ _ _ _ _ _ refl _ c.only_foil_0-sheet.ensures (omega arith) (omega arith) (omega arith)
      w.slip.ensures) [] (w.out-is ∙ sym (append-nil _)) (said-as _ _ _ w.in-Slip.is)
      (ap (λ x. x.1.now) w.answer-is) (ap (λ x. x.0) w.answer-is)
]

pub returns-in-Wrote : goal.returns-in-Wrote
returns-in-Wrote c =
    bytes-hold _ _ _ _ _ (c.in-Ok.is ∙ ap Ok c.in-Wrote.is) (given (goal.at.returns-in-Wrote c).Joined-question)

pub returns-in_default : goal.returns-in_default
returns-in_default c =
    absurd
    (none-else _ _ _ _ _ c.in-Ok.is c.in_default.not-Wrote
    (given (goal.at.returns-in_default c).Joined-question))

pub returns-in-Err : goal.returns-in-Err
returns-in-Err c =
    line-holds c.put_line.ensures _
    (rw c.number.ensures (number-said _ _ _ _ _ c.in-Err.is (given (goal.at.returns-in-Err c).Joined-question)))
