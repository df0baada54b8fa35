-- What is still to come of a job: after each record, the rest of the file leaves what the whole file does.
use Prim.Native.Nat.{ℕ, zero, suc, ◌+◌, ◌≤◌}
use native.Mathlib.Omega.{arith}
use mathlib.Core.Path.{◌≡◌, refl, sym, ap, ◌∙◌, subst}
use mathlib.Core.List.{List}
use mathlib.Core.Option.{none, some}
use lib.ListN.{length}
use Rattle.foil_spec.specs.Limits.{max_bytes}
use Rattle.foil_spec.specs.Ledger.{After}
use Rattle.foil_spec.specs.Job.{job_room, has}
use Rattle.foil_spec.specs.Calls.{RecordReply, end_mark, place_after}
use Rattle.foil_spec.specs.Sheet.{SheetLent, no_board, view}
use Rattle.foil_spec.specs.declared.Board.{Board}
use Rattle.std.specs.Prelude.{Option as Maybe, Some, None, Ok, Err}
use Rattle.job.specs.Contract.{Reply, next_of, next_in}
use Rattle.job.specs.declared.Answers.{Answers}
use Rattle.job.specs.declared.Progress.TheVariants.{Ran, AtEnd}
use Rattle.job.proofs.Replies.{next-is}
use Rattle.sheet_laws.specs.Jobs.{only_foil0}
use Rattle.job_report.specs.Report.{ran_record, RecordRan}
use Rattle.job_report.proofs.Places.{Later, call-later, at_place, nowhere}
use Rattle.job_end.specs.Left.{ended_of, job_end, board_left, JobLeft}
use Rattle.job_end.specs.Parts.{number_told, is_ended_by}
use Rattle.job_end.specs.declared.Ended.{Ended}
use Rattle.job_end.specs.declared.Ended.TheVariants.{AtMark, ByBoard, ByFile}
use Rattle.job_end.proofs.Reading.{last_of, from, last_one, one_more, whole}
use Rattle.job_end.proofs.Ending.{same_end}

-- after so many records the next is at a place of the file, on foil 0 of m; the file was begun on that of m₀
pub record ToCome (bs : List ℕ) (m₀ : SheetLent) (count at : ℕ) (m : SheetLent) : Type 0 where
  -- how many may come after the next
  pub more : ℕ
  pub counted : more + count ≡ max_bytes
  pub enough : length bs ≤ max_bytes → length bs ≤ at + more
  pub comes : (a : RecordReply) → last_of a (from bs (suc more) (some at) m) ≡ job_end bs m₀

pub all-to-come : (bs t s : List ℕ) (b : Board) → b ≡ no_board
    → ToCome bs (only_foil0 no_board t s) 0 0 (only_foil0 b t s)
all-to-come bs t s b e =
    subst (λ (x : Board). ToCome bs (only_foil0 no_board t s) 0 0 (only_foil0 x t s)) (sym e)
    (record { more = max_bytes; counted = refl; enough = λ h. omega arith; comes = whole bs t s })

module _ (bs : List ℕ) (m₀ : SheetLent) (count at : ℕ) (m : SheetLent) (now : ToCome bs m₀ count at m) where
  abbrev done : After RecordReply SheetLent
  done = ran_record bs at m

  going : (p : ℕ) → place_after done.answer ≡ some p → ToCome bs m₀ (count + 1) p done.state
  going p e = go now.more now.counted now.enough now.comes
    where
      later : Later bs at p
      later = call-later job_room bs m at p e

      go : (n : ℕ) → n + count ≡ max_bytes → (length bs ≤ max_bytes → length bs ≤ at + n)
          → ((a : RecordReply) → last_of a (from bs (suc n) (some at) m) ≡ job_end bs m₀)
          → ToCome bs m₀ (count + 1) p done.state
      go zero q f g = absurd (omega (arith, later.after, later.within, f later.few))
      go (suc n) q f g =
          record {
            more = n;
            counted = omega arith;
            enough = λ h. omega (arith, later.after, f h);
            comes = λ a. sym (one_more bs n at m a p a e) ∙ g a;
          }

  over : place_after done.answer ≡ none → done ≡ job_end bs m₀
  over e = sym (last_one bs now.more at m end_mark e) ∙ now.comes end_mark

  -- a record that was run, and its reply
  module _ (out : List ℕ) (r : Reply) (b : Board) (t s out' : List ℕ)
      (run : RecordRan bs at m out r b t s out') (next : Maybe ℕ) (told : next ≡ next_in r) where
    place_is : next ≡ next_of (place_after done.answer)
    place_is = told ∙ ap next_in run.reply ∙ next-is (has bs at) done.answer

    pub goes_on : (p : ℕ) → next ≡ Some p → ToCome bs m₀ (count + 1) p (only_foil0 b t s)
    goes_on p e =
        subst (ToCome bs m₀ (count + 1) p) (sym run.state) (going p (at_place _ p (sym place_is ∙ e)))

    module _ (e : next ≡ None) where
      no_place : place_after done.answer ≡ none
      no_place = nowhere _ (sym place_is ∙ e)

      left_is : only_foil0 b t s ≡ (job_end bs m₀).state
      left_is = run.state ∙ ap (λ (y : After RecordReply SheetLent). y.state) (over no_place)

      board-is : b ≡ board_left bs m₀
      unfolding view
      board-is = ap (λ (y : SheetLent). (view 0 y).board) left_is

      pub stops : (x : Ended) → x ≡ is_ended_by r b → JobLeft bs m₀ x t s
      stops x q =
          record {
            ended =
                q ∙ ap (λ y. is_ended_by y b) run.reply
                ∙ same_end job_room bs at m done.answer b refl no_place
                ∙ ap (λ (y : After RecordReply SheetLent). ended_of y.answer b) (over no_place)
                ∙ ap (ended_of (job_end bs m₀).answer) board-is;
            state = ap (λ (c : Board). only_foil0 c t s) (sym board-is) ∙ left_is;
          }

  module _ (out : List ℕ) (r : Reply) (b : Board) (t s out' : List ℕ) (run : RecordRan bs at m out r b t s out') where
    pub file-stops : (n : ℕ) → r ≡ Err n → JobLeft bs m₀ (ByFile n) t s
    unfolding next_in is_ended_by
    file-stops n e =
        stops out r b t s out' run None (sym (ap next_in e)) refl (ByFile n) (sym (ap (λ x. is_ended_by x b) e))

    pub mark-stops : r ≡ Ok AtEnd → JobLeft bs m₀ (AtMark b) t s
    unfolding next_in is_ended_by
    mark-stops e =
        stops out r b t s out' run None (sym (ap next_in e)) refl (AtMark b) (sym (ap (λ x. is_ended_by x b) e))

    pub board-stops : (a : Answers) (n : ℕ) → r ≡ Ok (Ran a None) → n ≡ number_told a.board
        → JobLeft bs m₀ (ByBoard n) t s
    unfolding next_in is_ended_by
    board-stops a n e q =
        stops out r b t s out' run None (sym (ap next_in e)) refl (ByBoard n)
        (ap ByBoard q ∙ sym (ap (λ x. is_ended_by x b) e))

    pub next-place : (a : Answers) (p : ℕ) → r ≡ Ok (Ran a (Some p)) → Some p ≡ next_in r
    unfolding next_in
    next-place a p e = sym (ap next_in e)
