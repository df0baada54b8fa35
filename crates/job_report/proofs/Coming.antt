-- A record after which there is a next place leaves a foil that keeps the rules, so that the next record may come.
use Prim.Native.Nat.{ℕ, ◌≤◌}
use native.Mathlib.Decide.{ℕ_discrete}
use mathlib.Core.Path.{◌≡◌, refl, sym, ap, ◌∙◌, subst}
use mathlib.Core.Bool.{true, false, not, ◌&&◌, and-true}
use mathlib.Core.List.{List, ◌∷◌}
use mathlib.Core.Logic.{by_cases}
use mathlib.Core.Option.{none, some, none-ne-some}
use lib.Dec.{eqb}
use lib.ListN.{length, replicate}
use borrow.Author.Tests.{ne_eqb}
use Rattle.foil_spec.specs.Limits.{sheet_size}
use Rattle.foil_spec.specs.Ledger.{Room, short, first, After, after_lent}
use Rattle.foil_spec.specs.Lent.{Lent, sound, step_on}
use Rattle.foil_spec.specs.Job.{job_room, has, steps, record_checks}
use Rattle.foil_spec.specs.Calls.{RecordReply, refused_whole, act_all, act_record, whole_refusals, record_on, place_after}
use Rattle.foil_spec.specs.Sheet.{SheetLent, no_board, view}
use Rattle.foil_spec.specs.declared.Board.{Board}
use Rattle.list_laws.proofs.Tests.{not-ff}
use Rattle.ledger_laws.proofs.Refusals.{none-applies}
use Rattle.ledger_laws.proofs.Lending.{Opens, opens, own-checks}
use Rattle.ledger_laws.proofs.Replies.{shown_by}
use Rattle.ledger_laws.proofs.StaysSound.{steps-sound, first-sound}
use Rattle.std.specs.Prelude.{Option as Maybe, Some}
use Rattle.job.specs.Contract.{Reply, next_of, next_in}
use Rattle.job.proofs.Replies.{next-is}
use Rattle.sheet_laws.specs.Jobs.{only_foil0}
use Rattle.sheet_rows.specs.Rows.{sheet_lent}
use Rattle.sheet.specs.Contract.{Continues}
use Rattle.sheet.proofs.Recording.{at-start}
use Rattle.job_report.specs.Report.{ran_record, MayCome, RecordRan, RecordReported}
use Rattle.job_report.specs.declared.Reported.{Reported}
use Rattle.job_report.proofs.Foil0.{unrefused-alone}
use Rattle.job_report.proofs.Places.{Goes, goes, at_place}
use Rattle.job_report.proofs.Output.{long-room}

-- ---- on the foil alone

module _ (r : Room) (long : short r ≡ false) (bs : List ℕ) (at : ℕ) (m : Lent) (n : ℕ)
    (g : Goes (step_on r) r (not (sound m)) bs at m n) where
  -- the first record begins a foil
  first-left : at ≡ 0 → sound (act_all (step_on r) (steps bs at) m).state ≡ true
  first-left z =
      let own = own-checks r (not (sound m)) bs at g.unrefused in
      let b : Opens (steps bs at) =
      subst (λ (i : ℕ). Opens (steps bs i)) (sym z)
      (opens bs (subst (λ (i : ℕ). first (record_checks bs i) ≡ none) z own)) in
      rw b.is (first-sound r b.W b.H b.d b.later m long (rw b.is at g.none-ends))

  -- a later one was run on a foil that keeps the rules
  later-left : (at ≡ 0 → ⊥) → sound (act_all (step_on r) (steps bs at) m).state ≡ true
  unfolding whole_refusals after_lent
  later-left ne =
      let e = g.unrefused in
      let broken : (not (sound m) && not (eqb at 0)) ≡ false = search none-applies depth 9 in
      steps-sound r (steps bs at) m
      (not-ff (sound m) (rw (ne_eqb at 0 ne, and-true (not (sound m))) at broken))

  left-sound : sound (record_on r bs at m).state ≡ true
  unfolding record_on act_record
  left-sound = rw (g.unrefused, g.not_end) (by_cases (ℕ_discrete at 0) first-left later-left)

sound-after : (bs : List ℕ) (at : ℕ) (m : Lent) (n : ℕ)
    → place_after (record_on job_room bs at m).answer ≡ some n
    → sound (record_on job_room bs at m).state ≡ true
sound-after bs at m n h = left-sound job_room long-room bs at m n (met h)
  where
    met : place_after (record_on job_room bs at m).answer ≡ some n
        → Goes (step_on job_room) job_room (not (sound m)) bs at m n
    met q = unfold record_on in goes (step_on job_room) job_room (not (sound m)) bs at m n q

-- ---- on foil 0 of a sheet else empty

pub first-comes : (b : Board) (t s : List ℕ) → MayCome 0 b t s
first-comes b t s = record { continues = at-start 0 0 (only_foil0 b t s) refl }

-- so `continue_job` may run it on the records of such a sheet
pub may-continue : (at : ℕ) (b : Board) (t s : List ℕ) → MayCome at b t s → (bs : List Board)
    → bs ≡ b ∷ replicate 7 no_board → Continues 0 at (sheet_lent bs t s)
may-continue at b t s c bs e = subst (λ (x : List Board). Continues 0 at (sheet_lent x t s)) (sym e) c.continues

module _ (bs : List ℕ) (at : ℕ) (b₀ : Board) (t₀ s₀ : List ℕ) where
  abbrev m : SheetLent
  m = only_foil0 b₀ t₀ s₀

  no_place : (n k : ℕ) → place_after (refused_whole k) ≡ some n → ⊥
  unfolding place_after
  no_place n k h = none-ne-some n h

  sound-left : sheet_size ≤ length t₀ → (n : ℕ) → place_after (ran_record bs at m).answer ≡ some n
      → sound (view 0 (ran_record bs at m).state) ≡ true
  unfolding shown_by
  sound-left long n h =
      let alone = unrefused-alone bs at b₀ t₀ s₀ long (λ a. place_after a ≡ some n) (no_place n) h in
      ap (λ (a : After RecordReply Lent). sound a.state) (sym alone)
      ∙ sound-after bs at (view 0 m) n (ap (λ (a : After RecordReply Lent). place_after a.answer) alone ∙ h)

  next-comes : sheet_size ≤ length t₀ → (b : Board) (t s : List ℕ) → only_foil0 b t s ≡ (ran_record bs at m).state
      → (p : ℕ) → next_of (place_after (ran_record bs at m).answer) ≡ Some p → MayCome p b t s
  next-comes long b t s left p e =
      record {
        continues =
            record {
              fine = λ later.
                  ap (λ (x : SheetLent). sound (view 0 x)) left
                  ∙ sound-left long p (at_place (place_after (ran_record bs at m).answer) p e);
            };
      }

  -- the next record after one that was reported, and after one that was run without its lines
  pub reported-comes : (out old new : List ℕ) (r : Reported) (b : Board) (t s out' : List ℕ)
      → RecordReported bs at m out old new r b t s out' → (p : ℕ) → r.next ≡ Some p → MayCome p b t s
  reported-comes out old new r b t s out' told p e =
      next-comes told.places b t s told.state p (sym told.next ∙ e)

  pub run-comes : (out : List ℕ) (r : Reply) (b : Board) (t s out' : List ℕ)
      → RecordRan bs at m out r b t s out' → (next : Maybe ℕ) → next ≡ next_in r → (p : ℕ) → next ≡ Some p
      → MayCome p b t s
  run-comes out r b t s out' run next is p e =
      next-comes run.places b t s run.state p
      (sym (is ∙ ap next_in run.reply ∙ next-is (has bs at) (ran_record bs at m).answer) ∙ e)
