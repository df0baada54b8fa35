-- The lines of all records of a job, one after the other, are the output of its file: after the first record foil 0
-- holds what the ledger holds, and each record goes as on the ledger.
use Prim.Native.Nat.{ℕ, zero, suc, ◌+◌, ◌≤◌, ◌<◌}
use native.Mathlib.Omega.{arith}
use mathlib.Core.Path.{◌≡◌, refl, sym, ap, ◌∙◌}
use mathlib.Core.Bool.{true, false}
use mathlib.Core.List.{List, [], ◌++◌, append-nil}
use mathlib.Core.Option.{none, some}
use lib.ListN.{length}
use Rattle.foil_spec.specs.Limits.{max_bytes}
use Rattle.foil_spec.specs.Foil.{Layout, no_foil}
use Rattle.foil_spec.specs.Ledger.{short, After}
use Rattle.foil_spec.specs.Lent.{Lent, store, held, layout_ok}
use Rattle.foil_spec.specs.Job.{job_room, RecordStep, record_steps}
use Rattle.foil_spec.specs.Calls.{run_record, RecordReply, refused_whole, ran_steps, end_mark, reply, ledger_call}
use Rattle.foil_spec.specs.Calls.{ledger_record, record_on, place_after}
use Rattle.foil_spec.specs.Sheet.{SheetLent, view}
use Rattle.ledger_laws.proofs.Stored.{held-store}
use Rattle.ledger_laws.proofs.Kept.{call_kept}
use Rattle.ledger_laws.proofs.Steps.{shown, call-is, record-as}
use Rattle.ledger_laws.proofs.Opening.{Over, Opening, over, begins, opening}
use Rattle.ledger_laws.proofs.Replies.{shown_by}
use Rattle.lines.specs.Output.{lines_of_steps, reply_lines, output_from, output}
use Rattle.sheet_laws.specs.Jobs.{only_foil0}
use Rattle.sheet_laws.proofs.Views.{Stands}
use Rattle.job_report.specs.Report.{ran_record, record_lines, onward, report_from, WritesOutput}
use Rattle.job_report.proofs.Foil0.{few-stands, as-alone}
use Rattle.job_report.proofs.Places.{ledger-later}

-- ---- the lines of a record, and those from the next place on

lines-part : (ss : List RecordStep) (a : RecordReply) (l : Layout) (rest : ℕ → List ℕ)
    → reply_lines ss a l (λ (n : ℕ). []) ++ onward (place_after a) rest ≡ reply_lines ss a l rest
unfolding reply_lines onward place_after
lines-part ss (refused_whole k) l rest = append-nil _
lines-part ss (ran_steps given none) l rest = append-nil _
lines-part ss (ran_steps given (some n)) l rest = ap (λ (x : List ℕ). x ++ rest n) (append-nil (lines_of_steps ss given))
lines-part ss end_mark l rest = append-nil _

lines-over : (ss : List RecordStep) (a : RecordReply) → Over a → (l l' : Layout) (rest rest' : ℕ → List ℕ)
    → reply_lines ss a l rest ≡ reply_lines ss a l' rest'
unfolding reply_lines
lines-over ss (refused_whole k) o l l' rest rest' = refl
lines-over ss (ran_steps given none) o l l' rest rest' = refl
lines-over ss (ran_steps given (some n)) o l l' rest rest' = absurd o
lines-over ss end_mark o l l' rest rest' = absurd o

lines_rest : (ss : List RecordStep) (a : RecordReply) (l : Layout) (rest rest' : ℕ → List ℕ)
    → ((n : ℕ) → place_after a ≡ some n → rest n ≡ rest' n) → reply_lines ss a l rest ≡ reply_lines ss a l rest'
unfolding reply_lines place_after
lines_rest ss (refused_whole k) l rest rest' h = refl
lines_rest ss (ran_steps given none) l rest rest' h = refl
lines_rest ss (ran_steps given (some n)) l rest rest' h = ap (λ (x : List ℕ). lines_of_steps ss given ++ x) (h n refl)
lines_rest ss end_mark l rest rest' h = refl

-- ---- as many records as the file can have

fuel : (k j : ℕ) (bs : List ℕ) (at : ℕ) (l : Layout) → at ≤ length bs → length bs < at + k → length bs < at + j
    → output_from k bs at l ≡ output_from j bs at l
unfolding output_from
fuel zero j bs at l h e f = absurd (omega arith)
fuel (suc k) zero bs at l h e f = absurd (omega arith)
fuel (suc k) (suc j) bs at l h e f =
    let t : After RecordReply Layout = ledger_record job_room bs at l in
    lines_rest (record_steps bs at) t.answer t.state _ _ (λ n q.
    let p = ledger-later job_room bs at l n q in
    fuel k j bs n t.state p.within (omega (arith, p.after)) (omega (arith, p.after)))

-- ---- a record on a sheet whose foil 0 holds what the ledger holds

-- one that gives y on the foil alone
module _ (k : ℕ) (bs : List ℕ) (at : ℕ) (x : SheetLent) (w : Stands job_room 0 x) (y : After RecordReply Lent)
    (is : record_on job_room bs at (view 0 x) ≡ y) where
  given : shown_by (view 0) (ran_record bs at x) ≡ y
  given = sym (as-alone bs at x w).is ∙ is

  -- the lines from the next place on
  abbrev later : ℕ → List ℕ
  later n = report_from k bs n (ran_record bs at x).state

  one-record : report_from (suc k) bs at x ≡ reply_lines (record_steps bs at) y.answer (held y.state) later
  unfolding report_from record_lines shown_by
  one-record =
      lines-part (record_steps bs at) (ran_record bs at x).answer (held (view 0 (ran_record bs at x).state)) later
      ∙ ap (λ (z : After RecordReply Lent). reply_lines (record_steps bs at) z.answer (held z.state) later) given

  one_left : view 0 (ran_record bs at x).state ≡ y.state
  unfolding shown_by
  one_left = ap (λ (z : After RecordReply Lent). z.state) given

-- one that goes as on the ledger
module _ (k : ℕ) (bs : List ℕ) (at : ℕ) (l : Layout) (m : Lent) (x : SheetLent) (w : Stands job_room 0 x) where
  abbrev line : After RecordReply Layout
  line = ledger_record job_room bs at l

  shown-record : record_on job_room bs at (view 0 x) ≡ shown m line
      → ((p : ℕ) → view 0 (ran_record bs at x).state ≡ store line.state m
      → report_from k bs p (ran_record bs at x).state ≡ output_from k bs p line.state)
      → report_from (suc k) bs at x
      ≡ reply_lines (record_steps bs at) line.answer line.state (λ (p : ℕ). output_from k bs p line.state)
  unfolding shown
  shown-record e next =
      one-record k bs at x w (shown m line) e
      ∙ ap (λ (s : Layout). reply_lines (record_steps bs at) line.answer s
      (λ (p : ℕ). report_from k bs p (ran_record bs at x).state)) (held-store line.state m)
      ∙ lines_rest (record_steps bs at) line.answer line.state _ _
      (λ p q. next p (one_left k bs at x w (shown m line) e))

stored : (k : ℕ) (bs : List ℕ) (at : ℕ) (l : Layout) (m : Lent) (x : SheetLent) → Stands job_room 0 x
    → view 0 x ≡ store l m → layout_ok l ≡ true → report_from k bs at x ≡ output_from k bs at l
unfolding report_from output_from
stored zero bs at l m x w v g = refl
stored (suc k) bs at l m x w v g =
    shown-record k bs at l m x w
    (ap (record_on job_room bs at) v
    ∙ record-as job_room bs at l m (store l m) (call-is job_room (run_record bs at) l m g))
    (λ p u.
    stored k bs p (ledger_record job_room bs at l).state m (ran_record bs at x).state
    (as-alone bs at x w).stands u
    (unfold ledger_call reply ledger_record in call_kept job_room (run_record bs at) l g))

-- ---- the first record

pub long-room : short job_room ≡ false
unfolding short job_room
long-room = refl

module _ (bs : List ℕ) (x : SheetLent) (w : Stands job_room 0 x) where
  abbrev m : Lent
  m = view 0 x

  abbrev first-line : After RecordReply Layout
  first-line = ledger_record job_room bs 0 no_foil

  -- the lines from the next place on, as they are told and as they are wanted
  abbrev told : ℕ → List ℕ
  told n = report_from max_bytes bs n (ran_record bs 0 x).state

  abbrev wanted : ℕ → List ℕ
  wanted n = output_from (length bs) bs n first-line.state

  from_first : Opening job_room bs no_foil m → report_from (suc max_bytes) bs 0 x ≡ output_from (suc (length bs)) bs 0 no_foil
  unfolding output_from
  from_first (over a e f o) =
      one-record max_bytes bs 0 x w (record_on job_room bs 0 m) refl
      ∙ ap
      (λ (y : RecordReply). reply_lines (record_steps bs 0) y (held (record_on job_room bs 0 m).state) told) e
      ∙ lines-over (record_steps bs 0) a o (held (record_on job_room bs 0 m).state) first-line.state told wanted
      ∙ ap (λ (y : RecordReply). reply_lines (record_steps bs 0) y first-line.state wanted) (sym f)
  from_first (begins b) =
      shown-record max_bytes bs 0 no_foil m x w (record-as job_room bs 0 no_foil m m b.is)
      (λ p u.
      stored max_bytes bs p first-line.state m (ran_record bs 0 x).state (as-alone bs 0 x w).stands u
      (unfold ledger_call reply ledger_record in b.kept))
      ∙ lines_rest (record_steps bs 0) first-line.answer first-line.state
      (λ (n : ℕ). output_from max_bytes bs n first-line.state) wanted
      (λ n q.
      let p = ledger-later job_room bs 0 no_foil n q in
      fuel max_bytes (length bs) bs n first-line.state p.within
      (omega (arith, p.after, p.few)) (omega (arith, p.after)))

pub writes_output : WritesOutput
unfolding output
writes_output bs b t s few long =
    let x : SheetLent = only_foil0 b t s in
    from_first bs x (few-stands b t s few long) (opening job_room bs no_foil (view 0 x) long-room)
