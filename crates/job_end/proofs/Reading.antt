-- The replies to a job file's records: so many are enough, and the next one is the first of those to come.
use Prim.Native.Nat.{ℕ, zero, suc, ◌+◌, ◌≤◌, ◌<◌}
use native.Mathlib.Omega.{arith}
use mathlib.Core.Path.{◌≡◌, refl, sym, ap, ◌∙◌}
use mathlib.Core.Bool.{not, and-false}
use mathlib.Core.List.{List, [], ◌∷◌}
use mathlib.Core.Option.{Option, none, some}
use lib.ListN.{length}
use Rattle.foil_spec.specs.Limits.{max_bytes}
use Rattle.foil_spec.specs.Ledger.{first, After, short, after_lent}
use Rattle.foil_spec.specs.Lent.{sound}
use Rattle.foil_spec.specs.Job.{job_room, record_checks}
use Rattle.foil_spec.specs.Calls.{RecordReply, refused_whole, act_record, too_large, whole_refusals, place_after, read_from}
use Rattle.foil_spec.specs.Calls.{read_job}
use Rattle.foil_spec.specs.Sheet.{SheetLent, no_board, counts, view, opening, sheet_refusal, unless_whole, sheet_record}
use Rattle.sheet_laws.specs.Jobs.{only_foil0}
use Rattle.sheet_laws.proofs.Starting.{one-foil}
use Rattle.job_report.specs.Report.{ran_record}
use Rattle.job_report.proofs.Places.{call-later, first-later}
use Rattle.job_end.specs.Left.{last_reply, job_end}

-- the last reply of some and what they left, or a if there is none
abbrev pub last_of : RecordReply → After (List RecordReply) SheetLent → After RecordReply SheetLent
last_of a x = record { answer = last_reply a x.answer; state = x.state }

-- a reply in front of others
abbrev before : RecordReply → After (List RecordReply) SheetLent → After (List RecordReply) SheetLent
before a x = record { answer = a ∷ x.answer; state = x.state }

module _ (bs : List ℕ) where
  -- from a place on, at most n
  abbrev pub from : ℕ → Option ℕ → SheetLent → After (List RecordReply) SheetLent
  from n o m = read_from (sheet_record job_room 0) bs n o m

  no_more : (n : ℕ) (m : SheetLent) → from n none m ≡ record { answer = []; state = m }
  unfolding read_from
  no_more zero m = refl
  no_more (suc n) m = refl

  rest-same : (k j : ℕ) (o : Option ℕ) (m : SheetLent) → ((p : ℕ) → o ≡ some p → from k (some p) m ≡ from j (some p) m)
      → from k o m ≡ from j o m
  rest-same k j none m h = no_more k m ∙ sym (no_more j m)
  rest-same k j (some p) m h = h p refl

  -- where the first reply is the same, and what comes after it
  one_same : (k j at : ℕ) (m : SheetLent)
      → ((p : ℕ) → place_after (ran_record bs at m).answer ≡ some p
      → from k (some p) (ran_record bs at m).state ≡ from j (some p) (ran_record bs at m).state)
      → from (suc k) (some at) m ≡ from (suc j) (some at) m
  unfolding read_from
  one_same k j at m h =
      ap (before (ran_record bs at m).answer)
      (rest-same k j (place_after (ran_record bs at m).answer) (ran_record bs at m).state h)

  -- each record takes a byte at least
  enough : (k j at : ℕ) (m : SheetLent) → at ≤ length bs → length bs < at + k → length bs < at + j
      → from k (some at) m ≡ from j (some at) m
  enough zero j at m h e f = absurd (omega arith)
  enough (suc k) zero at m h e f = absurd (omega arith)
  enough (suc k) (suc j) at m h e f =
      one_same k j at m (λ p q.
      let l = call-later job_room bs m at p q in
      enough k j p (ran_record bs at m).state l.within (omega (arith, l.after)) (omega (arith, l.after)))

-- the last reply, and one that others come after
module _ (bs : List ℕ) (n at : ℕ) (m : SheetLent) (a : RecordReply) where
  pub last_one : place_after (ran_record bs at m).answer ≡ none
      → last_of a (from bs (suc n) (some at) m) ≡ ran_record bs at m
  unfolding read_from last_reply
  last_one e =
      let x : After RecordReply SheetLent = ran_record bs at m in
      ap (λ (o : Option ℕ). last_of x.answer (from bs n o x.state)) e
      ∙ ap (last_of x.answer) (no_more bs n x.state)

  pub one_more : (p : ℕ) (b : RecordReply) → place_after (ran_record bs at m).answer ≡ some p
      → last_of a (from bs (suc (suc n)) (some at) m) ≡ last_of b (from bs (suc n) (some p) (ran_record bs at m).state)
  unfolding read_from last_reply
  one_more p b e =
      let x : After RecordReply SheetLent = ran_record bs at m in
      ap (λ (o : Option ℕ). last_of x.answer (from bs (suc n) o x.state)) e

-- where there is a reply, it does not matter what stands for none
any_last : (bs : List ℕ) (n at : ℕ) (m : SheetLent) (a b : RecordReply)
    → last_of a (from bs (suc n) (some at) m) ≡ last_of b (from bs (suc n) (some at) m)
unfolding read_from last_reply
any_last bs n at m a b = refl

-- a file of no bytes, on a sheet on which no foil is begun
module _ (t s : List ℕ) where
  abbrev unused : SheetLent
  unused = only_foil0 no_board t s

  empty-file : ran_record [] 0 unused ≡ record { answer = refused_whole 14; state = unused }
  unfolding sheet_record sheet_refusal opening unless_whole counts act_record whole_refusals too_large after_lent short job_room
      record_checks first
  empty-file = rw (one-foil 0 (omega arith), and-false (not (sound (view 0 unused)))) refl

  empty-end : record { answer = refused_whole 14; state = unused } ≡ job_end [] unused
  unfolding read_job read_from last_reply
  empty-end = refl

  empty-over : place_after (ran_record [] 0 unused).answer ≡ none
  unfolding place_after
  empty-over = ap (λ (x : After RecordReply SheetLent). place_after x.answer) empty-file

-- as many records as a file can have that is not too long, and one more
pub whole : (bs t s : List ℕ) (a : RecordReply)
    → last_of a (from bs (suc max_bytes) (some 0) (only_foil0 no_board t s)) ≡ job_end bs (only_foil0 no_board t s)
whole [] t s a = last_one [] max_bytes 0 (unused t s) a (empty-over t s) ∙ empty-file t s ∙ empty-end t s
whole (b ∷ bs) t s a =
    unfold read_job in
    let m : SheetLent = unused t s in
    let same = one_same (b ∷ bs) max_bytes (length bs) 0 m (λ p q.
    let l = call-later job_room (b ∷ bs) m 0 p q in
    let f = first-later job_room (b ∷ bs) m p q in
    enough (b ∷ bs) max_bytes (length bs) p _ l.within (omega (arith, f, l.few, l.within)) (omega (arith, f))) in
    ap (last_of a) same ∙ any_last (b ∷ bs) (length bs) 0 m a (refused_whole 14)
