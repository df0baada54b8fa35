-- The output record by record: each step's line has a number of its own, and the file's has one of 14 to 18.
use Prim.Native.Nat.{ℕ, zero, suc, ◌≤◌}
use native.Mathlib.Omega.{arith}
use mathlib.Core.Path.{◌≡◌, refl, sym, ap, ◌∙◌}
use mathlib.Core.Bool.{Bool, true, false, or-true}
use mathlib.Core.List.{List, [], ◌∷◌, ◌++◌, map, append-nil}
use mathlib.Core.Option.{Option, none, some}
use lib.ListN.{length}
use borrow.Author.Tests.{le-leb, eq-eqb}
use Rattle.foil_spec.specs.Lists.{all, any, each, keep}
use Rattle.foil_spec.specs.Limits.{corner_places}
use Rattle.foil_spec.specs.Foil.{Point, Layout, no_foil, free}
use Rattle.foil_spec.specs.Strips.{Strip}
use Rattle.foil_spec.specs.Paths.{at, bends}
use Rattle.foil_spec.specs.Ledger.{strips_of, corners_of, short, corner_room, with_output, next, says, first}
use Rattle.foil_spec.specs.Ledger.{Step, new_foil, draw, lay, lift, put_leg, Answer, number_of}
use Rattle.foil_spec.specs.Ledger.{refusals, after_lent, After, settle, refusal_of, ledger_step}
use Rattle.foil_spec.specs.Job.{job_room, RecordStep, board_step, patch_step, track_step, lift_step, leg_step, as_step}
use Rattle.foil_spec.specs.Job.{record_steps, steps, is_end, record_end, record_checks}
use Rattle.foil_spec.specs.Calls.{run_record, ends_job, and_then, act_all, act_record, whole_refusals, reply, ledger_call}
use Rattle.foil_spec.specs.Calls.{ledger_record}
use Rattle.list_laws.proofs.Tests.{both, and_i, all_append}
use Rattle.list_laws.proofs.Members.{each_append}
use Rattle.path_laws.proofs.FirstPath.{of-path}
use Rattle.ledger_laws.specs.Line.{but, numbers_from, own_numbers}
use Rattle.ledger_laws.specs.Numbers.{among}
use Rattle.ledger_laws.proofs.Refusals.{first_passes}
use Rattle.ledger_laws.proofs.Kept.{step_keeps, call-keeps}
use Rattle.ledger_laws.proofs.Lay.{Laid, lay-seeks, first-laid}
use Rattle.ledger_laws.proofs.Line.{clearance-number}
use Rattle.ledger_laws.proofs.Numbers.{answer-passes}
use Rattle.bend_laws.specs.Room.{asks_few}
use Rattle.bend_laws.proofs.Room.{corners-few, step-passes, Fine, small, fine-kept, no-foil-fine}
use Rattle.lines.specs.Lines.{strip_line}
use Rattle.lines.specs.Output.{track_in, track_line, line_of_step, lines_of_steps, reply_lines, output_from, output}
use Rattle.job_laws.specs.JobLines.{PrintedLine, board, patch, refused_track, laid_track, lifted, leg, strip, file}
use Rattle.job_laws.specs.JobLines.{bytes_of, possible, InLines, WritesLines}

-- ---- lines one after the other

no_line : InLines []
no_line = record { lines = []; are = refl; fine = refl }

one_line : (l : PrintedLine) → possible l ≡ true → InLines (bytes_of l)
one_line l h = record { lines = l ∷ []; are = sym (append-nil (bytes_of l)); fine = and_i {a = possible l} h refl }

more-lines : {a b : List ℕ} → InLines a → InLines b → InLines (a ++ b)
more-lines {a} {b} i j =
    record {
      lines = i.lines ++ j.lines;
      are = (λ k. i.are k ++ j.are k) ∙ sym (each_append bytes_of i.lines j.lines);
      fine = all_append possible i.lines j.lines i.fine j.fine;
    }

-- ---- a step's line

-- the program lends enough
job-long : short job_room ≡ false
unfolding short job_room
job-long = refl

job-room : corner_places ≤ corner_room job_room
unfolding corner_room job_room
job-room = omega arith

-- what a step answers passes a test that 0 and its own numbers pass
number-passes : (p : ℕ → Bool) (s : Step) → asks_few s ≡ true → (l : Layout) → Fine l → p 0 ≡ true
    → all p (own_numbers s) ≡ true
    → p (number_of (ledger_step job_room s l).answer) ≡ true
number-passes p s j l fine z h = answer-passes p z job_room s l (step-passes job_room job-room job-long p s j h l fine)

-- a track that is laid is a path, which has a corner, and has room for its corners
laid-possible : (l : Layout) (net : ℕ) (S T : Point) → Fine l
    → refusal_of job_room false (lay net S T) l ≡ none
    → possible (laid_track net (bends (corners_of l S T)) (corners_of l S T)) ≡ true
unfolding possible
laid-possible l net S T fine e =
    let cs : List Point = corners_of l S T in
    let laid : Laid (lay net S T) S T job_room false l cs (bends cs) =
    record { unrefused = e; corners = refl; bent = refl } in
    let first-is = (first-laid (lay-seeks net S T) job_room false l cs (bends cs) laid).0 in
    simp (
      le-leb 1 (length cs) (omega (arith, ap length (of-path (free l) S (at T) cs first-is.path).is)),
      le-leb (length cs) corner_places (corners-few l S T (small l fine).strips),
      eq-eqb (bends cs) (bends cs) refl,
    )

module _ (l : Layout) (fine : Fine l) where
  -- the line of a lay that is refused by one of its own numbers, or accepted
  lay-line : (net : ℕ) (S T : Point) (o : Option ℕ) → refusal_of job_room false (lay net S T) l ≡ o
      → InLines (line_of_step (track_step net S T)
      (settle o (record { answer = says (lay net S T) l; state = next (lay net S T) l }) l).answer)
  unfolding settle says line_of_step track_in track_line number_of bytes_of possible among own_numbers numbers_from but
      refusals asks_few
  lay-line net S T none e = one_line (laid_track net _ _) (laid-possible l net S T fine e)
  lay-line net S T (some n) e =
      one_line (refused_track net n)
      (step-passes job_room job-room job-long (λ k. possible (refused_track net k)) (lay net S T) refl refl l fine n e)

  step_line : (s : RecordStep) → InLines (line_of_step s (ledger_step job_room (as_step s) l).answer)
  unfolding as_step line_of_step bytes_of possible among own_numbers numbers_from but refusals asks_few
  step_line (board_step W H c) =
      one_line (board _)
      (number-passes (λ n. possible (board n)) (new_foil W H c) refl l fine refl
      (clearance-number (λ n. all (λ k. possible (board k)) (keep (but 12) (1 ∷ n ∷ []))) c refl refl))
  step_line (patch_step x0 y0 x1 y1) =
      one_line (patch _) (number-passes (λ n. possible (patch n)) (draw x0 y0 x1 y1) refl l fine refl refl)
  step_line (track_step net S T) = unfold ledger_step in lay-line net S T (refusal_of job_room false (lay net S T) l) refl
  step_line (lift_step net) =
      one_line (lifted net _) (number-passes (λ n. possible (lifted net n)) (lift net) refl l fine refl refl)
  step_line (leg_step e) =
      one_line (leg e.net _) (number-passes (λ n. possible (leg e.net n)) (put_leg e) refl l fine refl refl)

-- ---- a record's lines

then_lines : (s : RecordStep) (ss : List RecordStep) (a : After Answer Layout) (b : After (List Answer) Layout)
    → InLines (line_of_step s a.answer) → InLines (lines_of_steps ss b.answer)
    → InLines (lines_of_steps (s ∷ ss) (and_then a b).answer)
unfolding and_then lines_of_steps
then_lines s ss a b h k =
    both (ends_job a.answer) (λ t. rw t (more-lines h no_line)) (λ t. rw t (more-lines h k))

step_lines : (ss : List RecordStep) (l : Layout) → Fine l
    → InLines (lines_of_steps ss (act_all (ledger_step job_room) (map as_step ss) l).answer)
unfolding act_all lines_of_steps
step_lines [] l fine = no_line
step_lines (s ∷ ss) l fine =
    then_lines s ss (ledger_step job_room (as_step s) l) _ (step_line l fine s)
    (step_lines ss (ledger_step job_room (as_step s) l).state
    (step_keeps Fine job_room (fine-kept job_room) (as_step s) l fine))

strip-lines : (ss : List Strip) → InLines (each strip_line ss)
unfolding bytes_of possible
strip-lines [] = no_line
strip-lines (s ∷ ss) = more-lines (one_line (strip s) refl) (strip-lines ss)

-- a record's reply, where what follows it is lines
reply-lines : (o : Option ℕ) (e : Bool) (ss : List RecordStep) (place : ℕ) (l : Layout) (rest : ℕ → List ℕ)
    → Fine l → ((n : ℕ) → o ≡ some n → possible (file n) ≡ true) → ((n : ℕ) → InLines (rest n))
    → InLines (reply_lines ss (act_record (ledger_step job_room) o e (map as_step ss) place l).answer
    (act_record (ledger_step job_room) o e (map as_step ss) place l).state rest)
unfolding act_record reply_lines bytes_of
reply-lines (some n) e ss place l rest fine h k = one_line (file n) (h n refl)
reply-lines none true ss place l rest fine h k = strip-lines (strips_of l)
reply-lines none false ss place l rest fine h k =
    both (any ends_job (act_all (ledger_step job_room) (map as_step ss) l).answer)
    (λ t. rw t (step_lines ss l fine))
    (λ t. rw t (more-lines (step_lines ss l fine) (k place)))

file-possible : (bs : List ℕ) (at n : ℕ) → first (whole_refusals job_room false bs at) ≡ some n
    → possible (file n) ≡ true
unfolding whole_refusals after_lent record_checks possible among
file-possible bs at = first_passes (λ k. possible (file k)) _ (simp (job-long, or-true))

-- ---- the whole output

output-lines : (most : ℕ) (bs : List ℕ) (at : ℕ) (l : Layout) → Fine l → InLines (output_from most bs at l)
unfolding output_from ledger_record ledger_call reply steps
output-lines zero bs at l fine = no_line
output-lines (suc most) bs at l fine =
    reply-lines (first (whole_refusals job_room false bs at)) (is_end bs at) (record_steps bs at) (record_end bs at) l _ fine
    (file-possible bs at)
    (λ n.
    output-lines most bs n _
    (call-keeps Fine job_room (λ k. fine-kept (with_output job_room k)) (run_record bs at) l fine))

pub writes-lines : WritesLines
unfolding output
writes-lines bs = output-lines _ bs 0 no_foil no-foil-fine
