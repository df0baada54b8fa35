-- A record that was run and reported, reply by reply.
use Prim.Native.Nat.{ℕ, suc, ◌+◌, ◌*◌, ◌≤◌}
use native.Mathlib.Omega.{arith}
use mathlib.Core.Path.{◌≡◌, refl, sym, ap, ◌∙◌, subst}
use mathlib.Core.Bool.{true}
use mathlib.Core.List.{List, [], ◌∷◌, append-nil}
use mathlib.Core.Option.{Option, none, some}
use lib.ListN.{length, drop}
use Rattle.foil_spec.specs.Lists.{each}
use Rattle.foil_spec.specs.Limits.{max_strips, corner_places}
use Rattle.foil_spec.specs.Ledger.{Answer, After, strips_of}
use Rattle.foil_spec.specs.Lent.{Lent, held, sound, listed_strips}
use Rattle.foil_spec.specs.Job.{job_room, step_bits, has, record_steps, steps}
use Rattle.foil_spec.specs.Calls.{RecordReply, refused_whole, ran_steps, end_mark, as_reply, record_on, answers_in}
use Rattle.foil_spec.specs.Calls.{output_all, output_by, place_after}
use Rattle.foil_spec.specs.Sheet.{SheetLent, view}
use Rattle.foil_spec.specs.declared.Board.{Board}
use Rattle.ledger_laws.proofs.Replies.{shown_by}
use Rattle.ledger_laws.proofs.Sound.{Sound, of-sound, strips-listed}
use Rattle.std.specs.Prelude.{Option as Maybe, None, Ok, Err}
use Rattle.job.specs.Contract.{Reply, set_below, next_of, reply_of}
use Rattle.job.specs.Parts.{ran_to}
use Rattle.job.specs.declared.Answers.{Answers}
use Rattle.job.specs.declared.Progress.TheVariants.{Ran, AtEnd}
use Rattle.job.proofs.Replies.{was-refused, HasRun, has-run, Stepped, stepped, Ended, ended, Tracked, bit-tracked}
use Rattle.lines.specs.Lines.{file_line, strip_line}
use Rattle.lines.specs.Output.{lines_of_steps, reply_lines}
use Rattle.putting.specs.Put.{Put}
use Rattle.sheet_laws.specs.Jobs.{only_foil0}
use Rattle.job_report.specs.Report.{ran_record, RecordRan, record_lines, RecordReported}
use Rattle.job_report.specs.Told.{answer_lines, FromBits}
use Rattle.job_report.specs.declared.Reported.{Reported}
use Rattle.job_report.proofs.Answering.{answers-lines, answers-from, strips-few}
use Rattle.job_report.proofs.Foil0.{unrefused-alone}

module _ (bs : List ℕ) (at : ℕ) (b : Board) (t₀ s₀ out : List ℕ) (d : Reply) (b' : Board) (t s out' : List ℕ)
    (done : RecordRan bs at (only_foil0 b t₀ s₀) out d b' t s out') where
  abbrev m : SheetLent
  m = only_foil0 b t₀ s₀

  abbrev reply : RecordReply
  reply = (ran_record bs at m).answer

  -- the foil after it
  abbrev after : Lent
  after = view 0 (ran_record bs at m).state

  -- the lines of a record by its reply
  lines-by : (o : RecordReply) → reply ≡ o
      → record_lines bs at m ≡ reply_lines (record_steps bs at) o (held after) (λ (n : ℕ). [])
  unfolding record_lines
  lines-by o e = ap (λ (x : RecordReply). reply_lines (record_steps bs at) x (held after) (λ (n : ℕ). [])) e

  -- the bytes are the record's lines, and the next place is the reply's
  reported : (old new : List ℕ) (r : Reported) (o : RecordReply) (lines : List ℕ) → reply ≡ o
      → record_lines bs at m ≡ lines → Put old 0 lines new r.size → r.next ≡ next_of (place_after o)
      → RecordReported bs at m out old new r b' t s out'
  reported old new r o lines e f p n =
      record {
        places = done.places;
        lines = subst (λ (x : List ℕ). Put old 0 x new r.size) (sym f) p;
        next = n ∙ ap (λ (x : RecordReply). next_of (place_after x)) (sym e);
        state = done.state;
        output = done.output;
      }

  -- ---- refused as a whole

  pub file-reported : (n : ℕ) → d ≡ Err n → (old new : List ℕ) (size : ℕ) → Put old 0 (file_line n) new size
      → (r : Reported) → r ≡ record { size = size; next = None }
      → RecordReported bs at m out old new r b' t s out'
  unfolding reply_lines place_after next_of
  file-reported n e old new size p r q =
      let is = was-refused (has bs at) reply n (sym e ∙ done.reply) in
      subst (λ (x : Reported). RecordReported bs at m out old new x b' t s out') (sym q)
      (reported old new _ (refused_whole n) (file_line n) is (lines-by _ is) p refl)

  -- ---- the steps

  module _ (a : Answers) (next : Maybe ℕ) (e : d ≡ Ok (Ran a next)) where
    run : HasRun (has bs at) reply a next
    run = has-run (has bs at) reply a next (sym e ∙ done.reply)

    abbrev given : List Answer
    given = run.given

    -- so they were on the foil alone
    abbrev v : Lent
    v = view 0 m

    alone-ran : (record_on job_room bs at v).answer ≡ ran_steps given run.place
    unfolding shown_by
    alone-ran =
        ap (λ (x : After RecordReply Lent). x.answer)
        (unrefused-alone bs at b t₀ s₀ done.places (λ x. x ≡ ran_steps given run.place) never run.is)
        ∙ run.is
      where
        never : (n : ℕ) → refused_whole n ≡ ran_steps given run.place → ⊥
        never n h = let z : ◌≡◌ {A = ℕ} 0 1 = cc in omega arith

    steps-run : Stepped job_room bs at v given
    steps-run = stepped job_room bs at v given run.place alone-ran

    given_is : given ≡ (ran_to job_room bs at step_bits v).answer
    unfolding steps record_steps
    given_is = steps-run.answers

    corners-are : out' ≡ output_all given out
    unfolding as_reply output_by answers_in
    corners-are = done.output ∙ ap (λ (x : RecordReply). output_by (as_reply x) out) run.is

    tracked : (k j : ℕ) → k + suc j ≡ step_bits → (x : Answer) (rest : List Answer) → has bs at k ≡ true
        → drop (set_below (has bs at) k) given ≡ x ∷ rest → Tracked x job_room.output out'
    tracked k j q x rest set h =
        let same : (ran_to job_room bs at (k + suc j) v).answer ≡ given =
        ap (λ (n : ℕ). (ran_to job_room bs at n v).answer) q ∙ sym given_is in
        subst (Tracked x job_room.output)
        (ap (λ (l : List Answer). output_all l out) same ∙ sym corners-are)
        (bit-tracked job_room bs at v out k j x rest set (ap (drop (set_below (has bs at) k)) same ∙ h))

    room-is : job_room.output ≡ 2 * corner_places
    unfolding job_room
    room-is = refl

    pub from_bits : length out' ≡ 2 * corner_places → FromBits bs at out' a
    from_bits long =
        subst (FromBits bs at out') (sym run.answers)
        (answers-from bs at out' job_room.output given tracked steps-run.whole (omega (arith, room-is))
        (omega (arith, room-is)))

    pub steps-reported : (old new : List ℕ) (size : ℕ) → Put old 0 (answer_lines bs at out' a) new size
        → RecordReported bs at m out old new (record { size = size; next = next }) b' t s out'
    unfolding reply_lines place_after
    steps-reported old new size p =
        reported old new _ (ran_steps given run.place) (answer_lines bs at out' a) run.is
        (lines-by _ run.is ∙ by_place run.place
        ∙ sym (ap (answer_lines bs at out') run.answers
        ∙ answers-lines bs at out' job_room.output given tracked)) p run.next
      where
        by_place : (n : Option ℕ)
            → reply_lines (record_steps bs at) (ran_steps given n) (held after) (λ (k : ℕ). [])
            ≡ lines_of_steps (record_steps bs at) given
        by_place none = refl
        by_place (some n) = append-nil (lines_of_steps (record_steps bs at) given)

  -- ---- the end mark

  module _ (e : d ≡ Ok AtEnd) where
    alone-is : record_on job_room bs at (view 0 m) ≡ shown_by (view 0) (ran_record bs at m)
    unfolding reply_of
    alone-is =
        unrefused-alone bs at b t₀ s₀ done.places (λ x. Ok AtEnd ≡ reply_of (has bs at) x) never (sym e ∙ done.reply)
      where
        never : (n : ℕ) → Ok AtEnd ≡ reply_of (has bs at) (refused_whole n) → ⊥
        never n h = let z : ◌≡◌ {A = ℕ} 0 1 = cc in omega arith

    end : Ended job_room bs at (view 0 m)
    unfolding shown_by
    end =
        ended job_room bs at (view 0 m) (has bs at)
        (sym e ∙ done.reply ∙ ap (λ (x : After RecordReply Lent). reply_of (has bs at) x.answer) (sym alone-is))

    at-end : reply ≡ end_mark
    unfolding shown_by
    at-end = ap (λ (x : After RecordReply Lent). x.answer) (sym alone-is) ∙ end.answer

    -- the foil keeps the rules, and is the one that was left
    abbrev left : Lent
    left = view 0 (only_foil0 b' t s)

    left_is : left ≡ after
    left_is = ap (view 0) done.state

    fine : Sound left
    unfolding shown_by
    fine =
        of-sound left
        (ap sound (left_is ∙ ap (λ (x : After RecordReply Lent). x.state) (sym alone-is) ∙ end.state) ∙ end.fine)

    pub count-few : b'.strips ≤ max_strips
    unfolding view
    count-few = strips-few left fine

    pub strips-reported : (old new : List ℕ) (size : ℕ)
        → Put old 0 (each strip_line (listed_strips s b'.strips)) new size
        → (r : Reported) → r ≡ record { size = size; next = None }
        → RecordReported bs at m out old new r b' t s out'
    unfolding reply_lines place_after next_of view
    strips-reported old new size p r q =
        subst (λ (x : Reported). RecordReported bs at m out old new x b' t s out') (sym q)
        (reported old new _ end_mark (each strip_line (listed_strips s b'.strips)) at-end
        (lines-by end_mark at-end
        ∙ ap (each strip_line) (ap (λ (x : Lent). strips_of (held x)) (sym left_is) ∙ sym (strips-listed left fine)))
        p refl)
