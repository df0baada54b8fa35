-- The bits of a record, one after the other: what the bits below one have left, that bit goes on from.
use Prim.Native.Nat.{ℕ, zero, suc, ◌+◌, ◌<◌}
use native.Mathlib.Omega.{arith}
use native.Mathlib.Numerals.{add-one}
use mathlib.Core.Path.{◌≡◌, refl, sym, ap, ◌∙◌, subst}
use mathlib.Core.Bool.{Bool, true, false, cond, ◌||◌}
use mathlib.Core.List.{List, [], ◌∷◌, ◌++◌, map}
use mathlib.Core.Option.{none, some}
use lib.ListN.{length}
use Rattle.foil_spec.specs.Lists.{range, any}
use Rattle.foil_spec.specs.Ledger.{Step, Answer, reads, Room, short}
use Rattle.foil_spec.specs.Lent.{Lent, lent, sound, room_in, step_on, output_after}
use Rattle.foil_spec.specs.Job.{map_bits, step_bits, as_step, has, fields_at, record_end, step_at, steps_at, record_steps}
use Rattle.foil_spec.specs.Job.{steps}
use Rattle.foil_spec.specs.Calls.{as_reply, ends_job, act_all, act_record, answers_in, output_all, output_by}
use Rattle.foil_spec.specs.declared.Board.{Board}
use Rattle.list_laws.proofs.Tests.{both, clash, any_append}
use Rattle.std.specs.Prelude.{Option as Maybe, Some, None}
use Rattle.foil.specs.Contract.{Answer as Answered, Wrote, OutputIn}
use Rattle.foil.proofs.Giving.{long-room, limit_is, output-is}
use Rattle.job.specs.Contract.{answers_of, next_of, reply_of}
use Rattle.job.specs.Parts.{Ready, MayRun, ran_to, RanTo, GoesOn, ToldMore, Ends, StepsDone}
use Rattle.job.specs.declared.Answers.{Answers}
use Rattle.job.specs.declared.Progress.TheVariants.{Ran}
use Rattle.job.specs.declared.running.Stepped.{Stepped}
use Rattle.ledger_laws.proofs.StaysSound.{steps-sound, first-sound}
use Rattle.job.proofs.Acting.{ran-unset, ran-ended, ran-more, ran-length}
use Rattle.job.proofs.ByBit.{none_told, answers-more}

-- ---- before the first bit

abbrev begun : Stepped
begun =
    record {
      answers = record { board = None; patch = None; track = None; lift = None; leg = None };
      ended = false;
    }

pub ran-none : (r : Room) (bs : List ℕ) (at : ℕ) (b : Board) (t s out : List ℕ)
    → RanTo r bs at 0 (lent b t s) out begun b t s out
unfolding steps_at act_all output_all
ran-none r bs at b t s out = record { answers = none_told (has bs at); ended = refl; state = refl; output = refl }

-- ---- a bit whose step is not run

module _ (limit : ℕ) (bs : List ℕ) (at k : ℕ) (d : Stepped) (b : Board) (t s out : List ℕ) where
  ran-same : {r : Room} {m : Lent} {o : List ℕ} → ran_to r bs at (suc k) m ≡ ran_to r bs at k m
      → RanTo r bs at k m o d b t s out → RanTo r bs at (k + 1) m o d b t s out
  ran-same {r} {m} {o} e j =
      subst (λ (i : ℕ). RanTo r bs at i m o d b t s out) (sym (add-one k))
      (record { answers = rw e j.answers; ended = rw e j.ended; state = rw e j.state; output = rw e j.output })

  pub bit-over : d.ended ≡ true → GoesOn limit bs at k d b t s out d b t s out
  bit-over over =
      record { is = λ r m o long few room j. ran-same (ran-ended bs at r m k (sym j.ended ∙ over)) j }

  pub bit-unset : has bs at k ≡ false → GoesOn limit bs at k d b t s out d b t s out
  bit-unset unset = record { is = λ r m o long few room j. ran-same (ran-unset bs at r m k unset) j }

-- ---- a bit whose step is run

outputs-append : (given : List Answer) (a : Answer) (out : List ℕ)
    → output_all (given ++ (a ∷ [])) out ≡ output_after a (output_all given out)
unfolding output_all
outputs-append [] a out = refl
outputs-append (x ∷ given) a out = outputs-append given a (output_after x out)

ends_last : (given : List Answer) (a : Answer) → any ends_job given ≡ false
    → any ends_job (given ++ (a ∷ [])) ≡ ends_job a
ends_last given a e = any_append ends_job given (a ∷ []) ∙ rw e (or-none (ends_job a))
  where
    or-none : (b : Bool) → (b || false) ≡ b
    or-none true = refl
    or-none false = refl

module _ (limit : ℕ) (bs : List ℕ) (at k : ℕ) (d : Stepped) (b : Board) (t s out : List ℕ)
    (set : has bs at k ≡ true) (going : d.ended ≡ false) where
  pub bit-run : (x : Answered) (b' : Board) (t' s' out' : List ℕ)
      → OutputIn (as_step (step_at bs at k)) limit (lent b t s) out x b' t' s' out'
      → (new : Answers) → ToldMore d.answers k (Some x) new → (over : Bool) → Ends x over
      → GoesOn limit bs at k d b t s out (record { answers = new; ended = over }) b' t' s' out'
  bit-run x b' t' s' out' step new told over ends =
      record {
        is = λ r m o long few room j.
            let given : List Answer = (ran_to r bs at k m).answer in
            let before : any ends_job given ≡ false = sym j.ended ∙ going in
            let a : Answer = (step_on r (as_step (step_at bs at k)) (ran_to r bs at k m).state).answer in
            let w : Wrote (as_step (step_at bs at k)) r (ran_to r bs at k m).state out x b' t' s' out' =
            subst (λ (y : Lent). Wrote (as_step (step_at bs at k)) r y out x b' t' s' out') j.state
            (step r long few room) in
            let more = ran-more bs at r m k set before in
            subst (λ (i : ℕ).
            RanTo r bs at i m o (record { answers = new; ended = over }) b' t' s' out') (sym (add-one k))
            (record {
              answers =
                  answers-more (has bs at) given k a set (ran-length bs at r m k before) d.answers new j.answers
                  (subst (λ y. ToldMore d.answers k (Some y) new) w.gave.answer told)
                  ∙ ap (λ y. answers_of (has bs at) y.answer) (sym more);
              ended =
                  ends.is a w.gave.answer ∙ sym (ends_last given a before)
                  ∙ ap (λ y. any ends_job y.answer) (sym more);
              state =
                  (λ i. lent (w.gave.board i) (w.gave.table i) (w.gave.strips i)) ∙ ap (λ y. y.state) (sym more);
              output =
                  w.output ∙ ap (output_after a) j.output ∙ sym (outputs-append given a o)
                  ∙ ap (λ y. output_all y.answer o) (sym more);
            });
      }

-- ---- what a bit's step may count on

reads_first : (bs : List ℕ) (at : ℕ) → reads (as_step (step_at bs at 0)) ≡ false
unfolding step_at as_step reads
reads_first bs at = refl

-- before a step that reads the foil, it keeps the rules
bits-sound : (r : Room) (bs : List ℕ) (at : ℕ) (m : Lent) → Ready bs at m → short r ≡ false → (k : ℕ)
    → any ends_job (ran_to r bs at k m).answer ≡ false → reads (as_step (step_at bs at k)) ≡ true
    → sound (ran_to r bs at k m).state ≡ true
bits-sound r bs at m y long zero h f = clash f (reads_first bs at)
bits-sound r bs at m y long (suc k) h f =
    both (has bs at 0)
    (λ set. opened (map as_step (steps_at bs at (range 0 (suc k)))) (opens set) h)
    (λ unset. steps-sound r (map as_step (steps_at bs at (range 0 (suc k)))) m (y.fine unset))
  where
    later : List Step
    later = map as_step (steps_at bs at (range 1 k))

    opens : has bs at 0 ≡ true → map as_step (steps_at bs at (range 0 (suc k))) ≡ as_step (step_at bs at 0) ∷ later
    opens set = unfold steps_at in rw set refl

    opened : (ss : List Step) → ss ≡ as_step (step_at bs at 0) ∷ later
        → any ends_job (act_all (step_on r) ss m).answer ≡ false
        → sound (act_all (step_on r) ss m).state ≡ true
    opened ss e g =
        rw e (unfold step_at as_step in first-sound r _ _ _ later m long (rw e at g))

ready-long : (bs : List ℕ) (at : ℕ) (m : Lent) → Ready bs at m → (limit n : ℕ) → short (room_in limit m n) ≡ false
ready-long bs at m y limit n = long-room m (record { table = y.table; strips = y.strips }) limit n

pub bit-ready : (limit : ℕ) (bs : List ℕ) (at : ℕ) (m : Lent) (o : List ℕ) → Ready bs at m
    → (k : ℕ) (d : Stepped) (b : Board) (t s out : List ℕ) → RanTo (room_in limit m (length o)) bs at k m o d b t s out
    → k < step_bits → length t ≡ length m.table → length s ≡ length m.strips → MayRun bs at k d.ended (lent b t s)
bit-ready limit bs at m o y k d b t s out j l e f =
    let r : Room = room_in limit m (length o) in
    record {
      begun = y.whole.begun;
      bit = l;
      ready = λ set ne.
          record {
            whole = y.whole;
            bit = l;
            set = set;
            table = omega (arith, y.table);
            strips = omega (arith, y.strips);
            fine = λ g.
                ap sound j.state
                ∙ bits-sound r bs at m y (ready-long bs at m y limit (length o)) k (sym j.ended ∙ ne) g;
          };
    }

-- ---- the next bit in the room of the record

pub next_bit : (limit : ℕ) (bs : List ℕ) (at : ℕ) (m : Lent) (o : List ℕ) → Ready bs at m
    → (k : ℕ) (d : Stepped) (b : Board) (t s out : List ℕ) (d' : Stepped) (b' : Board) (t' s' out' : List ℕ)
    → GoesOn limit bs at k d b t s out d' b' t' s' out' → length out ≡ length o
    → RanTo (room_in limit m (length o)) bs at k m o d b t s out
    → RanTo (room_in limit m (length o)) bs at (k + 1) m o d' b' t' s' out'
next_bit limit bs at m o y k d b t s out d' b' t' s' out' g e j =
    g.is (room_in limit m (length o)) m o (ready-long bs at m y limit (length o)) (limit_is limit m (length o))
    (output-is limit m (length o) ∙ sym e) j

-- ---- after the last bit

pub steps-done : (limit : ℕ) (bs : List ℕ) (at : ℕ) (m : Lent) (o : List ℕ) (k : ℕ) (d : Stepped) (b : Board)
    (t s out : List ℕ) → RanTo (room_in limit m (length o)) bs at k m o d b t s out → k ≡ step_bits
    → (n : Maybe ℕ) → n ≡ next_of (cond d.ended none (some (fields_at bs at map_bits)))
    → StepsDone limit bs at m o (Ran d.answers n) b t s out
unfolding act_record as_reply reply_of steps record_steps record_end output_by answers_in
steps-done limit bs at m o k d b t s out j last n f =
    let a = subst (λ (i : ℕ). RanTo (room_in limit m (length o)) bs at i m o d b t s out) last j in
    record {
      reply = rw (f, a.ended, a.answers) refl;
      board = ap (λ x. x.board) a.state;
      table = ap (λ x. x.table) a.state;
      strips = ap (λ x. x.strips) a.state;
      output = a.output;
    }
