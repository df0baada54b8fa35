-- The calls, on the ledger and on what is lent.
use Rattle.std.specs.Prelude.{ℕ, zero, suc, Bool, true, false, cond, not, ◌&&◌, ◌||◌, List, [], ◌∷◌, ltb, eqb, length, Float}
use Rattle.std.proofs.Math.Option.{Option, none, some}
use Rattle.foil_spec.specs.Lists.{any, each}
use Rattle.foil_spec.specs.Limits.{max_bytes}
use Rattle.foil_spec.specs.Foil.{Layout}
use Rattle.foil_spec.specs.Ledger.{Step, Answer, refused, accepted, laid, found, wrote, booked}
use Rattle.foil_spec.specs.Ledger.{Refusal, ◌⇒◌, first, Room, after_lent, After, ledger_step}
use Rattle.foil_spec.specs.Lent.{Lent, held, sound, step_on, over_front, output_after, numbers_out, room_left}
use Rattle.foil_spec.specs.Wishes.{wishes, too_many}
use Rattle.foil_spec.specs.Ohms.{ohms_refusals, ohms_of}
use Rattle.foil_spec.specs.declared.Ink.{Ink}
use Rattle.foil_spec.specs.Job.{steps, is_end, record_end, record_checks}

-- a call: one step, or the record at a place of the job file's bytes, or the ohms of a net, or a list of lays: the
-- numbers of its wishes, and how many places for answers are lent
pub data Call : Type 0 where
  step : Step → Call
  run_record : List ℕ → ℕ → Call
  ohms : ℕ → Ink → Call
  lay_list : List ℕ → ℕ → Call

-- what a record comes to: refused as a whole by a number; or each step's answer and the next place; or the end mark
pub data RecordReply : Type 0 where
  refused_whole : ℕ → RecordReply
  ran_steps : List Answer → Option ℕ → RecordReply
  end_mark : RecordReply

-- the answer of a step, or the refusal of a call as a whole; of a record each step's answer and the next place, or the
-- end mark; the ohms; or the answer of each lay of a list
pub data Reply : Type 0 where
  answered : Answer → Reply
  ran : List Answer → Option ℕ → Reply
  at_end : Reply
  measured : Float → Reply
  laid_all : List Answer → Reply

-- what a record comes to, as the reply to a call
unfoldable pub as_reply : RecordReply → Reply
as_reply (refused_whole n) = answered (refused n)
as_reply (ran_steps given place) = ran given place
as_reply end_mark = at_end

-- the same with the state after it
abbrev pub replied : {S : Type 0} → After RecordReply S → After Reply S
replied a = record { answer = as_reply a.answer; state = a.state }

-- a step refused by 1, 2 or 20 ends the job
unfoldable pub ends_job : Answer → Bool
ends_job (refused n) = eqb n 1 || eqb n 2 || eqb n 20
ends_job accepted = false
ends_job (laid cs n) = false
ends_job (found n) = false
ends_job (wrote bs) = false
ends_job (booked k n) = false

-- a step's answer in front of those of the steps after it, which are not done where it ends the job
unfoldable pub and_then : {S : Type 0} → After Answer S → After (List Answer) S → After (List Answer) S
and_then a b =
    cond (ends_job a.answer)
    (record { answer = a.answer ∷ []; state = a.state })
    (record { answer = a.answer ∷ b.answer; state = b.state })

-- a record on any state, where `act` does a step
module _ {S : Type 0} (act : Step → S → After Answer S) where
  -- the steps one after the other
  unfoldable pub act_all : List Step → S → After (List Answer) S
  act_all [] s = record { answer = []; state = s }
  act_all (c ∷ cs) s = and_then (act c s) (act_all cs (act c s).state)

  -- refused as a whole, or the end mark, or the answers of the steps and the next place
  unfoldable pub act_record : Option ℕ → Bool → List Step → ℕ → S → After RecordReply S
  act_record (some n) end cs place s = record { answer = refused_whole n; state = s }
  act_record none true cs place s = record { answer = end_mark; state = s }
  act_record none false cs place s =
      record {
        answer = ran_steps (act_all cs s).answer (cond (any ends_job (act_all cs s).answer) none (some place));
        state = (act_all cs s).state;
      }

-- an answer in front of those after it
unfoldable pub in_front : {S : Type 0} → After Answer S → After (List Answer) S → After (List Answer) S
in_front a b = record { answer = a.answer ∷ b.answer; state = b.state }

-- a list of lays on any state, where `act` does a step in a room
module _ {S : Type 0} (act : Room → Step → S → After Answer S) where
  -- the steps one after the other, whatever each answers, and each in the room that those before it leave
  unfoldable pub act_each : Room → List Step → S → After (List Answer) S
  act_each r [] s = record { answer = []; state = s }
  act_each r (c ∷ cs) s = in_front (act r c s) (act_each (room_left (act r c s).answer r) cs (act r c s).state)

  -- refused as a whole, or the answers of the steps
  unfoldable pub act_list : Option ℕ → Room → List Step → S → After Reply S
  act_list (some n) r cs s = record { answer = answered (refused n); state = s }
  act_list none r cs s = record { answer = laid_all (act_each r cs s).answer; state = (act_each r cs s).state }

-- 18: the job file has too many bytes
unfoldable pub too_large : List ℕ → Bool
too_large bs = ltb max_bytes (length bs)

-- the refusals of a record as a whole; 13 is not tried at place 0, where a foil is begun
unfoldable pub whole_refusals : Room → Bool → List ℕ → ℕ → List Refusal
whole_refusals r broken bs at = (too_large bs ⇒ 18) ∷ after_lent r (broken && not (eqb at 0)) (record_checks bs at)

-- the record at a place, on a state where `act` does a step in a room; `broken` says that the state breaks a rule
abbrev pub record_by :
    {S : Type 0} → (Room → Step → S → After Answer S) → Room → Bool → List ℕ → ℕ → S → After RecordReply S
record_by act r broken bs at s =
    act_record (act r) (first (whole_refusals r broken bs at)) (is_end bs at) (steps bs at) (record_end bs at) s

-- refused by a number, or the ohms
unfoldable pub ohms_reply : Option ℕ → Float → Reply
ohms_reply (some n) x = answered (refused n)
ohms_reply none x = measured x

-- the refusals of a list of lays as a whole; 13 is tried also without wishes
unfoldable pub list_refusals : Room → Bool → List ℕ → ℕ → List Refusal
list_refusals r broken ws n = (too_many ws n ⇒ 12) ∷ after_lent r broken []

-- a call on a state s that holds the layout l, where `act` does a step in a room; `broken` says that the state breaks a
-- rule
unfoldable pub reply :
    {S : Type 0} → (Room → Step → S → After Answer S) → Room → Bool → Call → Layout → S → After Reply S
reply act r broken (step c) l s = record { answer = answered (act r c s).answer; state = (act r c s).state }
reply act r broken (run_record bs at) l s = replied (record_by act r broken bs at s)
reply act r broken (ohms net i) l s =
    record { answer = ohms_reply (first (after_lent r broken (ohms_refusals net i l))) (ohms_of net i l); state = s }
reply act r broken (lay_list ws n) l s = act_list act (first (list_refusals r broken ws n)) r (wishes ws) s

-- the ledger's reply to a call
unfoldable pub ledger_call : Room → Call → Layout → After Reply Layout
ledger_call r c l = reply ledger_step r false c l l

-- what a call does to what is lent
unfoldable pub call_on : Room → Call → Lent → After Reply Lent
call_on r c m = reply step_on r (not (sound m)) c (held m) m

-- what the record at a place comes to on the ledger
unfoldable pub ledger_record : Room → List ℕ → ℕ → Layout → After RecordReply Layout
ledger_record r bs at l = record_by ledger_step r false bs at l

-- what it does to what is lent
unfoldable pub record_on : Room → List ℕ → ℕ → Lent → After RecordReply Lent
record_on r bs at m = record_by step_on r (not (sound m)) bs at m

-- the answers in a reply
unfoldable pub answers_in : Reply → List Answer
answers_in (answered a) = a ∷ []
answers_in (ran given place) = given
answers_in at_end = []
answers_in (measured x) = []
answers_in (laid_all given) = given

-- an output list after some answers
unfoldable pub output_all : List Answer → List ℕ → List ℕ
output_all [] out = out
output_all (a ∷ given) out = output_all given (output_after a out)

-- an output list after a reply: each answer of a record writes at its front, those of a list one after the other
unfoldable pub output_by : Reply → List ℕ → List ℕ
output_by (answered a) out = output_after a out
output_by (ran given place) out = output_all given out
output_by at_end out = out
output_by (measured x) out = out
output_by (laid_all given) out = over_front (each numbers_out given) out

-- where a job goes on after a record
unfoldable pub place_after : RecordReply → Option ℕ
place_after (refused_whole n) = none
place_after (ran_steps given place) = place
place_after end_mark = none

-- a job file on any state, where `run` runs the record at a place of its bytes
module _ {S : Type 0} (run : List ℕ → ℕ → S → After RecordReply S) where
  -- what its records come to from a place on, at most n of them, each on what the last one left
  unfoldable pub read_from : List ℕ → ℕ → Option ℕ → S → After (List RecordReply) S
  read_from bs zero place s = record { answer = []; state = s }
  read_from bs (suc n) none s = record { answer = []; state = s }
  read_from bs (suc n) (some at) s =
      record {
        answer =
            (run bs at s).answer ∷ (read_from bs n (place_after (run bs at s).answer) (run bs at s).state).answer;
        state = (read_from bs n (place_after (run bs at s).answer) (run bs at s).state).state;
      }

  -- those of the whole file, which has no more records than bytes
  unfoldable pub read_job : List ℕ → S → After (List RecordReply) S
  read_job bs s = read_from bs (length bs) (some 0) s
