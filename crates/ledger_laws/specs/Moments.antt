-- The steps that a list of calls runs, by calls of their own, inside records or in lists of lays, each with the
-- ledger's layout.
use Rattle.std.specs.Prelude.{ℕ, ◌≡◌, Bool, true, false, cond, List, [], ◌∷◌, ◌++◌, map, length, drop}
use Rattle.std.proofs.Math.Option.{Option}
use Rattle.foil_spec.specs.Foil.{Layout}
use Rattle.foil_spec.specs.Ledger.{Step, Answer, Room, ledger_step}
use Rattle.foil_spec.specs.Lent.{Lent, held, sound, step_on, output_after, numbers_out, room_left}
use Rattle.foil_spec.specs.Wishes.{wishes}
use Rattle.foil_spec.specs.Job.{steps}
use Rattle.foil_spec.specs.Calls.{Call, step, run_record, ohms, lay_list, Reply, answered, ran, at_end, measured, laid_all}
use Rattle.foil_spec.specs.Calls.{ends_job, answers_in}
use Rattle.foil_spec.specs.Sequence.{Lending, Begins, front, room_for, back, lend, told}

-- a step that is run: the room that it has, what it answers, the record and the whole lists before it and after it, its
-- output list after it, which is what was lent to it of the call's, and the ledger's layout before it and after it
pub record Moment : Type 0 where
  pub step : Step
  pub room : Room
  pub answer : Answer
  pub before : Lent
  pub after : Lent
  pub output : List ℕ
  pub ledger_before : Layout
  pub ledger_after : Layout

-- the call c, on the whole lists m
module _ (c : Lending) (m : Lent) where
  -- one of its steps in the room r, lent n and the output list out, where the ledger holds l
  unfoldable pub moment_of : Room → Step → Lent → List ℕ → Layout → Moment
  moment_of r s n out l =
      record {
        step = s;
        room = r;
        answer = (step_on r s n).answer;
        before = back c m n;
        after = back c m (step_on r s n).state;
        output = output_after (step_on r s n).answer out;
        ledger_before = l;
        ledger_after = (ledger_step r s l).state;
      }

  -- its steps one after the other, the first lent n; one that ends the job is the last
  unfoldable pub moments_of : List Step → Lent → List ℕ → Layout → List Moment
  moments_of [] n out l = []
  moments_of (s ∷ ss) n out l =
      moment_of (room_for c m) s n out l
      ∷ cond (ends_job (step_on (room_for c m) s n).answer) []
      (moments_of ss (step_on (room_for c m) s n).state (output_after (step_on (room_for c m) s n).answer out)
      (ledger_step (room_for c m) s l).state)

  -- those of a list, each in the room that those before it leave and lent the rest of the output list
  unfoldable pub moments_each : Room → List Step → Lent → List ℕ → Layout → List Moment
  moments_each r [] n out l = []
  moments_each r (s ∷ ss) n out l =
      moment_of r s n out l
      ∷ moments_each (room_left (step_on r s n).answer r) ss (step_on r s n).state
      (drop (length (numbers_out (step_on r s n).answer)) out) (ledger_step r s l).state

-- the steps that a call runs, by its reply: none where a record or a list is refused as a whole, or a record is the end
-- mark, and none where the ohms are asked for
unfoldable pub steps_run : Call → Reply → List Step
steps_run (step s) r = s ∷ []
steps_run (run_record bs at) (answered a) = []
steps_run (run_record bs at) (ran given place) = steps bs at
steps_run (run_record bs at) at_end = []
steps_run (run_record bs at) (measured x) = []
steps_run (run_record bs at) (laid_all given) = []
steps_run (ohms net i) r = []
steps_run (lay_list ws k) (answered a) = []
steps_run (lay_list ws k) (ran given place) = []
steps_run (lay_list ws k) at_end = []
steps_run (lay_list ws k) (measured x) = []
steps_run (lay_list ws k) (laid_all given) = wishes ws

-- the call is a list of lays
unfoldable pub is_list : Call → Bool
is_list (step s) = false
is_list (run_record bs at) = false
is_list (ohms net i) = false
is_list (lay_list ws k) = true

-- the steps ss of the call c on the whole lists m, the first lent n; k is what it calls
unfoldable pub moments_by : Lending → Lent → Call → List Step → Lent → List ℕ → Layout → List Moment
moments_by c m k ss n out l =
    cond (is_list k) (moments_each c m (room_for c m) ss n out l) (moments_of c m ss n out l)

-- the steps that a list of calls runs, on the whole lists m, where the ledger holds l before them
unfoldable pub moments : Lent → Layout → List Lending → List Moment
moments m l [] = []
moments m l (c ∷ cs) =
    moments_by c m c.call (steps_run c.call (lend c m).answer) (front c m) c.output l
    ++ moments (lend c m).state (told m c l).state cs

-- the answers at some steps
abbrev pub answers_at : List Moment → List Answer
answers_at ks = map (λ (k : Moment). k.answer) ks

-- no step of the call c is left out, on the whole lists m, where the ledger holds l: a call that is one step runs that
-- step; a record, or a list of lays, that is not refused as a whole runs the steps that it answers
pub record NoneLeftOut (c : Lending) (m : Lent) (l : Layout) : Type 0 where
  pub of-step : (s : Step) → c.call ≡ step s → answers_at (moments m l (c ∷ [])) ≡ answers_in (lend c m).answer
  pub of-record : (given : List Answer) (place : Option ℕ) → (lend c m).answer ≡ ran given place
      → answers_at (moments m l (c ∷ [])) ≡ given
  pub of-list : (ws : List ℕ) (k : ℕ) (given : List Answer) → c.call ≡ lay_list ws k
      → (lend c m).answer ≡ laid_all given → answers_at (moments m l (c ∷ [])) ≡ given

-- where a list of calls starts, m being what the lists hold and l what the ledger holds: with a call that begins a
-- foil, both m and l being anything; or on a foil that is there already, carried over
pub data Started : Lent → Layout → List Lending → Type 0 where
  begins : (m : Lent) (l : Layout) (c : Lending) (cs : List Lending) → Begins c.call (told m c l).answer
      → Started m l (c ∷ cs)
  carried : (m : Lent) (cs : List Lending) → sound m ≡ true → Started m (held m) cs

-- P holds of each step k that a list of calls runs, and of the steps run after it
abbrev pub AtEvery : (Moment → List Moment → Type 0) → Type 0
AtEvery P =
    (m : Lent) (l : Layout) (cs : List Lending) → Started m l cs
    → (earlier : List Moment) (k : Moment) (later : List Moment) → moments m l cs ≡ earlier ++ (k ∷ later)
    → P k later
