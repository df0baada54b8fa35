-- What the contracts of a record's parts say.
use Rattle.std.specs.Prelude.{ℕ, ◌+◌, ◌*◌, ◌≤◌, ◌<◌, ◌≡◌, Bool, true, false, cond, List, map, eqb, length}
use Rattle.std.specs.Prelude.{Ok, Err}
use Rattle.std.proofs.Math.Option.{Option, none, some}
use Rattle.foil_spec.specs.Lists.{range, any}
use Rattle.foil_spec.specs.Limits.{table_size, strips_size, max_bytes}
use Rattle.foil_spec.specs.Ledger.{reads, Room, short, After}
use Rattle.foil_spec.specs.Ledger.{Answer as Outcome}
use Rattle.foil_spec.specs.Lent.{Lent, lent, sound, room_in, step_on}
use Rattle.foil_spec.specs.Job.{map_bits, step_bits, as_step, has, fields_at, record_end, step_at, steps_at, steps}
use Rattle.foil_spec.specs.Calls.{ends_job, act_all, act_record, output_all}
use Rattle.foil_spec.specs.declared.Board.{Board}
use Rattle.foil.specs.Contract.{Answer, Checked, answer_of}
use Rattle.job.specs.Contract.{Told, by_bit, answers_of, Replies}
use Rattle.job.specs.declared.Answers.{Answers}
use Rattle.job.specs.declared.Progress.{Progress}
use Rattle.job.specs.declared.running.Stepped.{Stepped}

-- ---- the fields

-- bytes that are not too many, and a place among them
pub record Begun (bs : List ℕ) (at : ℕ) : Type 0 where
  pub there : at < length bs
  pub few : length bs ≤ max_bytes

-- a record all of whose fields are among the bytes
pub record Whole (bs : List ℕ) (at : ℕ) : Type 0 where
  pub begun : Begun bs at
  pub ends : record_end bs at ≤ length bs

-- number i of the fields of bit k is among the bytes
pub record Given (bs : List ℕ) (at k i : ℕ) : Type 0 where
  pub begun : Begun bs at
  pub bit : k < map_bits
  pub few : i < 5
  pub there : fields_at bs at k + 2 * i + 2 ≤ length bs

-- ---- the checks

-- whether checks are passed, by the number of the first that is not
unfoldable pub checked_of : Option ℕ → Checked
checked_of none = Ok tt
checked_of (some n) = Err n

-- 18, 12 and 13 do not refuse the record at a place of the bytes that is lent m
pub record Lends (bs : List ℕ) (at : ℕ) (m : Lent) : Type 0 where
  pub few : length bs ≤ max_bytes
  pub table : table_size ≤ length m.table
  pub strips : strips_size ≤ length m.strips
  pub fine : (at ≡ 0 → ⊥) → sound m ≡ true

-- ---- the steps

-- the steps of a record may be run on m: its fields are among the bytes, the lists are long enough, and the foil keeps
-- the rules unless the record begins one
pub record Ready (bs : List ℕ) (at : ℕ) (m : Lent) : Type 0 where
  pub whole : Whole bs at
  pub table : table_size ≤ length m.table
  pub strips : strips_size ≤ length m.strips
  pub fine : has bs at 0 ≡ false → sound m ≡ true

-- the step of bit k, which is set, may be run on m
pub record BitReady (bs : List ℕ) (at k : ℕ) (m : Lent) : Type 0 where
  pub whole : Whole bs at
  pub bit : k < step_bits
  pub set : has bs at k ≡ true
  pub table : table_size ≤ length m.table
  pub strips : strips_size ≤ length m.strips
  pub fine : reads (as_step (step_at bs at k)) ≡ true → sound m ≡ true

-- the same if it is set and the job has not ended
pub record MayRun (bs : List ℕ) (at k : ℕ) (ended : Bool) (m : Lent) : Type 0 where
  pub begun : Begun bs at
  pub bit : k < step_bits
  pub ready : has bs at k ≡ true → ended ≡ false → BitReady bs at k m

-- the steps of the bits below k, run in the room r on m
abbrev pub ran_to : Room → List ℕ → ℕ → ℕ → Lent → After (List Outcome) Lent
ran_to r bs at k m = act_all (step_on r) (map as_step (steps_at bs at (range 0 k))) m

-- they were run, and m was lent with the output list out: they left d, the record b, the table t, the strips s and the
-- output list out'
pub record RanTo (r : Room) (bs : List ℕ) (at k : ℕ) (m : Lent) (out : List ℕ) (d : Stepped) (b : Board)
    (t s out' : List ℕ) : Type 0 where
  pub answers : d.answers ≡ answers_of (has bs at) (ran_to r bs at k m).answer
  pub ended : d.ended ≡ any ends_job (ran_to r bs at k m).answer
  pub state : lent b t s ≡ (ran_to r bs at k m).state
  pub output : out' ≡ output_all (ran_to r bs at k m).answer out

-- bit k was met after the bits below it had left d, b, t, s and out: with it the bits up to k have left d', b', t', s'
-- and out'
pub record GoesOn (limit : ℕ) (bs : List ℕ) (at k : ℕ) (d : Stepped) (b : Board) (t s out : List ℕ) (d' : Stepped)
    (b' : Board) (t' s' out' : List ℕ) : Type 0 where
  pub is : (r : Room) (m : Lent) (o : List ℕ) → short r ≡ false → r.limit ≡ limit → r.output ≡ length out
      → RanTo r bs at k m o d b t s out → RanTo r bs at (k + 1) m o d' b' t' s' out'

-- bit k told t, each other bit what it told before
unfoldable pub told_with_more : (ℕ → Told) → ℕ → Told → ℕ → Told
told_with_more f k t j = cond (eqb j k) t (f j)

-- the answers r are a, where bit k told t
pub record ToldMore (a : Answers) (k : ℕ) (t : Told) (r : Answers) : Type 0 where
  pub is : (f : ℕ → Told) → a ≡ by_bit f → r ≡ by_bit (told_with_more f k t)

-- r says whether the answer of a step ends the job
pub record Ends (a : Answer) (r : Bool) : Type 0 where
  pub is : (o : Outcome) → a ≡ answer_of o → r ≡ ends_job o

-- the steps of the record at a place were run on m and the output list out, on a foil of so many entries at most
abbrev pub StepsDone : ℕ → List ℕ → ℕ → Lent → List ℕ → Progress → Board → List ℕ → List ℕ → List ℕ → Type 0
StepsDone limit bs at m out r b t s out' =
    Replies (has bs at)
    (act_record (step_on (room_in limit m (length out))) none false (steps bs at) (record_end bs at) m)
    out (Ok r) b t s out'
