-- A job that steps end is ended by its board: no step that reads the foil is refused by a number that ends the job.
use Prim.Native.Nat.{ℕ, zero, suc}
use native.Mathlib.Omega.{arith}
use mathlib.Core.Path.{◌≡◌, refl, ap}
use mathlib.Core.Bool.{Bool, true, false, cond, not, ◌||◌, or-true}
use mathlib.Core.List.{List, [], ◌∷◌, map}
use mathlib.Core.Option.{Option, none, some}
use Rattle.foil_spec.specs.Lists.{range, all, any}
use Rattle.foil_spec.specs.Foil.{Layout}
use Rattle.foil_spec.specs.Ledger.{Step, new_foil, draw, lay, lift, look_up, put_leg, save, find, book, slip, join, carry}
use Rattle.foil_spec.specs.Ledger.{Answer, refused, says, Refusal, Room, short, reads, refusals, after_lent, After}
use Rattle.foil_spec.specs.Ledger.{settle, refusal_of}
use Rattle.foil_spec.specs.Lent.{held, sound}
use Rattle.foil_spec.specs.Job.{as_step, has, is_end, step_at, steps_at, record_steps, steps, record_end}
use Rattle.foil_spec.specs.Calls.{RecordReply, refused_whole, ran_steps, end_mark, ends_job, and_then, act_all, act_record}
use Rattle.foil_spec.specs.Calls.{record_by, place_after}
use Rattle.foil_spec.specs.Sheet.{SheetLent, view, sheet_step, sheet_record}
use Rattle.foil_spec.specs.declared.Board.{Board}
use Rattle.list_laws.proofs.Tests.{both, clash, and_l, and_r, and_i, not_t}
use Rattle.ledger_laws.proofs.Refusals.{first_passes}
use Rattle.job.specs.Contract.{set_below, said_at, told_at, by_bit, answers_of, reply_of}
use Rattle.job_report.proofs.Answering.{number-in}
use Rattle.job_report.proofs.Places.{past-opening}
use Rattle.job_end.specs.Left.{first_number, ended_of}
use Rattle.job_end.specs.Parts.{number_told, is_ended_by}
use Rattle.job_end.specs.declared.Ended.{Ended}
use Rattle.job_end.specs.declared.Ended.TheVariants.{ByBoard}

-- ---- a step

abbrev goes_on : ℕ → Bool
goes_on n = not (ends_job (refused n))

-- a refusal that applies does not end the job
abbrev mild : Refusal → Bool
mild c = not c.applies || goes_on c.number

lent-mild : (r : Room) (b : Bool) (rs : List Refusal) → all mild rs ≡ true → all mild (after_lent r b rs) ≡ true
unfolding after_lent ends_job
lent-mild r b rs h = rw (or-true (not (short r)), or-true (not b)) h

own-mild : (s : Step) (r : Room) (l : Layout) → reads s ≡ true → all mild (refusals s r l) ≡ true
unfolding refusals ends_job reads
own-mild (new_foil W H c) r l h = clash h refl
own-mild (draw x0 y0 x1 y1) r l h = simp or-true
own-mild (lay net S T) r l h = simp or-true
own-mild (lift net) r l h = simp or-true
own-mild (look_up p) r l h = simp or-true
own-mild (put_leg e) r l h = simp or-true
own-mild save r l h = simp or-true
own-mild (find S T) r l h = simp or-true
own-mild (book net ks) r l h = simp or-true
own-mild slip r l h = simp or-true
own-mild (join net S) r l h = simp or-true
own-mild (carry o) r l h = clash h refl

says_on : (s : Step) (l : Layout) → ends_job (says s l) ≡ false
unfolding says ends_job
says_on (new_foil W H c) l = refl
says_on (draw x0 y0 x1 y1) l = refl
says_on (lay net S T) l = refl
says_on (lift net) l = refl
says_on (look_up p) l = refl
says_on (put_leg e) l = refl
says_on save l = refl
says_on (find S T) l = refl
says_on (book net ks) l = refl
says_on slip l = refl
says_on (join net S) l = refl
says_on (carry o) l = refl

settled_on : (o : Option ℕ) (a : After Answer SheetLent) (m : SheetLent) → ends_job a.answer ≡ false
    → ((n : ℕ) → o ≡ some n → goes_on n ≡ true) → ends_job (settle o a m).answer ≡ false
unfolding settle
settled_on none a m e h = e
settled_on (some n) a m e h = not_t (ends_job (refused n)) (h n refl)

module _ (r : Room) where
  step-on : (s : Step) (m : SheetLent) → reads s ≡ true → ends_job (sheet_step 0 r s m).answer ≡ false
  unfolding sheet_step refusal_of
  step-on s m h =
      let l : Layout = held (view 0 m) in
      settled_on _ _ m (says_on s l) (first_passes goes_on _ (lent-mild r _ _ (own-mild s r l h)))

  -- ---- the steps of a record

  then-on : (a : After Answer SheetLent) (b : After (List Answer) SheetLent) → ends_job a.answer ≡ false
      → any ends_job b.answer ≡ false → any ends_job (and_then a b).answer ≡ false
  unfolding and_then
  then-on a b e h = rw (e, e) h

  steps_on : (ss : List Step) (m : SheetLent) → all reads ss ≡ true
      → any ends_job (act_all (sheet_step 0 r) ss m).answer ≡ false
  unfolding act_all
  steps_on [] m h = refl
  steps_on (s ∷ ss) m h =
      then-on (sheet_step 0 r s m) _ (step-on s m (and_l (reads s) (all reads ss) h))
      (steps_on ss (sheet_step 0 r s m).state (and_r (reads s) (all reads ss) h))

module _ (bs : List ℕ) (at : ℕ) where
  reads_at : (k : ℕ) → reads (as_step (step_at bs at (suc k))) ≡ true
  unfolding step_at as_step reads
  reads_at zero = refl
  reads_at (suc zero) = refl
  reads_at (suc (suc zero)) = refl
  reads_at (suc (suc (suc k))) = refl

  reads-from : (k n : ℕ) → all reads (map as_step (steps_at bs at (range (suc k) n))) ≡ true
  unfolding steps_at
  reads-from k zero = refl
  reads-from k (suc n) =
      both (has bs at (suc k))
      (λ set. rw set (and_i {a = reads (as_step (step_at bs at (suc k)))} (reads_at k) (reads-from (suc k) n)))
      (λ unset. rw unset (reads-from (suc k) n))

  -- a record without a board
  reads_all : has bs at 0 ≡ false → all reads (steps bs at) ≡ true
  unfolding steps record_steps steps_at
  reads_all unset = rw unset (unfold steps_at in reads-from 0 4)

-- ---- how the job ended

told-first : (on : ℕ → Bool) (given : List Answer) → on 0 ≡ true → number_told (told_at on given 0) ≡ first_number given
unfolding told_at said_at set_below number_told first_number
told-first on [] set = rw set refl
told-first on (a ∷ given) set = rw set (number-in a)

module _ {S : Type 0} (act : Step → S → After Answer S) where
  ended_by : (o : Option ℕ) (e : Bool) (ss : List Step) (p : ℕ) (s : S) (given : List Answer)
      → (act_record act o e ss p s).answer ≡ ran_steps given none → any ends_job (act_all act ss s).answer ≡ true
  unfolding act_record
  ended_by (some n) e ss p s given h = absurd (let z : ◌≡◌ {A = ℕ} 0 1 = cc in omega arith)
  ended_by none true ss p s given h = absurd (let z : ◌≡◌ {A = ℕ} 0 1 = cc in omega arith)
  ended_by none false ss p s given h = go (any ends_job (act_all act ss s).answer) cc
    where
      go : (t : Bool) → cond t none (some p) ≡ none → t ≡ true
      go true f = refl
      go false f = absurd (let z : ◌≡◌ {A = ℕ} 0 1 = cc in omega arith)

module _ (r : Room) (bs : List ℕ) (at : ℕ) (m : SheetLent) where
  -- past the refusals that the call begins with
  abbrev called : After RecordReply SheetLent
  called = record_by (sheet_step 0) r (not (sound (view 0 m))) bs at m

  called-ran : (given : List Answer) → (sheet_record r 0 bs at m).answer ≡ ran_steps given none
      → called.answer ≡ ran_steps given none
  unfolding sheet_record
  called-ran given h = past-opening (λ o. o ≡ ran_steps given none) never _ called m h
    where
      never : (n : ℕ) → refused_whole n ≡ ran_steps given none → ⊥
      never n e = let z : ◌≡◌ {A = ℕ} 0 1 = cc in omega arith

  has-board : (given : List Answer) → (sheet_record r 0 bs at m).answer ≡ ran_steps given none → has bs at 0 ≡ true
  has-board given h =
      both (has bs at 0) (λ set. set)
      (λ unset.
      clash
      (ended_by (sheet_step 0 r) _ (is_end bs at) (steps bs at) (record_end bs at) m given (called-ran given h))
      (steps_on r (steps bs at) m (reads_all bs at unset)))

  -- the code's way and that of the definitions
  pub same_end : (o : RecordReply) (b : Board) → (sheet_record r 0 bs at m).answer ≡ o → place_after o ≡ none
      → is_ended_by (reply_of (has bs at) o) b ≡ ended_of o b
  unfolding reply_of is_ended_by ended_of place_after answers_of by_bit
  same_end (refused_whole n) b h e = refl
  same_end (ran_steps given none) b h e =
      ap {A = ℕ} {B = Ended} ByBoard (told-first (has bs at) given (has-board given h))
  same_end (ran_steps given (some n)) b h e = absurd (let z : ◌≡◌ {A = ℕ} 0 1 = cc in omega arith)
  same_end end_mark b h e = refl
