-- No step is left out: the answers at the steps that a call runs are those of its reply.
use Prim.Native.Nat.{ℕ}
use native.Mathlib.Omega.{arith}
use mathlib.Core.Path.{◌≡◌, refl, sym, ap, ◌∙◌, subst}
use mathlib.Core.Bool.{Bool, true, false}
use mathlib.Core.List.{List, [], ◌∷◌, append-nil}
use mathlib.Core.Option.{Option, none, some}
use lib.Ieee.{Float}
use Rattle.foil_spec.specs.Foil.{Layout}
use Rattle.foil_spec.specs.Ledger.{Room, Step, Answer}
use Rattle.foil_spec.specs.Lent.{Lent, step_on}
use Rattle.foil_spec.specs.Job.{steps}
use Rattle.foil_spec.specs.Wishes.{wishes}
use Rattle.foil_spec.specs.Calls.{Call, step, run_record, ohms, lay_list, ran, laid_all, as_reply, ohms_reply, ends_job}
use Rattle.foil_spec.specs.Calls.{and_then, act_all, act_record, in_front, act_each, act_list, reply, call_on, answers_in}
use Rattle.foil_spec.specs.Sequence.{Lending, front, room_for, lend}
use Rattle.list_laws.proofs.Tests.{both}
use Rattle.ledger_laws.specs.Moments.{moment_of, moments_of, moments_each, steps_run, is_list, moments_by}
use Rattle.ledger_laws.specs.Moments.{moments, answers_at, NoneLeftOut}

module _ (c : Lending) (m : Lent) where
  abbrev r : Room
  r = room_for c m

  steps-answers : (ss : List Step) (n : Lent) (out : List ℕ) (l : Layout)
      → answers_at (moments_of c m ss n out l) ≡ (act_all (step_on r) ss n).answer
  unfolding moments_of moment_of act_all and_then
  steps-answers [] n out l = refl
  steps-answers (s ∷ ss) n out l =
      let a : Answer = (step_on r s n).answer in
      both (ends_job a)
      (λ t. rw t refl)
      (λ t. rw t (ap (λ (given : List Answer). a ∷ given) (steps-answers ss (step_on r s n).state _ _)))

  each-answers : (ss : List Step) (q : Room) (n : Lent) (out : List ℕ) (l : Layout)
      → answers_at (moments_each c m q ss n out l) ≡ (act_each step_on q ss n).answer
  unfolding moments_each moment_of act_each in_front
  each-answers [] q n out l = refl
  each-answers (s ∷ ss) q n out l =
      ap (λ (given : List Answer). (step_on q s n).answer ∷ given) (each-answers ss _ (step_on q s n).state _ _)

  module _ (n : Lent) (out : List ℕ) (l : Layout) where
    -- the answers at the steps of a call, where k is what it calls and n what it is lent
    abbrev step_answers : Call → List Answer
    step_answers k = answers_at (moments_by c m k (steps_run k (call_on r k n).answer) n out l)

    of-step : (s : Step) → step_answers (step s) ≡ answers_in (call_on r (step s) n).answer
    unfolding call_on reply steps_run is_list moments_by answers_in moments_of moment_of
    of-step s = both (ends_job (step_on r s n).answer) (λ t. rw t refl) (λ t. rw t refl)

    of-record : (o : Option ℕ) (e : Bool) (bs : List ℕ) (at p : ℕ) (given : List Answer) (place : Option ℕ)
        → as_reply (act_record (step_on r) o e (steps bs at) p n).answer ≡ ran given place
        → answers_at
        (moments_of c m (steps_run (run_record bs at) (as_reply (act_record (step_on r) o e (steps bs at) p n).answer)) n out
        l)
        ≡ given
    unfolding act_record as_reply steps_run
    of-record (some j) e bs at p given place h = absurd (let z : ◌≡◌ {A = ℕ} 0 1 = cc in omega arith)
    of-record none true bs at p given place h = absurd (let z : ◌≡◌ {A = ℕ} 0 1 = cc in omega arith)
    of-record none false bs at p given place h =
        let q : (act_all (step_on r) (steps bs at) n).answer ≡ given = cc in
        steps-answers (steps bs at) n out l ∙ q

    list-none : (o : Option ℕ) (ss : List Step) (given : List Answer) (place : Option ℕ)
        → (act_list step_on o r ss n).answer ≡ ran given place → ⊥
    unfolding act_list
    list-none (some j) ss given place h = let z : ◌≡◌ {A = ℕ} 0 1 = cc in omega arith
    list-none none ss given place h = let z : ◌≡◌ {A = ℕ} 0 1 = cc in omega arith

    no_record : (o : Option ℕ) (x : Float) (given : List Answer) (place : Option ℕ)
        → ohms_reply o x ≡ ran given place → ⊥
    unfolding ohms_reply
    no_record (some j) x given place h = let z : ◌≡◌ {A = ℕ} 0 1 = cc in omega arith
    no_record none x given place h = let z : ◌≡◌ {A = ℕ} 0 1 = cc in omega arith

    of-call : (k : Call) (given : List Answer) (place : Option ℕ) → (call_on r k n).answer ≡ ran given place
        → step_answers k ≡ given
    unfolding call_on reply is_list moments_by
    of-call (step s) given place h = absurd (let z : ◌≡◌ {A = ℕ} 0 1 = cc in omega arith)
    of-call (run_record bs at) given place h = of-record _ _ bs at _ given place h
    of-call (ohms net i) given place h = absurd (no_record _ _ given place h)
    of-call (lay_list ws k) given place h = absurd (list-none _ _ given place h)

    of-list : (o : Option ℕ) (ws : List ℕ) (k : ℕ) (given : List Answer)
        → (act_list step_on o r (wishes ws) n).answer ≡ laid_all given
        → answers_at
        (moments_each c m r (steps_run (lay_list ws k) (act_list step_on o r (wishes ws) n).answer) n out l)
        ≡ given
    unfolding act_list steps_run
    of-list (some j) ws k given h = absurd (let z : ◌≡◌ {A = ℕ} 0 1 = cc in omega arith)
    of-list none ws k given h =
        let q : (act_each step_on r (wishes ws) n).answer ≡ given = cc in
        each-answers (wishes ws) r n out l ∙ q

    of-lays : (ws : List ℕ) (k : ℕ) (given : List Answer) → (call_on r (lay_list ws k) n).answer ≡ laid_all given
        → step_answers (lay_list ws k) ≡ given
    unfolding call_on reply is_list moments_by
    of-lays ws k given h = of-list _ ws k given h

  one-call : (l : Layout) → answers_at (moments m l (c ∷ [])) ≡ step_answers (front c m) c.output l c.call
  unfolding moments lend
  one-call l =
      ap answers_at
      (append-nil
      (moments_by c m c.call (steps_run c.call (call_on r c.call (front c m)).answer) (front c m) c.output
      l))

  -- a call that is one step runs that step
  pub step-told : (l : Layout) (s : Step) → c.call ≡ step s
      → answers_at (moments m l (c ∷ [])) ≡ answers_in (lend c m).answer
  unfolding lend
  step-told l s e =
      one-call l
      ∙ subst
      (λ (k : Call). step_answers (front c m) c.output l k ≡ answers_in (call_on r k (front c m)).answer) (sym e)
      (of-step (front c m) c.output l s)

  -- a record that is not refused as a whole runs the steps that it answers
  pub record-told : (l : Layout) (given : List Answer) (place : Option ℕ) → (lend c m).answer ≡ ran given place
      → answers_at (moments m l (c ∷ [])) ≡ given
  unfolding lend
  record-told l given place h = one-call l ∙ of-call (front c m) c.output l c.call given place h

  -- a list of lays that is not refused as a whole runs the lays that it answers
  pub list-told : (l : Layout) (ws : List ℕ) (k : ℕ) (given : List Answer) → c.call ≡ lay_list ws k
      → (lend c m).answer ≡ laid_all given → answers_at (moments m l (c ∷ [])) ≡ given
  unfolding lend
  list-told l ws k given e h =
      one-call l
      ∙ subst
      (λ (j : Call). (call_on r j (front c m)).answer ≡ laid_all given → step_answers (front c m) c.output l j ≡ given)
      (sym e) (of-lays (front c m) c.output l ws k given) h

  pub none-left-out : (l : Layout) → NoneLeftOut c m l
  none-left-out l =
      record { of-step = step-told l; of-record = record-told l; of-list = list-told l }
