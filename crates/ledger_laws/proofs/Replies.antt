-- The law of simulation: where each step on one kind of states does what another does on another kind, as `put` shows
-- it, and keeps Q, so does every call, and every job file. What every step keeps, every call keeps: each state is then
-- shown by itself.
use Prim.Native.Nat.{ℕ, zero, suc, ◌-◌}
use native.Mathlib.Omega.{arith}
use mathlib.Core.Path.{◌≡◌, refl, ap}
use mathlib.Core.Bool.{Bool, true, false}
use mathlib.Core.List.{List, [], ◌∷◌}
use mathlib.Core.Option.{Option, none, some}
use lib.ListN.{length}
use Rattle.foil_spec.specs.Foil.{Layout}
use Rattle.foil_spec.specs.Ledger.{Room, with_output, Step, Answer, After}
use Rattle.foil_spec.specs.Lent.{numbers_out, room_left}
use Rattle.foil_spec.specs.Calls.{Call, step, run_record, ohms, lay_list, RecordReply, refused_whole, ran_steps, end_mark}
use Rattle.foil_spec.specs.Calls.{Reply, as_reply, replied, ends_job, and_then, act_all, act_record, in_front}
use Rattle.foil_spec.specs.Calls.{act_each, act_list, reply, place_after, read_from, read_job}
use Rattle.list_laws.proofs.Tests.{both}

-- an answer, and the state after it as `put` gives it
unfoldable pub shown_by : {A S T : Type 0} → (T → S) → After A T → After A S
shown_by put a = record { answer = a.answer; state = put a.state }

-- b is a, shown by `put`, and a leaves a state that keeps Q
pub record Shown {A S T : Type 0} (put : T → S) (Q : T → Type 0) (a : After A T) (b : After A S) : Type 0 where
  pub is : b ≡ shown_by put a
  pub kept : Q a.state

module _ {S T : Type 0} (put : T → S) (Q : T → Type 0) where
  -- nothing is done
  unchanged : {A : Type 0} (a : A) (x : T) → Q x
      → Shown put Q (record { answer = a; state = x }) (record { answer = a; state = put x })
  unfolding shown_by
  unchanged a x g = record { is = refl; kept = g }

  then-shown : (a : After Answer T) (b : After Answer S) (c : After (List Answer) T) (d : After (List Answer) S)
      → Shown put Q a b → Shown put Q c d → Shown put Q (and_then a c) (and_then b d)
  unfolding and_then shown_by
  then-shown a b c d h k =
      rw (h.is, k.is)
      (both (ends_job a.answer)
      (λ t. rw t (unchanged (a.answer ∷ []) a.state h.kept))
      (λ t. rw t (unchanged (a.answer ∷ c.answer) c.state k.kept)))

  -- ---- the steps of a record

  module _ (tell : Step → T → After Answer T) (act : Step → S → After Answer S) where
    -- steps whose first one does so, from whatever state y
    pub cons-shown : (s : Step) (ss : List Step) (x : T) (y : S) → Shown put Q (tell s x) (act s y)
        → Shown put Q (act_all tell ss (tell s x).state) (act_all act ss (put (tell s x).state))
        → Shown put Q (act_all tell (s ∷ ss) x) (act_all act (s ∷ ss) y)
    unfolding act_all shown_by
    cons-shown s ss x y h k =
        then-shown (tell s x) (act s y) (act_all tell ss (tell s x).state) (act_all act ss (act s y).state) h
        (rw h.is k)

    -- a record whose steps do
    pub ran-shown : (ss : List Step) (p : ℕ) (x : T) (y : S) → Shown put Q (act_all tell ss x) (act_all act ss y)
        → Shown put Q (act_record tell none false ss p x) (act_record act none false ss p y)
    unfolding act_record shown_by
    ran-shown ss p x y h = rw h.is (unchanged _ (act_all tell ss x).state h.kept)

    module _ (shows : (s : Step) (x : T) → Q x → Shown put Q (tell s x) (act s (put x))) where
      pub steps-shown : (ss : List Step) (x : T) → Q x → Shown put Q (act_all tell ss x) (act_all act ss (put x))
      steps-shown [] x g = unfold act_all in unchanged [] x g
      steps-shown (s ∷ ss) x g =
          let h = shows s x g in
          cons-shown s ss x (put x) h (steps-shown ss (tell s x).state h.kept)

      record-shown : (o : Option ℕ) (e : Bool) (ss : List Step) (p : ℕ) (x : T) → Q x
          → Shown put Q (act_record tell o e ss p x) (act_record act o e ss p (put x))
      record-shown (some k) e ss p x g = unfold act_record in unchanged _ x g
      record-shown none true ss p x g = unfold act_record in unchanged _ x g
      record-shown none false ss p x g = ran-shown ss p x (put x) (steps-shown ss x g)

  -- what it comes to, as the reply to its call
  replied-shown : (a : After RecordReply T) (b : After RecordReply S) → Shown put Q a b
      → Shown put Q (replied a) (replied b)
  unfolding shown_by
  replied-shown a b h = record { is = ap (λ (x : After RecordReply S). replied x) h.is; kept = h.kept }

  -- ---- every call, in the room r with any number of output

  module _ (tell : Room → Step → T → After Answer T) (act : Room → Step → S → After Answer S) (r : Room)
      (shows : (n : ℕ) (s : Step) (x : T) → Q x
      → Shown put Q (tell (with_output r n) s x) (act (with_output r n) s (put x))) where
    pub each-shown : (ss : List Step) (n : ℕ) (x : T) → Q x
        → Shown put Q (act_each tell (with_output r n) ss x) (act_each act (with_output r n) ss (put x))
    unfolding act_each in_front room_left shown_by
    each-shown [] n x g = unchanged [] x g
    each-shown (s ∷ ss) n x g =
        let a : After Answer T = tell (with_output r n) s x in
        let h = shows n s x g in
        let k = each-shown ss (n - length (numbers_out a.answer)) a.state h.kept in
        rw (h.is, k.is) (unchanged _ _ k.kept)

    list-shown : (o : Option ℕ) (ss : List Step) (x : T) → Q x
        → Shown put Q (act_list tell o r ss x) (act_list act o r ss (put x))
    unfolding act_list shown_by
    list-shown (some k) ss x g = unchanged _ x g
    list-shown none ss x g =
        let k = each-shown ss r.output x g in
        rw k.is (unchanged _ _ k.kept)

    pub reply-shown : (b : Bool) (c : Call) (l : Layout) (x : T) → Q x
        → Shown put Q (reply tell r b c l x) (reply act r b c l (put x))
    unfolding reply shown_by
    reply-shown b (step s) l x g =
        let h = shows r.output s x g in
        rw h.is (unchanged _ (tell r s x).state h.kept)
    reply-shown b (run_record bs at) l x g =
        replied-shown _ _ (record-shown (tell r) (act r) (shows r.output) _ _ _ _ x g)
    reply-shown b (ohms net i) l x g = unchanged _ x g
    reply-shown b (lay_list ws n) l x g = list-shown _ _ x g

  -- ---- every job file

  module _ (tell : List ℕ → ℕ → T → After RecordReply T) (act : List ℕ → ℕ → S → After RecordReply S)
      (shows : (bs : List ℕ) (at : ℕ) (x : T) → Q x → Shown put Q (tell bs at x) (act bs at (put x))) where
    read-from : (bs : List ℕ) (n : ℕ) (place : Option ℕ) (x : T) → Q x
        → Shown put Q (read_from tell bs n place x) (read_from act bs n place (put x))
    unfolding read_from shown_by
    read-from bs zero place x g = unchanged [] x g
    read-from bs (suc n) none x g = unchanged [] x g
    read-from bs (suc n) (some at) x g =
        let a : After RecordReply T = tell bs at x in
        let h = shows bs at x g in
        let k = read-from bs n (place_after a.answer) a.state h.kept in
        rw (h.is, k.is) (unchanged _ _ k.kept)

    pub read-shown : (bs : List ℕ) (x : T) → Q x → Shown put Q (read_job tell bs x) (read_job act bs (put x))
    unfolding read_job
    read-shown bs x g = read-from bs (length bs) (some 0) x g

-- ---- what a record comes to, by the reply to its call

pub as-reply-is : (a b : RecordReply) → as_reply a ≡ as_reply b → a ≡ b
unfolding as_reply
as-reply-is (refused_whole n) (refused_whole k) e = cc
as-reply-is (refused_whole n) (ran_steps given p) e = absurd (let z : ◌≡◌ {A = ℕ} 0 1 = cc in omega arith)
as-reply-is (refused_whole n) end_mark e = absurd (let z : ◌≡◌ {A = ℕ} 0 1 = cc in omega arith)
as-reply-is (ran_steps given p) (refused_whole n) e = absurd (let z : ◌≡◌ {A = ℕ} 0 1 = cc in omega arith)
as-reply-is (ran_steps given p) (ran_steps given' p') e = cc
as-reply-is (ran_steps given p) end_mark e = absurd (let z : ◌≡◌ {A = ℕ} 0 1 = cc in omega arith)
as-reply-is end_mark (refused_whole n) e = absurd (let z : ◌≡◌ {A = ℕ} 0 1 = cc in omega arith)
as-reply-is end_mark (ran_steps given p) e = absurd (let z : ◌≡◌ {A = ℕ} 0 1 = cc in omega arith)
as-reply-is end_mark end_mark e = refl

pub of-replied : {S : Type 0} (a b : After RecordReply S) → replied a ≡ replied b → a ≡ b
of-replied a b e =
    let answers = as-reply-is a.answer b.answer (ap (λ (x : After Reply _). x.answer) e) in
    let states : a.state ≡ b.state = ap (λ (x : After Reply _). x.state) e in
    λ i. record { answer = answers i; state = states i }

-- ---- what every step keeps

module _ {T : Type 0} (tell : Room → Step → T → After Answer T) (Q : T → Type 0) (r : Room)
    (keeps : (n : ℕ) (s : Step) (x : T) → Q x → Q (tell (with_output r n) s x).state) where
  itself : (n : ℕ) (s : Step) (x : T) → Q x
      → Shown (λ y. y) Q (tell (with_output r n) s x) (tell (with_output r n) s x)
  unfolding shown_by
  itself n s x g = record { is = refl; kept = keeps n s x g }

  pub each_keeps : (ss : List Step) (n : ℕ) (x : T) → Q x → Q (act_each tell (with_output r n) ss x).state
  each_keeps ss n x g = (each-shown (λ y. y) Q tell tell r itself ss n x g).kept

  pub reply-keeps : (b : Bool) (c : Call) (l : Layout) (x : T) → Q x → Q (reply tell r b c l x).state
  reply-keeps b c l x g = (reply-shown (λ y. y) Q tell tell r itself b c l x g).kept
