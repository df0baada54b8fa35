-- One call of a list goes as on the ledger, on whole lists or front parts; so does the call that begins a foil.
use Prim.Native.Nat.{ℕ, ◌/◌, ◌≤◌, min}
use native.Mathlib.Omega.{arith}
use mathlib.Core.Path.{◌≡◌, refl, sym, ap, ap₂, ◌∙◌, subst, subst₂}
use mathlib.Core.Bool.{Bool, true, false, not, cond, ◌&&◌, xor, and-false, or-true}
use mathlib.Core.List.{List, [], ◌∷◌, map}
use mathlib.Core.Option.{Option, none, some}
use mathlib.Core.Logic.{inl, inr}
use lib.Dec.{ltb, eqb}
use borrow.Author.Tests.{ltb-false}
use lib.ListN.{length, length-take, take-append-drop}
use Rattle.foil_spec.specs.Lists.{each, cons_if}
use Rattle.foil_spec.specs.Limits.{max_entries, table_size, max_strips, strips_size}
use Rattle.foil_spec.specs.Foil.{entry_numbers, Layout}
use Rattle.foil_spec.specs.Ledger.{strips_of, says, Refusal, ◌⇒◌, first, Room, short, reads, refusals, after_lent}
use Rattle.foil_spec.specs.Carrying.{Old}
use Rattle.foil_spec.specs.Ledger.{After, settle, refusal_of, ledger_step, Clearance, by_pen, Step, new_foil, carry}
use Rattle.foil_spec.specs.Ledger.{Answer, refused, accepted, wrote}
use Rattle.foil_spec.specs.Lent.{Lent, lent, strip_numbers, store, held, layout_ok, sound, room_in, step_on}
use Rattle.foil_spec.specs.Job.{RecordStep, board_step, as_step, has, step_at, steps_at, record_steps, steps, is_end}
use Rattle.foil_spec.specs.Job.{record_end, record_checks}
use Rattle.foil_spec.specs.Wishes.{too_many}
use Rattle.foil_spec.specs.Calls.{Call, step, run_record, ohms, lay_list, RecordReply, ran_steps, Reply, answered, ran}
use Rattle.foil_spec.specs.Calls.{as_reply, replied, ends_job, and_then, act_all, act_record, act_list, too_large}
use Rattle.foil_spec.specs.Calls.{whole_refusals, list_refusals, ohms_reply, reply, ledger_call, call_on, ledger_record}
use Rattle.foil_spec.specs.Sequence.{Lending, front, room_for, back, lend, told, Begins}
use Rattle.foil_spec.proofs.Written.{length-written}
use Rattle.list_laws.proofs.Tests.{clash, both, or_l, parts}
use Rattle.ledger_laws.specs.Moments.{steps_run, is_list}
use Rattle.ledger_laws.proofs.Refusals.{no_more, none-applies, first_passes, short-refused, own-refused}
use Rattle.ledger_laws.proofs.Refusals.{unrefused-long, unrefused-own}
use Rattle.ledger_laws.proofs.Stored.{Long, entries_fit, strips-fit, front-store, back-new, back-store}
use Rattle.ledger_laws.proofs.Line.{clearance-number, line}
use Rattle.ledger_laws.proofs.Replies.{shown_by, cons-shown, ran-shown, steps-shown, as-reply-is}
use Rattle.ledger_laws.proofs.Kept.{call_kept}
use Rattle.ledger_laws.proofs.Steps.{shown, ShownIn, step-shown, call-is}

-- ---- lists that are too short

pub step-short : (r : Room) (s : Step) (m : Lent) → short r ≡ true
    → step_on r s m ≡ record { answer = refused 12; state = m }
unfolding step_on settle
step-short r s m e = rw (short-refused r s (held m) (not (sound m)) e) refl

pub ledger-short : (r : Room) (s : Step) (l : Layout) → short r ≡ true
    → ledger_step r s l ≡ record { answer = refused 12; state = l }
unfolding ledger_step settle
ledger-short r s l e = rw (short-refused r s l false e) refl

-- the number that a call is refused by where the lists are too short
pub short_number : Call → ℕ
short_number (step s) = 12
short_number (run_record bs at) = cond (too_large bs) 18 12
short_number (ohms net i) = 12
short_number (lay_list ws n) = 12

short-second : (a s : Bool) (n : ℕ) (rs : List Refusal) → s ≡ true
    → first ((a ⇒ n) ∷ (s ⇒ 12) ∷ rs) ≡ some (cond a n 12)
unfolding first
short-second true s n rs e = refl
short-second false s n rs e = rw e refl

always-12 : (a : Bool) → ◌≡◌ {A = ℕ} (cond a 12 12) 12
always-12 true = refl
always-12 false = refl

-- on any state on which the steps are refused by 12
reply-short : {S : Type 0} (act : Room → Step → S → After Answer S) (r : Room) (b : Bool) (c : Call) (l : Layout)
    (x : S) → short r ≡ true → ((s : Step) → act r s x ≡ record { answer = refused 12; state = x })
    → reply act r b c l x ≡ record { answer = answered (refused (short_number c)); state = x }
unfolding reply short_number act_record as_reply act_list whole_refusals list_refusals after_lent first ohms_reply
reply-short act r b (step s) l x e h = rw (h s) refl
reply-short act r b (run_record bs at) l x e h =
    rw (short-second (too_large bs) (short r) 18 ((b && not (eqb at 0) ⇒ 13) ∷ record_checks bs at) e) refl
reply-short act r b (ohms net i) l x e h = rw e refl
reply-short act r b (lay_list ws n) l x e h =
    rw (short-second (too_many ws n) (short r) 12 ((b ⇒ 13) ∷ []) e, always-12 (too_many ws n)) refl

pub call-short : (r : Room) (c : Call) (m : Lent) → short r ≡ true
    → call_on r c m ≡ record { answer = answered (refused (short_number c)); state = m }
unfolding call_on
call-short r c m e = reply-short step_on r (not (sound m)) c (held m) m e (λ s. step-short r s m e)

pub told-short : (r : Room) (c : Call) (l : Layout) → short r ≡ true
    → ledger_call r c l ≡ record { answer = answered (refused (short_number c)); state = l }
unfolding ledger_call
told-short r c l e = reply-short ledger_step r false c l l e (λ s. ledger-short r s l e)

-- ---- front parts

pub long-lists : (limit : ℕ) (m : Lent) (n : ℕ) → short (room_in limit m n) ≡ false → Long m
unfolding short room_in
long-lists limit m n e =
    let a : ltb (length m.table / 5) max_entries ≡ false = search parts in
    let c : ltb (length m.strips / 4) max_strips ≡ false = search parts in
    let t = ltb-false (length m.table / 5) max_entries a in
    let s = ltb-false (length m.strips / 4) max_strips c in
    record { table = omega arith; strips = omega arith }

-- what is lent of long lists is long only if the lists and the front parts are
pub record LongFront (c : Lending) (m : Lent) : Type 0 where
  pub table : table_size ≤ min c.table_front (length m.table)
  pub strips : strips_size ≤ min c.strip_front (length m.strips)

pub long-front : (c : Lending) (m : Lent) → short (room_for c m) ≡ false → LongFront c m
unfolding front room_for
long-front c m e =
    let n = long-lists c.limit (front c m) (length c.output) e in
    let t = length-take c.table_front m.table in
    let s = length-take c.strip_front m.strips in
    record { table = omega (arith, n.table); strips = omega (arith, n.strips) }

pub long-whole : (c : Lending) (m : Lent) → LongFront c m → Long m
long-whole c m n = record { table = omega (arith, n.table); strips = omega (arith, n.strips) }

pub back-front : (c : Lending) (m : Lent) → back c m (front c m) ≡ m
unfolding back front
back-front c m =
    ap₂ (lent m.board) (take-append-drop c.table_front m.table) (take-append-drop c.strip_front m.strips)

pub room-front : (c : Lending) (m : Lent) (l : Layout) → Long m → layout_ok l ≡ true
    → room_for c (store l m) ≡ room_for c m
unfolding room_for room_in front store
room-front c m l long g =
    simp (
      length-take,
      length-written table_size (each entry_numbers l.entries) m.table (entries_fit l g) long.table,
      length-written strips_size (each strip_numbers (strips_of l)) m.strips (strips-fit l g) long.strips,
    )

-- ---- one call of the list

-- a call that does to its front part what the ledger shows does so to the whole lists
lend-shown : (c : Lending) (n m : Lent) (t : After Reply Layout)
    → call_on (room_for c n) c.call (front c n) ≡ shown (front c m) t
    → back c n (store t.state (front c m)) ≡ store t.state m
    → lend c n ≡ shown m t
unfolding lend shown
lend-shown c n m t e h = rw e (ap {A = Lent} {B = After Reply Lent} (λ x. record { answer = t.answer; state = x }) h)

module _ (m : Lent) (long : Long m) (c : Lending) (l : Layout) (g : layout_ok l ≡ true) where
  lend-short : short (room_for c m) ≡ true → lend c (store l m) ≡ shown m (told m c l)
  unfolding lend shown told
  lend-short e =
      rw (
        call-short (room_for c (store l m)) c.call (front c (store l m)) (ap short (room-front c m l long g) ∙ e),
        told-short (room_for c m) c.call l e,
      )
      (ap {A = Lent} {B = After Reply Lent}
      (λ n. record { answer = answered (refused (short_number c.call)); state = n })
      (back-front c (store l m)))

  lend-long : LongFront c m → lend c (store l m) ≡ shown m (told m c l)
  unfolding told
  lend-long n =
      let r : Room = room_for c m in
      let ht : table_size ≤ c.table_front = omega (arith, n.table) in
      let hs : strips_size ≤ c.strip_front = omega (arith, n.strips) in
      lend-shown c (store l m) m (ledger_call r c.call l)
      (ap₂ (λ (q : Room) (x : Lent). call_on q c.call x) (room-front c m l long g) (front-store c m ht hs l g)
      ∙ call-is r c.call l (front c m) g)
      (back-store c m ht hs l (ledger_call r c.call l).state g (call_kept r c.call l g))

  pub lend-is : lend c (store l m) ≡ shown m (told m c l)
  lend-is = both (short (room_for c m)) (λ e. lend-short e) (λ e. lend-long (long-front c m e))

-- ---- the call that begins a foil

-- it is not short, it goes as on the ledger, and leaves a layout that keeps the rules; it is no list of lays, and the
-- steps that it runs are one that reads nothing of what is lent and is not refused, and others
pub record Begun (r : Room) (c : Call) (l : Layout) (m : Lent) : Type 0 where
  pub long : short r ≡ false
  pub kept : layout_ok (ledger_call r c l).state ≡ true
  pub is : call_on r c m ≡ shown m (ledger_call r c l)
  pub opening : Step
  pub blind : reads opening ≡ false
  pub later : List Step
  pub no-list : is_list c ≡ false
  pub runs : steps_run c (ledger_call r c l).answer ≡ opening ∷ later
  pub unrefused : refusal_of r false opening l ≡ none
  pub ends : (ledger_call r c l).state ≡ (act_all (ledger_step r) (opening ∷ later) l).state

-- one step alone
pub step-alone : (r : Room) (s : Step) (l : Layout)
    → (act_all (ledger_step r) (s ∷ []) l).state ≡ (ledger_step r s l).state
unfolding act_all and_then
step-alone r s l = both (ends_job (ledger_step r s l).answer) (λ t. rw t refl) (λ t. rw t refl)

-- a step that answers a, which is no refusal, is not refused
settled-taken : {S : Type 0} (o : Option ℕ) (done : After Answer S) (old : S) (a : Answer)
    → ((n : ℕ) → refused n ≡ a → ⊥) → (settle o done old).answer ≡ a → o ≡ none
unfolding settle
settled-taken none done old a never e = refl
settled-taken (some n) done old a never e = absurd (never n e)

pub step-taken : (r : Room) (s : Step) (l : Layout) (a : Answer) → ((n : ℕ) → refused n ≡ a → ⊥)
    → (ledger_step r s l).answer ≡ a → refusal_of r false s l ≡ none
unfolding ledger_step
step-taken r s l a never e = settled-taken (refusal_of r false s l) _ l a never e

pub taken-on : (r : Room) (s : Step) (m : Lent) (a : Answer) → ((n : ℕ) → refused n ≡ a → ⊥)
    → (step_on r s m).answer ≡ a → refusal_of r (not (sound m)) s (held m) ≡ none
unfolding step_on
taken-on r s m a never e = settled-taken (refusal_of r (not (sound m)) s (held m)) _ m a never e

pub no-accepted : (n : ℕ) → refused n ≡ accepted → ⊥
no-accepted n e = let z : ◌≡◌ {A = ℕ} 0 1 = cc in omega arith

pub no-wrote : (ns : List ℕ) (n : ℕ) → refused n ≡ wrote ns → ⊥
no-wrote ns n e = let z : ◌≡◌ {A = ℕ} 0 1 = cc in omega arith

-- a step that reads nothing of what is lent
module _ (s : Step) (blind : reads s ≡ false) (r : Room) (l : Layout) where
  pub blind-refusal : (b : Bool) (l' : Layout) → refusal_of r b s l' ≡ refusal_of r false s l
  unfolding refusal_of after_lent
  blind-refusal b l' = rw (blind, and-false b, ((line s).blind blind r l' l).0) refl

  module _ (e : refusal_of r false s l ≡ none) where
    pub blind-is : (m : Lent) → step_on r s m ≡ shown m (ledger_step r s l)
    unfolding step_on settle shown ledger_step
    blind-is m =
        let same = (line s).blind blind r (held m) l in
        rw (blind-refusal (not (sound m)) (held m), e, same.1, same.2) refl

    pub blind-state : layout_ok (ledger_step r s l).state ≡ true
    unfolding ledger_step settle
    blind-state = rw e ((line s).kept r l (λ f. clash f blind) (unrefused-own r s l false e))

    pub blind-answer : (ledger_step r s l).answer ≡ says s l
    unfolding ledger_step settle
    blind-answer = rw e refl

    -- what the ledger held before makes no difference
    pub blind-anew : (l' : Layout) → ledger_step r s l ≡ ledger_step r s l'
    unfolding ledger_step settle
    blind-anew l' =
        let same = (line s).blind blind r l l' in
        rw (blind-refusal false l', e, same.1, same.2) refl

    -- the steps of a call whose first one it is
    begun-steps : (ss : List Step) (m : Lent)
        → ShownIn m (act_all (ledger_step r) (s ∷ ss) l) (act_all (step_on r) (s ∷ ss) m)
    begun-steps ss m =
        cons-shown (λ (x : Layout). store x m) (λ (x : Layout). layout_ok x ≡ true) (ledger_step r) (step_on r) s ss l m
        (unfold shown shown_by in record { is = blind-is m; kept = blind-state })
        (steps-shown (λ (x : Layout). store x m) (λ (x : Layout). layout_ok x ≡ true) (ledger_step r) (step_on r)
        (λ t x. step-shown r t x m) ss (ledger_step r s l).state blind-state)

    begun-call : (m : Lent) → Begun r (step s) l m
    unfolding ledger_call call_on reply steps_run
    begun-call m =
        record {
          long = unrefused-long r s l false e;
          kept = blind-state;
          is = unfold shown in rw (blind-is m) refl;
          opening = s;
          blind = blind;
          later = [];
          no-list = unfold is_list in refl;
          runs = refl;
          unrefused = e;
          ends = sym (step-alone r s l);
        }

pub new-blind : (W H : ℕ) (d : Clearance) → reads (new_foil W H d) ≡ false
unfolding reads
new-blind W H d = refl

pub carry-blind : (o : Old) → reads (carry o) ≡ false
unfolding reads
carry-blind o = refl

-- where a new foil is refused, the lists being long enough, it ends the job
pub new-ends : (W H : ℕ) (d : Clearance) (r : Room) (l : Layout) (k : ℕ)
    → refusal_of r false (new_foil W H d) l ≡ some k → short r ≡ false → ends_job (refused k) ≡ true
unfolding refusals ends_job
new-ends W H d r l k e long =
    let ends : ℕ → Bool = λ n. ends_job (refused n) in
    first_passes ends (refusals (new_foil W H d) r l) (simp (clearance-number ends d refl refl, or-true)) k
    (sym (own-refused r (new_foil W H d) l false long refl) ∙ e)

-- what a reply of steps says of the record's checks and of its first step
record RanFirst (o : Option ℕ) (e : Bool) (r : Room) (ss : List Step) (l : Layout) (x : Answer) : Type 0 where
  unrefused : o ≡ none
  not_end : e ≡ false
  answers : List Answer
  are : (act_all (ledger_step r) ss l).answer ≡ x ∷ answers

of-ran : (o : Option ℕ) (e : Bool) (r : Room) (ss : List Step) (p : ℕ) (l : Layout) (x : Answer) (xs : List Answer)
    (n : Option ℕ) → (act_record (ledger_step r) o e ss p l).answer ≡ ran_steps (x ∷ xs) n → RanFirst o e r ss l x
unfolding act_record
of-ran (some k) e r ss p l x xs n h = absurd (let z : ◌≡◌ {A = ℕ} 0 1 = cc in omega arith)
of-ran none true r ss p l x xs n h = absurd (let z : ◌≡◌ {A = ℕ} 0 1 = cc in omega arith)
of-ran none false r ss p l x xs n h = record { unrefused = refl; not_end = refl; answers = xs; are = cc }

then-head : (a : After Answer Layout) (b : After (List Answer) Layout) (x : Answer) (xs : List Answer)
    → (and_then a b).answer ≡ x ∷ xs → a.answer ≡ x
unfolding and_then
then-head a b x xs h =
    both (ends_job a.answer)
    (λ t. let k : a.answer ∷ [] ≡ x ∷ xs = rw t at h in cc)
    (λ t. let k : a.answer ∷ b.answer ≡ x ∷ xs = rw t at h in cc)

first-answer : (r : Room) (s : Step) (ss : List Step) (l : Layout) (x : Answer) (xs : List Answer)
    → (act_all (ledger_step r) (s ∷ ss) l).answer ≡ x ∷ xs → (ledger_step r s l).answer ≡ x
unfolding act_all
first-answer r s ss l x xs h = then-head (ledger_step r s l) _ x xs h

-- a record at place 0 that passes its checks opens with a board
pub record Opens (ss : List Step) : Type 0 where
  pub W : ℕ
  pub H : ℕ
  pub d : Clearance
  pub later : List Step
  pub is : ss ≡ new_foil W H d ∷ later

opens-with : (t : Bool) (W H : ℕ) (d : Clearance) (ss : List RecordStep) → t ≡ true
    → Opens (map as_step (cons_if t (board_step W H d) ss))
opens-with true W H d ss e =
    record { W = W; H = H; d = d; later = map as_step ss; is = unfold as_step in refl }
opens-with false W H d ss e = clash e refl

only-true : (t : Bool) → xor true t ≡ false → t ≡ true
unfolding xor
only-true true e = refl
only-true false e = clash refl e

-- its map byte has bit 0
pub board-first : (bs : List ℕ) → first (record_checks bs 0) ≡ none → has bs 0 0 ≡ true
unfolding record_checks
board-first bs h =
    only-true (has bs 0 0) (or_l (xor true (has bs 0 0)) (has bs 0 5 && not (has bs 0 0)) (search none-applies))

pub opens : (bs : List ℕ) → first (record_checks bs 0) ≡ none → Opens (steps bs 0)
unfolding steps record_steps steps_at step_at
opens bs h = opens-with (has bs 0 0) _ _ _ _ (board-first bs h)

-- a record that passes the checks as a whole passes its own
pub own-checks : (r : Room) (b : Bool) (bs : List ℕ) (at : ℕ) → first (whole_refusals r b bs at) ≡ none
    → first (record_checks bs at) ≡ none
unfolding whole_refusals after_lent
own-checks r b bs at e =
    no_more (b && not (eqb at 0)) 13 _ (no_more (short r) 12 _ (no_more (too_large bs) 18 _ e))

-- 13 is not tried at place 0
pub whole-at-0 : (r : Room) (b : Bool) (bs : List ℕ)
    → first (whole_refusals r b bs 0) ≡ first (whole_refusals r false bs 0)
unfolding whole_refusals after_lent first
whole-at-0 r b bs = rw (and-false b) refl

-- what a record that begins a foil has passed
record Opened (r : Room) (bs : List ℕ) (l : Layout) : Type 0 where
  unrefused : first (whole_refusals r false bs 0) ≡ none
  not_end : is_end bs 0 ≡ false
  board : Opens (steps bs 0)
  taken : refusal_of r false (new_foil board.W board.H board.d) l ≡ none

opened : (r : Room) (bs : List ℕ) (xs : List Answer) (n : Option ℕ) (l : Layout)
    → (ledger_record r bs 0 l).answer ≡ ran_steps (accepted ∷ xs) n → Opened r bs l
unfolding ledger_record
opened r bs xs n l e =
    let o : Option ℕ = first (whole_refusals r false bs 0) in
    let a = of-ran o (is_end bs 0) r (steps bs 0) (record_end bs 0) l accepted xs n e in
    let b = opens bs (own-checks r false bs 0 a.unrefused) in
    let h = first-answer r (new_foil b.W b.H b.d) b.later l accepted a.answers
    (subst (λ (ss : List Step). (act_all (ledger_step r) ss l).answer ≡ accepted ∷ a.answers) b.is a.are) in
    record {
      unrefused = a.unrefused;
      not_end = a.not_end;
      board = b;
      taken = step-taken r (new_foil b.W b.H b.d) l accepted no-accepted h;
    }

-- the reply of a record whose board is accepted
pub ran-accepted : (r : Room) (bs : List ℕ) (xs : List Answer) (n : Option ℕ) (l : Layout)
    → (ledger_call r (run_record bs 0) l).answer ≡ ran (accepted ∷ xs) n
    → (ledger_record r bs 0 l).answer ≡ ran_steps (accepted ∷ xs) n
unfolding ledger_call reply ledger_record as_reply
ran-accepted r bs xs n l e = as-reply-is (ledger_record r bs 0 l).answer (ran_steps (accepted ∷ xs) n) e

pub begun-record : (r : Room) (bs : List ℕ) (xs : List Answer) (n : Option ℕ) (l : Layout) (m : Lent)
    → (ledger_record r bs 0 l).answer ≡ ran_steps (accepted ∷ xs) n → Begun r (run_record bs 0) l m
unfolding ledger_call call_on reply ledger_record act_record as_reply steps_run shown shown_by
begun-record r bs xs n l m e =
    let a = opened r bs xs n l e in
    let b = a.board in
    let new : Step = new_foil b.W b.H b.d in
    let blind = new-blind b.W b.H b.d in
    let u = a.taken in
    let steps-are = begun-steps new blind r l u b.later m in
    let ran = subst₂
    (λ (t : Option ℕ) (q : Bool).
    ShownIn m (act_record (ledger_step r) t q (steps bs 0) (record_end bs 0) l)
    (act_record (step_on r) t q (steps bs 0) (record_end bs 0) m))
    (sym a.unrefused) (sym a.not_end)
    (ran-shown (λ (x : Layout). store x m) (λ (x : Layout). layout_ok x ≡ true) (ledger_step r) (step_on r) (steps bs 0)
    (record_end bs 0) l m
    (subst (λ (ss : List Step). ShownIn m (act_all (ledger_step r) ss l) (act_all (step_on r) ss m)) (sym b.is)
    steps-are)) in
    record {
      long = unrefused-long r new l false u;
      kept = ran.kept;
      is =
          rw (whole-at-0 r (not (sound m)) bs)
          (ap (λ (z : After RecordReply Lent). replied z) ran.is);
      opening = new;
      blind = blind;
      later = b.later;
      no-list = unfold is_list in refl;
      runs = ap (λ (a : RecordReply). steps_run (run_record bs 0) (as_reply a)) e ∙ b.is;
      unrefused = u;
      ends = rw (a.unrefused, a.not_end, b.is) refl;
    }

-- a call that begins a foil is a step that reads nothing of what is lent and is not refused, or a record at place 0
pub by-begins : (P : Call → Reply → Type 0)
    → ((s : Step) → reads s ≡ false → (a : Answer) → ((n : ℕ) → refused n ≡ a → ⊥) → P (step s) (answered a))
    → ((bs : List ℕ) (xs : List Answer) (n : Option ℕ) → P (run_record bs 0) (ran (accepted ∷ xs) n))
    → (c : Call) (a : Reply) → Begins c a → P c a
by-begins P one whole c a (inl (W, H, p, e, h)) =
    subst₂ P (sym e) (sym h) (one (new_foil W H (by_pen p)) (new-blind W H (by_pen p)) accepted no-accepted)
by-begins P one whole c a (inr (inl (bs, xs, n, e, h))) = subst₂ P (sym e) (sym h) (whole bs xs n)
by-begins P one whole c a (inr (inr (o, ns, e, h))) =
    subst₂ P (sym e) (sym h) (one (carry o) (carry-blind o) (wrote ns) (no-wrote ns))

call-taken : (r : Room) (l : Layout) (s : Step) (a : Answer) → ((n : ℕ) → refused n ≡ a → ⊥)
    → (ledger_call r (step s) l).answer ≡ answered a → refusal_of r false s l ≡ none
unfolding ledger_call reply
call-taken r l s a never e = step-taken r s l a never cc

pub begun : (r : Room) (c : Call) (l : Layout) (m : Lent) → Begins c (ledger_call r c l).answer → Begun r c l m
begun r c l m b =
    by-begins (λ x a. (ledger_call r x l).answer ≡ a → Begun r x l m)
    (λ s blind a never e. begun-call s blind r l (call-taken r l s a never e) m)
    (λ bs xs n e. begun-record r bs xs n l m (ran-accepted r bs xs n l e)) c (ledger_call r c l).answer b refl

pub lend-begun : (c : Lending) (l : Layout) (m : Lent) → Begun (room_for c m) c.call l (front c m)
    → lend c m ≡ shown m (told m c l)
unfolding told
lend-begun c l m b =
    let n = long-front c m b.long in
    lend-shown c m m (ledger_call (room_for c m) c.call l) b.is
    (back-new c m (omega (arith, n.table)) (omega (arith, n.strips)) (ledger_call (room_for c m) c.call l).state
    b.kept)

-- ---- what the ledger held before a foil is begun makes no difference

module _ (r : Room) (l l' : Layout) where
  call-anew : (s : Step) → reads s ≡ false → refusal_of r false s l ≡ none
      → ledger_call r (step s) l ≡ ledger_call r (step s) l'
  unfolding ledger_call reply
  call-anew s blind e = rw (blind-anew s blind r l e l') refl

  record-anew : (bs : List ℕ) (xs : List Answer) (n : Option ℕ)
      → (ledger_call r (run_record bs 0) l).answer ≡ ran (accepted ∷ xs) n
      → ledger_call r (run_record bs 0) l ≡ ledger_call r (run_record bs 0) l'
  unfolding ledger_call reply act_all act_record
  record-anew bs xs n e =
      let a = opened r bs xs n l (ran-accepted r bs xs n l e) in
      let b = a.board in
      let new = blind-anew (new_foil b.W b.H b.d) (new-blind b.W b.H b.d) r l a.taken l' in
      rw (a.unrefused, a.not_end, b.is, new) refl

  pub begins-anew : (c : Call) → Begins c (ledger_call r c l).answer → ledger_call r c l ≡ ledger_call r c l'
  begins-anew c b =
      by-begins (λ x a. (ledger_call r x l).answer ≡ a → ledger_call r x l ≡ ledger_call r x l')
      (λ s blind a never e. call-anew s blind (call-taken r l s a never e)) record-anew c (ledger_call r c l).answer b
      refl
