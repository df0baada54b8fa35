-- Each step that a list of calls runs goes as on the ledger, on lists that hold the ledger's layout.
use Prim.Native.Nat.{ℕ, ◌≤◌}
use native.Mathlib.Omega.{arith}
use mathlib.Core.Path.{◌≡◌, refl, sym, ap, ◌∙◌, subst}
use mathlib.Core.Bool.{Bool, true, false, cond}
use mathlib.Core.List.{List, [], ◌∷◌, ◌++◌}
use mathlib.Core.Option.{Option, none, some}
use lib.ListN.{length, drop}
use Rattle.foil_spec.specs.Limits.{table_size, strips_size}
use Rattle.foil_spec.specs.Foil.{Layout}
use Rattle.foil_spec.specs.Ledger.{Step, Answer, Room, short, reads, After, refusal_of, ledger_step}
use Rattle.foil_spec.specs.Lent.{Lent, store, held, layout_ok, sound, step_on, output_after, numbers_out, room_left}
use Rattle.foil_spec.specs.Wishes.{wishes}
use Rattle.foil_spec.specs.Job.{steps}
use Rattle.foil_spec.specs.Calls.{Call, step, run_record, ohms, lay_list, Reply, as_reply, ends_job, and_then, act_all}
use Rattle.foil_spec.specs.Calls.{act_record, in_front, act_each, act_list, reply, ledger_call}
use Rattle.foil_spec.specs.Sequence.{Lending, front, room_for, back, lend, told}
use Rattle.list_laws.proofs.Tests.{both}
use Rattle.ledger_laws.specs.Moments.{Moment, moment_of, moments_of, moments_each, steps_run, is_list, moments_by}
use Rattle.ledger_laws.specs.Moments.{moments, Started, begins, carried}
use Rattle.ledger_laws.proofs.Stored.{Long, front-store, back-new, back-store}
use Rattle.ledger_laws.proofs.Kept.{step_kept, call_kept}
use Rattle.ledger_laws.proofs.Steps.{shown, step_is}
use Rattle.ledger_laws.proofs.Sound.{of-sound, sound-store-is, sound-long}
use Rattle.ledger_laws.proofs.Lending.{step-short, ledger-short, told-short, LongFront, long-front, long-whole}
use Rattle.ledger_laws.proofs.Lending.{back-front, room-front, lend-is, Begun, blind-is, blind-state, begun}
use Rattle.ledger_laws.proofs.Lending.{lend-begun, step-alone}

-- ---- what is known of a step

-- the layout keeps the rules, and n holds it as m does once it is stored there
pub record Shows (m : Lent) (l : Layout) (n : Lent) : Type 0 where
  pub kept : layout_ok l ≡ true
  pub is : n ≡ store l m

-- the step goes as on the ledger; its output list was lent as `given`
pub record Goes (m : Lent) (k : Moment) : Type 0 where
  pub answer : k.answer ≡ (ledger_step k.room k.step k.ledger_before).answer
  pub left : k.ledger_after ≡ (ledger_step k.room k.step k.ledger_before).state
  pub before : Shows m k.ledger_before k.before
  pub after : Shows m k.ledger_after k.after
  pub given : List ℕ
  pub output : k.output ≡ output_after k.answer given

-- the step that begins a foil, which reads nothing of what is lent, goes so on lists that hold anything
pub record Opens (m : Lent) (k : Moment) : Type 0 where
  pub blind : reads k.step ≡ false
  pub unrefused : refusal_of k.room false k.step k.ledger_before ≡ none
  pub answer : k.answer ≡ (ledger_step k.room k.step k.ledger_before).answer
  pub left : k.ledger_after ≡ (ledger_step k.room k.step k.ledger_before).state
  pub after : Shows m k.ledger_after k.after
  pub given : List ℕ
  pub output : k.output ≡ output_after k.answer given

-- steps that go as on the ledger one after the other, from the layout l to the layout l'
abbrev pub Chain : Lent → Layout → List Moment → Layout → Type 0
Chain m l [] l' = l ≡ l'
Chain m l (k ∷ ks) l' = (k.ledger_before ≡ l) × Goes m k × Chain m k.ledger_after ks l'

chain-append : (m : Lent) (l l' l'' : Layout) (ks js : List Moment) → Chain m l ks l' → Chain m l' js l''
    → Chain m l (ks ++ js) l''
chain-append m l l' l'' [] js h k = subst (λ (x : Layout). Chain m x js l'') (sym h) k
chain-append m l l' l'' (j ∷ ks) js h k = (h.0, h.1, chain-append m j.ledger_after l' l'' ks js h.2 k)

-- the steps after one, which are not run where it ends the job
chain-then : (m : Lent) (a : After Answer Layout) (b : After (List Answer) Layout) (ks : List Moment)
    → Chain m a.state ks b.state → Chain m a.state (cond (ends_job a.answer) [] ks) (and_then a b).state
unfolding and_then
chain-then m a b ks h = both (ends_job a.answer) (λ t. rw t refl) (λ t. rw t h)

-- ---- the steps of one call

-- a call c on the whole lists n, which with what it leaves of its front part hold what m holds
module _ (c : Lending) (n m : Lent)
    (whole : (l : Layout) → layout_ok l ≡ true → back c n (store l (front c m)) ≡ store l m) where
  goes : (r : Room) (s : Step) (l : Layout) (out : List ℕ) → layout_ok l ≡ true
      → Goes m (moment_of c n r s (store l (front c m)) out l)
  unfolding moment_of
  goes r s l out g =
      let o = step_is r s l (front c m) g in
      let kept = step_kept r s l g in
      record {
        answer = ap (λ (z : After Answer Lent). z.answer) o ∙ unfold shown in refl;
        left = refl;
        before = record { kept = g; is = whole l g };
        after = record {
          kept = kept;
          is =
              ap (λ (z : After Answer Lent). back c n z.state) o
              ∙ unfold shown in whole (ledger_step r s l).state kept;
        };
        given = out;
        output = refl;
      }

  -- the room that it has
  abbrev r : Room
  r = room_for c n

  chain : (ss : List Step) (l : Layout) (out : List ℕ) → layout_ok l ≡ true
      → Chain m l (moments_of c n ss (store l (front c m)) out l) (act_all (ledger_step r) ss l).state
  unfolding moments_of act_all moment_of shown
  chain [] l out g = refl
  chain (s ∷ ss) l out g =
      let a : After Answer Layout = ledger_step r s l in (
        refl,
        goes r s l out g,
        rw (step_is r s l (front c m) g)
            (chain-then m a (act_all (ledger_step r) ss a.state) _
            (chain ss a.state (output_after a.answer out) (step_kept r s l g))),
      )

  each-chain : (ss : List Step) (q : Room) (l : Layout) (out : List ℕ) → layout_ok l ≡ true
      → Chain m l (moments_each c n q ss (store l (front c m)) out l) (act_each ledger_step q ss l).state
  unfolding moments_each act_each in_front moment_of shown
  each-chain [] q l out g = refl
  each-chain (s ∷ ss) q l out g =
      let a : After Answer Layout = ledger_step q s l in (
        refl,
        goes q s l out g,
        rw (step_is q s l (front c m) g)
            (each-chain ss (room_left a.answer q) a.state (drop (length (numbers_out a.answer)) out)
            (step_kept q s l g)),
      )

  -- those that it runs, by its checks
  list-chain : (o : Option ℕ) (ws : List ℕ) (k : ℕ) (l : Layout) (out : List ℕ) → layout_ok l ≡ true
      → Chain m l
      (moments_each c n r (steps_run (lay_list ws k) (act_list ledger_step o r (wishes ws) l).answer)
      (store l (front c m)) out l)
      (act_list ledger_step o r (wishes ws) l).state
  unfolding act_list steps_run
  list-chain (some j) ws k l out g = unfold moments_each in refl
  list-chain none ws k l out g = each-chain (wishes ws) r l out g

  -- the steps that a record runs, by its checks
  record-chain : (o : Option ℕ) (e : Bool) (bs : List ℕ) (at p : ℕ) (l : Layout) (out : List ℕ) → layout_ok l ≡ true
      → Chain m l
      (moments_of c n (steps_run (run_record bs at) (as_reply (act_record (ledger_step r) o e (steps bs at) p l).answer))
      (store l (front c m)) out l)
      (act_record (ledger_step r) o e (steps bs at) p l).state
  unfolding act_record as_reply steps_run
  record-chain (some k) e bs at p l out g = unfold moments_of in refl
  record-chain none true bs at p l out g = unfold moments_of in refl
  record-chain none false bs at p l out g = chain (steps bs at) l out g

  call-chain : (k : Call) (l : Layout) (out : List ℕ) → layout_ok l ≡ true
      → Chain m l (moments_by c n k (steps_run k (ledger_call r k l).answer) (store l (front c m)) out l)
      (ledger_call r k l).state
  unfolding ledger_call reply steps_run is_list moments_by
  call-chain (step s) l out g =
      subst (Chain m l (moments_of c n (s ∷ []) (store l (front c m)) out l)) (step-alone r s l) (chain (s ∷ []) l out g)
  call-chain (run_record bs at) l out g = record-chain _ _ bs at _ l out g
  call-chain (ohms net i) l out g = unfold moments_of in refl
  call-chain (lay_list ws k) l out g = list-chain _ ws k l out g

-- ---- one call of the list

module _ (m : Lent) (long : Long m) (c : Lending) (l : Layout) (g : layout_ok l ≡ true) where
  -- the lists before it
  abbrev lists : Lent
  lists = store l m

  room-is : room_for c lists ≡ room_for c m
  room-is = room-front c m l long g

  told_is : told lists c l ≡ told m c l
  unfolding told
  told_is = ap (λ (q : Room). ledger_call q c.call l) room-is

  lend-lists : lend c lists ≡ shown m (told lists c l)
  lend-lists = lend-is m long c l g ∙ ap (shown m) (sym told_is)

  lend-answer : (lend c lists).answer ≡ (told lists c l).answer
  unfolding shown
  lend-answer = ap (λ (z : After Reply Lent). z.answer) lend-lists

  lend-state : (lend c lists).state ≡ store (told lists c l).state m
  unfolding shown
  lend-state = ap (λ (z : After Reply Lent). z.state) lend-lists

  -- the steps of the call c, where k is what it calls
  abbrev Steps : Call → Type 0
  Steps k =
      Chain m l
      (moments_by c lists k (steps_run k (ledger_call (room_for c lists) k l).answer) (front c lists) c.output l)
      (ledger_call (room_for c lists) k l).state

  short-goes : short (room_for c lists) ≡ true → (s : Step)
      → Goes m (moment_of c lists (room_for c lists) s (front c lists) c.output l)
  unfolding moment_of
  short-goes e s =
      let r : Room = room_for c lists in
      let o = step-short r s (front c lists) e in
      let q = ledger-short r s l e in
      record {
        answer = ap (λ (z : After Answer Lent). z.answer) o ∙ ap (λ (z : After Answer Layout). z.answer) (sym q);
        left = refl;
        before = record { kept = g; is = back-front c lists };
        after =
            subst (λ (z : Layout). Shows m z (back c lists (step_on r s (front c lists)).state))
            (ap (λ (z : After Answer Layout). z.state) (sym q))
            (record { kept = g; is = ap (λ (z : After Answer Lent). back c lists z.state) o ∙ back-front c lists });
        given = c.output;
        output = refl;
      }

  short-step : short (room_for c lists) ≡ true → (s : Step) → Steps (step s)
  unfolding ledger_call reply steps_run is_list moments_by moments_of
  short-step e s = (
    unfold moment_of in refl,
    short-goes e s,
    unfold moment_of in
        both (ends_job (step_on (room_for c lists) s (front c lists)).answer) (λ t. rw t refl) (λ t. rw t refl),
  )

  short-steps : short (room_for c lists) ≡ true → (k : Call) → Steps k
  unfolding steps_run is_list moments_by moments_of
  short-steps e (step s) = short-step e s
  short-steps e (run_record bs at) = rw (told-short (room_for c lists) (run_record bs at) l e) refl
  short-steps e (ohms net i) = unfold ledger_call reply in refl
  short-steps e (lay_list ws k) =
      unfold moments_each in rw (told-short (room_for c lists) (lay_list ws k) l e) refl

  long-steps : LongFront c m → (k : Call) → Steps k
  long-steps n k =
      let ht : table_size ≤ c.table_front = omega (arith, n.table) in
      let hs : strips_size ≤ c.strip_front = omega (arith, n.strips) in
      subst
      (λ (z : Lent).
      Chain m l (moments_by c lists k (steps_run k (ledger_call (room_for c lists) k l).answer) z c.output l)
      (ledger_call (room_for c lists) k l).state)
      (sym (front-store c m ht hs l g))
      (call-chain c lists m (λ l' g'. back-store c m ht hs l l' g g') k l c.output g)

  call-steps : (k : Call) → Steps k
  call-steps k =
      both (short (room_for c lists)) (λ e. short-steps e k)
      (λ e. long-steps (long-front c m (ap short (sym room-is) ∙ e)) k)

  call-goes :
      Chain m l (moments_by c lists c.call (steps_run c.call (lend c lists).answer) (front c lists) c.output l)
      (told lists c l).state
  call-goes =
      subst
      (λ (a : Reply).
      Chain m l (moments_by c lists c.call (steps_run c.call a) (front c lists) c.output l)
      (told lists c l).state)
      (sym lend-answer) (unfold told in call-steps c.call)

-- ---- the calls after the one that begins a foil

-- steps that go as on the ledger from the layout l on, whatever the last of them leaves
pub record Onward (m : Lent) (l : Layout) (ks : List Moment) : Type 0 where
  pub end : Layout
  pub chain : Chain m l ks end

onward-append : (m : Lent) (l l' : Layout) (ks js : List Moment) → Chain m l ks l' → Onward m l' js
    → Onward m l (ks ++ js)
onward-append m l l' ks js h o =
    record { end = o.end; chain = chain-append m l l' o.end ks js h o.chain }

onward : (m : Lent) → Long m → (cs : List Lending) (l : Layout) → layout_ok l ≡ true
    → Onward m l (moments (store l m) l cs)
unfolding moments
onward m long [] l g = record { end = l; chain = refl }
onward m long (c ∷ cs) l g =
    let n : Lent = store l m in
    let l' : Layout = (told n c l).state in
    let kept : layout_ok l' ≡ true = unfold told in call_kept (room_for c n) c.call l g in
    onward-append m l l' (moments_by c n c.call (steps_run c.call (lend c n).answer) (front c n) c.output l) _
    (call-goes m long c l g)
    (subst (λ (x : Lent). Onward m l' (moments x l' cs)) (sym (lend-state m long c l g)) (onward m long cs l' kept))

-- ---- a whole list

-- the first step begins it, and the others go as on the ledger
record Opened (m : Lent) (ks : List Moment) : Type 0 where
  opening : Moment
  others : List Moment
  are : ks ≡ opening ∷ others
  begins-it : Opens m opening
  onward : Onward m opening.ledger_after others

module _ (m : Lent) (l : Layout) (c : Lending) (b : Begun (room_for c m) c.call l (front c m)) where
  abbrev new : Step
  new = b.opening

  abbrev room : Room
  room = room_for c m

  -- the ledger's line for the step that begins the foil
  abbrev line : After Answer Layout
  line = ledger_step room new l

  long-first : LongFront c m
  long-first = long-front c m b.long

  whole-new : (l' : Layout) → layout_ok l' ≡ true → back c m (store l' (front c m)) ≡ store l' m
  whole-new l' g = let n = long-first in back-new c m (omega (arith, n.table)) (omega (arith, n.strips)) l' g

  new-on : step_on room new (front c m) ≡ shown (front c m) line
  new-on = blind-is new b.blind room l b.unrefused (front c m)

  new-left : layout_ok line.state ≡ true
  new-left = blind-state new b.blind room l b.unrefused

  -- the steps of the opening call after it
  rest : List Moment
  rest =
      cond (ends_job (step_on room new (front c m)).answer) []
      (moments_of c m b.later (step_on room new (front c m)).state
      (output_after (step_on room new (front c m)).answer c.output) line.state)

  rest_goes : Chain m line.state rest (told m c l).state
  unfolding rest told act_all shown
  rest_goes =
      rw (b.ends, new-on)
      (chain-then m line (act_all (ledger_step room) b.later line.state) _
      (chain c m m whole-new b.later line.state _ new-left))

  lend-first : lend c m ≡ shown m (told m c l)
  lend-first = lend-begun c l m b

  first-steps : steps_run c.call (lend c m).answer ≡ new ∷ b.later
  unfolding told shown
  first-steps = ap (λ (z : After Reply Lent). steps_run c.call z.answer) lend-first ∙ b.runs

  -- the steps of the opening call
  first-are : moments_by c m c.call (steps_run c.call (lend c m).answer) (front c m) c.output l
      ≡ moment_of c m room new (front c m) c.output l ∷ rest
  unfolding moments_by moments_of rest
  first-are =
      rw b.no-list (ap (λ (ss : List Step). moments_of c m ss (front c m) c.output l) first-steps)

  first-left : Shows m line.state (back c m (step_on room new (front c m)).state)
  first-left =
      record {
        kept = new-left;
        is =
            ap (λ (z : After Answer Lent). back c m z.state) new-on
            ∙ unfold shown in whole-new line.state new-left;
      }

  -- the steps of the calls after it
  later-on : (cs : List Lending)
      → Onward m (told m c l).state (moments (lend c m).state (told m c l).state cs)
  later-on cs =
      subst (λ (x : After Reply Lent). Onward m (told m c l).state (moments x.state (told m c l).state cs))
      (sym lend-first)
      (unfold shown in onward m (long-whole c m long-first) cs (told m c l).state (unfold told in b.kept))

  opened : (cs : List Lending) → Opened m (moments m l (c ∷ cs))
  unfolding moments moment_of
  opened cs =
      let js : List Moment = moments (lend c m).state (told m c l).state cs in
      record {
        opening = moment_of c m room new (front c m) c.output l;
        others = rest ++ js;
        are = ap (λ (ks : List Moment). ks ++ js) first-are;
        begins-it = record {
          blind = b.blind;
          unrefused = b.unrefused;
          answer = ap (λ (z : After Answer Lent). z.answer) new-on ∙ unfold shown in refl;
          left = refl;
          after = first-left;
          given = c.output;
          output = refl;
        };
        onward = onward-append m line.state (told m c l).state rest js rest_goes (later-on cs);
      }

-- ---- at every step

-- a step begins the foil, or goes as on the ledger, and so do those after it
pub data Standing (m : Lent) (k : Moment) (later : List Moment) : Type 0 where
  opens : Opens m k → Standing m k later
  runs_on : Goes m k → Onward m k.ledger_after later → Standing m k later

found : (m : Lent) (l : Layout) (earlier : List Moment) (k : Moment) (later : List Moment) (end : Layout)
    → Chain m l (earlier ++ (k ∷ later)) end → Standing m k later
found m l [] k later end h = runs_on h.1 (record { end = end; chain = h.2 })
found m l (j ∷ earlier) k later end h = found m j.ledger_after earlier k later end h.2

stands : (m : Lent) (ks : List Moment) → Opened m ks → (earlier : List Moment) (k : Moment) (later : List Moment)
    → ks ≡ earlier ++ (k ∷ later) → Standing m k later
stands m ks o [] k later e =
    let q : o.opening ≡ k = cc in
    subst (λ (x : Moment). Standing m x later) q (opens o.begins-it)
stands m ks o (j ∷ earlier) k later e =
    let q : o.others ≡ earlier ++ (k ∷ later) = cc in
    found m o.opening.ledger_after earlier k later o.onward.end
    (subst (λ (js : List Moment). Chain m o.opening.ledger_after js o.onward.end) q o.onward.chain)

-- on a foil that is there already, all steps go as on the ledger
stands_on : (m : Lent) (cs : List Lending) → sound m ≡ true → (earlier : List Moment) (k : Moment) (later : List Moment)
    → moments m (held m) cs ≡ earlier ++ (k ∷ later) → Standing m k later
stands_on m cs g earlier k later e =
    let known = of-sound m g in
    let o =
    subst (λ (x : Lent). Onward m (held m) (moments x (held m) cs)) (sound-store-is m known)
    (onward m (sound-long m g) cs (held m) known.kept) in
    found m (held m) earlier k later o.end
    (subst (λ (ks : List Moment). Chain m (held m) ks o.end) e o.chain)

-- m is what the lists hold at first
pub at_every : (m : Lent) (l : Layout) (cs : List Lending) → Started m l cs
    → (earlier : List Moment) (k : Moment) (later : List Moment) → moments m l cs ≡ earlier ++ (k ∷ later)
    → Standing m k later
at_every _ _ _ (begins m l c cs h) earlier k later e =
    let b = begun (room_for c m) c.call l (front c m) (unfold told in h) in
    stands m (moments m l (c ∷ cs)) (opened m l c b cs) earlier k later e
at_every _ _ _ (carried m cs g) earlier k later e = stands_on m cs g earlier k later e

-- the record and the lists after a step hold the ledger's layout after it
pub after-step : (m : Lent) (k : Moment) (later : List Moment) → Standing m k later
    → Shows m k.ledger_after k.after
after-step m k later (opens o) = o.after
after-step m k later (runs_on g o) = g.after
