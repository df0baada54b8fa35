-- A foil that is kept has at most 4,096 strips, so by the bound on bends no track needs more than 8,192 corner places;
-- and at most 128 entries, so its file and its slip have fewer bytes than these places have numbers.
use Prim.Native.Nat.{ℕ, suc, ◌*◌, ◌/◌, ◌≤◌}
use native.Mathlib.Omega.{arith}
use native.Mathlib.Decide.{ℕ_discrete}
use mathlib.Core.Path.{◌≡◌, refl, sym, ap, ◌∙◌, subst}
use mathlib.Core.Bool.{Bool, true, false, not, or-true}
use mathlib.Core.List.{List, [], ◌∷◌}
use mathlib.Core.Logic.{by_cases, ⊎_elim}
use mathlib.Core.Option.{Option, none, some, get_or}
use lib.Dec.{leb, ltb}
use lib.ListN.{length}
use borrow.Author.Tests.{eq-eqb, ne_eqb, ltb-true, ltb-false, leb-true}
use Rattle.foil_spec.specs.Lists.{range, all}
use Rattle.foil_spec.specs.Limits.{max_entries, max_strips, report_places, corner_places}
use Rattle.foil_spec.specs.Foil.{Point, Layout, no_foil}
use Rattle.foil_spec.specs.Strips.{strips_from}
use Rattle.foil_spec.specs.Paths.{bends}
use Rattle.foil_spec.specs.Nets.{in_use, nets_of}
use Rattle.foil_spec.specs.Slip.{slip_of}
use Rattle.foil_spec.specs.Ledger.{strips_of, path_of, corners_of, without, join_of, join_corners, Room, short, corner_room}
use Rattle.foil_spec.specs.Carrying.{Old, old_short}
use Rattle.foil_spec.specs.Ledger.{with_output, is_too_fine, Step, lay, join, carry, Answer, refused}
use Rattle.foil_spec.specs.Ledger.{next, says, first, reads, refusals, after_lent, After, settle, refusal_of}
use Rattle.foil_spec.specs.Ledger.{ledger_step}
use Rattle.foil_spec.specs.Lent.{Lent, store, held, layout_ok, sound, step_on, output_after, numbers_out}
use Rattle.foil_spec.specs.Lent.{room_left}
use Rattle.foil_spec.specs.Job.{record_checks}
use Rattle.foil_spec.specs.Ohms.{ohms_refusals}
use Rattle.foil_spec.specs.declared.Ink.{Ink}
use Rattle.foil_spec.specs.Wishes.{wish_at, wishes, too_many}
use Rattle.foil_spec.specs.Calls.{Call, step, run_record, ohms, lay_list, Reply, whole_refusals, list_refusals, reply}
use Rattle.foil_spec.specs.Calls.{ledger_call}
use Rattle.foil_spec.specs.Sequence.{Lending, room_for, told, Left, leaves, run_lent, run_ledger}
use Rattle.list_laws.proofs.Tests.{clash, both, not_t, not-ff, parts}
use Rattle.list_laws.proofs.Members.{In, of-all, of_map}
use Rattle.ledger_laws.specs.Line.{but, own_numbers, Lacks, corners, joint, bytes, page, LacksOld}
use Rattle.ledger_laws.specs.Moments.{is_list}
use Rattle.ledger_laws.specs.Numbers.{steps_in, numbers_in, numbers_of, among}
use Rattle.ledger_laws.proofs.Refusals.{first_passes, broken-refused, own-refused, unrefused-own}
use Rattle.ledger_laws.proofs.Rules.{of-ok}
use Rattle.ledger_laws.proofs.Line.{line, settled-refused}
use Rattle.ledger_laws.proofs.Stored.{length-points}
use Rattle.ledger_laws.proofs.Outputs.{laid_out}
use Rattle.ledger_laws.proofs.Kept.{step_keeps, call-keeps}
use Rattle.ledger_laws.proofs.Sound.{of-sound}
use Rattle.ledger_laws.proofs.Lending.{step-short, begins-anew}
use Rattle.ledger_laws.proofs.Demand3.{behaves-as-ledger}
use Rattle.ledger_laws.proofs.FileSize.{file-small}
use Rattle.ledger_laws.proofs.Numbers.{each-passes, list-passes, call_passes, Passes, run-passes, not-among}
use Rattle.ledger_laws.proofs.Numbers.{lent-passes, own-passes}
use Rattle.sheet_laws.specs.Alone.{foil_of}
use Rattle.sheet_laws.proofs.Alone.{foils-alone}
use Rattle.slip_laws.proofs.Pages.{slip-small}
use Rattle.box_laws.specs.Bound.{bend_bound}
use Rattle.bend_laws.specs.Room.{TrackCorners, EnoughCorners, asks_few, places_for, few_wishes, lent_enough}
use Rattle.bend_laws.specs.Room.{NeverShort, SheetNeverShort}
use Rattle.bend_laws.proofs.Bound.{track-bends, join-bound}

-- ---- corners

pub track-corners : TrackCorners
unfolding bend_bound bends
track-corners l S T cs h =
    let K = length (strips_of l) in
    let b = track-bends l S T cs h in
    by_cases (ℕ_discrete K 1) (λ e. omega (arith, rw (eq-eqb K 1 e) at b)) (λ e. omega (arith, rw (ne_eqb K 1 e) at b))

-- the corners of a track on a foil that is not too fine
pub corners-few : (l : Layout) (S T : Point) → is_too_fine l ≡ false → length (corners_of l S T) ≤ corner_places
unfolding corners_of is_too_fine
corners-few l S T h = go (path_of l S T) refl
  where
    go : (o : Option (List Point)) → path_of l S T ≡ o → length (get_or o []) ≤ corner_places
    go none e = omega arith
    go (some cs) e = omega (arith, track-corners l S T cs e, ltb-false max_strips (length (strips_of l)) h)

-- those of a join on a foil that is not too fine without the net
joints-few : (l : Layout) (net : ℕ) (S : Point) → is_too_fine (without net l) ≡ false
    → length (join_corners net l S) ≤ corner_places
unfolding join_corners is_too_fine bend_bound bends
joints-few l net S h = go (join_of net l S) refl
  where
    K : ℕ
    K = length (strips_of (without net l))

    go : (o : Option (List Point)) → join_of net l S ≡ o → length (get_or o []) ≤ corner_places
    go none e = omega arith
    go (some cs) e =
        let b = join-bound l net S cs e in
        let few = ltb-false max_strips (length (strips_of (without net l))) h in
        by_cases (ℕ_discrete K 1)
        (λ e. omega (arith, rw (eq-eqb K 1 e) at b))
        (λ e. omega (arith, rw (ne_eqb K 1 e) at b, few))

-- a foil that keeps the rules, or none that is begun
pub data Fine (l : Layout) : Type 0 where
  begun : layout_ok l ≡ true → Fine l
  unbegun : l ≡ no_foil → Fine l

-- it has no more strips and entries than their lists have places, and a slip of 33 bytes for each entry at most
pub record Small (l : Layout) : Type 0 where
  pub strips : is_too_fine l ≡ false
  pub entries : length l.entries ≤ max_entries
  pub page : length (slip_of l) ≤ 33 * max_entries

no-foil-small : Small no_foil
unfolding is_too_fine strips_of strips_from slip_of nets_of in_use
no-foil-small = record { strips = refl; entries = omega arith; page = omega arith }

pub small : (l : Layout) → Fine l → Small l
small l (begun g) =
    let k = of-ok l g in
    record { strips = k.fine; entries = leb-true (length l.entries) max_entries k.long; page = slip-small l g }
small l (unbegun e) = subst Small (sym e) no-foil-small

-- ---- one step

-- if the step is a join, the foil without its net is not too fine; the old lists of a carry are long enough
record Lendable (s : Step) (l : Layout) : Type 0 where
  liftable : (net : ℕ) (S : Point) → s ≡ join net S → is_too_fine (without net l) ≡ false
  long-olds : (o : Old) → s ≡ carry o → old_short o ≡ false

asks-few : (s : Step) (l : Layout) → asks_few s ≡ true → Lendable s l
unfolding asks_few
asks-few s l h =
    record {
      liftable = λ net S e. clash h (ap asks_few e);
      long-olds = λ o e. not_t (old_short o) (sym (ap asks_few e) ∙ h);
    }

module _ (r : Room) (room : corner_places ≤ corner_room r) where
  -- on a foil that is fine nothing lacks output
  none-lacks : (s : Step) (l : Layout) → Fine l → Lendable s l → Lacks s r l → ⊥
  unfolding corner_room
  none-lacks s l fine lift (corners S T more) = omega (arith, more, corners-few l S T (small l fine).strips)
  none-lacks s l fine lift (joint net S e more) = omega (arith, more, joints-few l net S (lift.liftable net S e))
  none-lacks s l fine lift (bytes more) = omega (arith, room, more, file-small l (small l fine).entries)
  none-lacks s l fine lift (page more) = omega (arith, room, more, (small l fine).page)

  none_old : (s : Step) (l : Layout) → Lendable s l → LacksOld s r → ⊥
  unfolding corner_room
  none_old s l lift k =
      let short-report : ltb r.output report_places ≡ true = rw (lift.long-olds k.from k.is) at k.lacks in
      omega (arith, room, ltb-true r.output report_places short-report)

  -- a step has a 12 of its own only on a foil that is not fine, which it reads, or as a join or a carry
  own-12 : (s : Step) (l : Layout) → Lendable s l → first (refusals s r l) ≡ some 12
      → (reads s ≡ true) × (Fine l → ⊥)
  own-12 s l lift e =
      ⊎_elim (λ (k : (reads s ≡ true) × Lacks s r l). (k.0, λ fine. none-lacks s l fine lift k.1))
      (λ (k : LacksOld s r). absurd (none_old s l lift k)) ((line s).output r l e)

  module _ (long : short r ≡ false) where
    -- on lists that hold anything, where those that keep the rules are fine
    not-12 : (s : Step) (broken : Bool) (l : Layout) → (broken ≡ false → Fine l) → Lendable s l
        → refusal_of r broken s l ≡ some 12 → ⊥
    not-12 s false l fine lift e = (own-12 s l lift (sym (own-refused r s l false long refl) ∙ e)).1 (fine refl)
    not-12 s true l fine lift e =
        both (reads s)
        (λ t. let z : ◌≡◌ {A = ℕ} 13 12 = cc (broken-refused r s l long t) in omega arith)
        (λ t. clash (own-12 s l lift (sym (own-refused r s l true long t) ∙ e)).0 t)

    -- on the ledger, a number that the step is refused by passes a test that its own numbers pass
    pub step-passes : (p : ℕ → Bool) (s : Step) → asks_few s ≡ true → all p (own_numbers s) ≡ true → (l : Layout)
        → Fine l → (n : ℕ) → refusal_of r false s l ≡ some n → p n ≡ true
    unfolding refusal_of
    step-passes p s j h l fine =
        lent-passes p r (refusals s r l) (λ t. clash t long)
        (own-passes p s r l h (λ e. absurd ((own-12 s l (asks-few s l j) e).1 fine)))

    step-but-12 : (s : Step) → asks_few s ≡ true → (l : Layout) → Fine l → (n : ℕ) → refusal_of r false s l ≡ some n
        → but 12 n ≡ true
    unfolding but
    step-but-12 s j l fine n e =
        by_cases (ℕ_discrete 12 n)
        (λ q. absurd (not-12 s false l (λ _. fine) (asks-few s l j) (e ∙ ap {A = ℕ} {B = Option ℕ} some (sym q))))
        (λ q. ap not (ne_eqb 12 n q))

pub enough-corners : EnoughCorners
unfolding step_on
enough-corners r s m room lift olds = (only-short, λ e. ap (λ (a : After Answer Lent). a.answer) (step-short r s m e))
  where
    kept : not (sound m) ≡ false → Fine (held m)
    kept e = begun (of-sound m (not-ff (sound m) e)).kept

    only-short : (step_on r s m).answer ≡ refused 12 → short r ≡ true
    only-short h =
        both (short r) (λ e. e)
        (λ e.
        absurd
        (not-12 r room e s (not (sound m)) (held m) kept
        (record { liftable = lift; long-olds = olds }) (settled-refused _ s (held m) _ m 12 (omega arith) h)))

-- ---- a list of calls

file-but-12 : (r : Room) → short r ≡ false → (bs : List ℕ) (at n : ℕ) → first (whole_refusals r false bs at) ≡ some n
    → but 12 n ≡ true
unfolding whole_refusals after_lent record_checks but
file-but-12 r long bs at = first_passes (but 12) _ (simp (long, or-true))

ohms-but-12 : (r : Room) → short r ≡ false → (net : ℕ) (i : Ink) (l : Layout) (n : ℕ)
    → first (after_lent r false (ohms_refusals net i l)) ≡ some n → but 12 n ≡ true
unfolding after_lent ohms_refusals but
ohms-but-12 r long net i l = first_passes (but 12) _ (simp (long, or-true))

-- an accepted step leaves a foil that is fine
unbegun-kept : (r : Room) (s : Step) → refusal_of r false s no_foil ≡ none → Fine (next s no_foil)
unbegun-kept r s e =
    let own = unrefused-own r s no_foil false e in
    both (reads s)
    (λ t. unbegun ((line s).unbegun t r own))
    (λ f. begun ((line s).kept r no_foil (λ t. clash t f) own))

pub fine-kept : (r : Room) (s : Step) (l : Layout) → Fine l → refusal_of r false s l ≡ none → Fine (next s l)
fine-kept r s l (begun g) e = begun ((line s).kept r l (λ _. g) (unrefused-own r s l false e))
fine-kept r s l (unbegun z) e =
    subst (λ (x : Layout). refusal_of r false s x ≡ none → Fine (next s x)) (sym z) (unbegun-kept r s) e

-- a ledger that holds no foil yet is fine
pub no-foil-fine : Fine no_foil
no-foil-fine = unbegun refl

others-but-12 : (r : Room) (c : Call) → is_list c ≡ false → all asks_few (steps_in c) ≡ true → short r ≡ false
    → corner_places ≤ corner_room r → (l : Layout) → Fine l
    → all (but 12) (numbers_in (ledger_call r c l).answer) ≡ true
unfolding but
others-but-12 r c e kinds long room =
    call_passes (but 12) refl asks_few Fine r (step-but-12 r room long) (fine-kept r) (file-but-12 r long)
    (ohms-but-12 r long) c e kinds

-- ---- a list of lays: each leaves 8,192 places for each of those after it

-- the room r is enough for k lays
record EnoughFor (k : ℕ) (r : Room) : Type 0 where
  long : short r ≡ false
  places : corner_places * k ≤ corner_room r

-- the step is a lay
abbrev Lays : Step → Type 0
Lays s = (net : ℕ) × (S T : Point) × (s ≡ lay net S T)

wishes-lay : (ws : List ℕ) (s : Step) → In s (wishes ws) → Lays s
unfolding wishes wish_at
wishes-lay ws s i = let (k, j, e) = of_map (wish_at ws) s (range 0 (length ws / 5)) i in (_, _, _, e)

module _ (k : ℕ) (r : Room) (e : EnoughFor (suc k) r) where
  room-now : corner_places ≤ corner_room r
  room-now = omega (arith, e.places)

  left-enough : (o : Option ℕ) (net : ℕ) (S T : Point) (l : Layout) → Fine l
      → EnoughFor k
      (room_left (settle o (record { answer = says (lay net S T) l; state = next (lay net S T) l }) l).answer r)
  unfolding settle room_left says short corner_room
  left-enough (some n) net S T l fine =
      record { long = e.long; places = unfold numbers_out output_after in omega (arith, e.places) }
  left-enough none net S T l fine =
      let cs : List Point = corners_of l S T in
      record {
        long = e.long;
        places =
            omega (
              arith,
              e.places,
              ap length (laid_out cs (bends cs)),
              length-points cs,
              corners-few l S T (small l fine).strips,
            );
      }

  lay-goes-on : (s : Step) → Lays s → (l : Layout) → Fine l
      → EnoughFor k (room_left (ledger_step r s l).answer r) × Fine (ledger_step r s l).state
  unfolding ledger_step
  lay-goes-on s (net, S, T, q) l fine =
      rw q (
        left-enough (refusal_of r false (lay net S T) l) net S T l fine,
        step_keeps Fine r (fine-kept r) (lay net S T) l fine,
      )

  lay-but-12 : (s : Step) → Lays s → (l : Layout) → Fine l → (n : ℕ) → refusal_of r false s l ≡ some n → but 12 n ≡ true
  unfolding asks_few
  lay-but-12 s (net, S, T, q) = step-but-12 r room-now e.long s (ap asks_few q)

list-but-12 : (r : Room) (ws : List ℕ) (k n : ℕ) → too_many ws k ≡ false → short r ≡ false
    → first (list_refusals r false ws k) ≡ some n → but 12 n ≡ true
unfolding list_refusals after_lent but
list-but-12 r ws k n few long = first_passes (but 12) _ (simp (few, long, or-true)) n

lays-but-12 : (r : Room) (ws : List ℕ) (n : ℕ) → too_many ws n ≡ false → EnoughFor (length (wishes ws)) r → (l : Layout)
    → Fine l → all (but 12) (numbers_in (ledger_call r (lay_list ws n) l).answer) ≡ true
unfolding ledger_call reply but
lays-but-12 r ws n few enough l fine =
    list-passes (but 12) _ r (wishes ws) l (λ k. list-but-12 r ws n k few enough.long)
    (λ _. each-passes (but 12) refl Lays Fine EnoughFor lay-but-12 lay-goes-on (wishes ws) (wishes-lay ws) r enough l
    fine)

call-but-12 : (r : Room) (c : Call) → all asks_few (steps_in c) ≡ true → few_wishes c ≡ true → short r ≡ false
    → places_for c ≤ corner_room r → (l : Layout) → Fine l → all (but 12) (numbers_in (ledger_call r c l).answer) ≡ true
unfolding is_list places_for
call-but-12 r (step s) kinds few long room = others-but-12 r (step s) refl kinds long room
call-but-12 r (run_record bs at) kinds few long room = others-but-12 r (run_record bs at) refl kinds long room
call-but-12 r (ohms net i) kinds few long room = others-but-12 r (ohms net i) refl kinds long room
call-but-12 r (lay_list ws n) kinds few long room =
    lays-but-12 r ws n (not_t (too_many ws n) (unfold few_wishes in few)) (record { long = long; places = room })

fine-passes : (m : Lent) (c : Lending) → lent_enough m c ≡ true → Passes (but 12) Fine m c
unfolding lent_enough told
fine-passes m c e =
    let r : Room = room_for c m in
    let kinds : all asks_few (steps_in c.call) ≡ true = search parts in
    let few : few_wishes c.call ≡ true = search parts in
    let long : short r ≡ false = search parts in
    let places : leb (places_for c.call) (corner_room r) ≡ true = search parts in
    record {
      answers = call-but-12 r c.call kinds few long (leb-true (places_for c.call) (corner_room r) places);
      keeps = call-keeps Fine r (λ n. fine-kept (with_output r n)) c.call;
    }

pub never-short : NeverShort
unfolding run_ledger told but
never-short m l c cs h enough =
    let a : run_lent m (c ∷ cs) ≡ run_ledger m no_foil (c ∷ cs) =
    behaves-as-ledger m l c cs h
    ∙ ap (λ (t : After Reply Layout). leaves c t.answer (store t.state m) ∷ run_ledger m t.state cs)
    (begins-anew (room_for c m) l no_foil c.call h) in
    not-among 12 _
    (ap (λ (os : List Left). all (but 12) (numbers_of os)) a
    ∙ run-passes (but 12) Fine m (c ∷ cs) no_foil no-foil-fine
    (λ d i. fine-passes m d (of-all (lent_enough m) d (c ∷ cs) enough i)))

pub sheet-never-short : SheetNeverShort
sheet-never-short m cs k l c later whole here on-foil begins enough =
    ap (λ (os : List Left). among 12 (numbers_of os))
    (foils-alone m cs k whole here ∙ ap (run_lent (foil_of k m)) on-foil)
    ∙ never-short (foil_of k m) l c later begins enough
