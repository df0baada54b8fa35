-- Each foil of a sheet goes as a foil of its own.
use Prim.Native.Nat.{ℕ, ◌/◌, ◌≤◌, ◌<◌}
use native.Mathlib.Omega.{arith}
use mathlib.Core.Path.{◌≡◌, refl, sym, ap, ap₂, ◌∙◌, subst}
use mathlib.Core.Bool.{Bool, true, false, not, cond, ◌&&◌}
use mathlib.Core.List.{List, [], ◌∷◌, ◌++◌, append-nil}
use mathlib.Core.Logic.{◌≢◌}
use mathlib.Core.Option.{Option, none, some, none-ne-some, some-injective}
use lib.Dec.{ltb, eqb}
use borrow.Author.Tests.{le-ltb, eq-eqb, ne_eqb, eqb-true, eqb-false}
use lib.ListN.{length, get_or, take, drop, length-take, length-append, length-replicate, take-append-drop}
use lib.Seq.{take_all, drop-append-le, drop-length}
use Rattle.foil_spec.specs.Limits.{max_entries, table_size, sheet_foils, sheet_entries, sheet_size}
use Rattle.foil_spec.specs.Ledger.{Room, short, refused, Refusal, ◌⇒◌, first, After, after_lent}
use Rattle.foil_spec.specs.Lent.{Lent, lent, written, held, sound, room_in}
use Rattle.foil_spec.specs.Wishes.{too_many}
use Rattle.foil_spec.specs.Job.{record_checks}
use Rattle.foil_spec.specs.Calls.{Call, step, run_record, ohms, lay_list, Reply, answered, too_large, act_record, act_list}
use Rattle.foil_spec.specs.Calls.{as_reply, whole_refusals, list_refusals, ohms_reply, reply, call_on, output_by}
use Rattle.foil_spec.specs.Sequence.{Lending, front, room_for, back, lend, told, Left, leaves, run_lent, Begins}
use Rattle.foil_spec.specs.Sheet.{counts_ok, limit_of, SheetLent, no_board, counts, table_at, view, sheet_room, sheet_step}
use Rattle.foil_spec.specs.Sheet.{opening, sheet_refusal, unless, sheet_call, Sheet, SheetLending, sheet_front, sheet_back}
use Rattle.foil_spec.specs.Sheet.{room_on, called_on, lend_sheet}
use Rattle.foil_spec.specs.declared.Board.{Board}
use Rattle.list_laws.proofs.Tests.{both}
use Rattle.ledger_laws.specs.Demand2.{StripsRight}
use Rattle.ledger_laws.specs.LookUp.{LooksUpAt}
use Rattle.ledger_laws.specs.Demand3.{NoWayAt, LaysFirstAt, LiftsBackAt}
use Rattle.ledger_laws.specs.Drawn.{FindsNoWayAt, FindsFirstAt, BooksWaysAt}
use Rattle.ledger_laws.specs.Apart.{TracksApartAt}
use Rattle.ledger_laws.specs.Crossed.{NoneCrossedAt, TurnsPatchDownAt, TurnsLegDownAt}
use Rattle.ledger_laws.specs.Joins.{NoJoinAt, JoinsFirstAt, JoinsApartAt, JoinBendsAt, LiftsWholeAt}
use Rattle.ledger_laws.specs.Moments.{Started, begins as by_call, carried as carried-alone}
use Rattle.ledger_laws.proofs.Lending.{step-short, back-front as lists_back}
use Rattle.ledger_laws.proofs.Opening.{begins-told}
use Rattle.ledger_laws.proofs.Demand2.{strips-stay-right}
use Rattle.ledger_laws.proofs.LookUp.{looks-up}
use Rattle.ledger_laws.proofs.Demand3.{no_way, lays-first}
use Rattle.ledger_laws.proofs.Lifting.{lifts-back}
use Rattle.ledger_laws.proofs.Drawn.{finds-no-way, finds-first, books-ways}
use Rattle.ledger_laws.proofs.Apart.{tracks-apart}
use Rattle.ledger_laws.proofs.Crossed.{none-crossed, turns-patch-down, turns-leg-down}
use Rattle.ledger_laws.proofs.Joins.{no_join, joins-first, joins-apart, join-bends, lifts-whole-after}
use Rattle.ledger_laws.proofs.Replies.{shown_by}
use Rattle.sheet_laws.specs.Alone.{EightFoils, foil_of, alone_call, alone_calls, left_of, FoilsAlone, LeavesOthers}
use Rattle.sheet_laws.specs.Alone.{SheetNoWay, SheetLaysFirst, SheetLiftsBack, SheetNoJoin, SheetJoinsFirst}
use Rattle.sheet_laws.specs.Alone.{SheetStripsRight, SheetTracksApart, SheetJoinsApart, SheetJoinBends}
use Rattle.sheet_laws.specs.Alone.{SheetLiftsWhole, SheetFindsNoWay, SheetFindsFirst, SheetBooksWays, OthersStay}
use Rattle.sheet_laws.specs.Alone.{SheetLooksUp, SheetNoneCrossed, SheetTurnsPatchDown, SheetTurnsLegDown}
use Rattle.sheet_laws.specs.Alone.{StartedOn, begins, carried, AlsoOnSheet}
use Rattle.sheet_laws.proofs.Counts.{ok-total, ok_at}
use Rattle.sheet_laws.proofs.Parts.{part-few, parts-append}
use Rattle.sheet_laws.proofs.Views.{counts-length, Stands, Others, call-view, call-others}
use Rattle.sheet_laws.proofs.Called.{passed}
use Rattle.sheet_laws.proofs.Lending.{LongFront, long-front, back-front}

-- ---- a foil's table

table-size : (k : ℕ) (bs : List Board) (t : List ℕ) → counts_ok (counts bs) ≡ true → k < length bs
    → length (table_at k bs t) ≡ table_size
unfolding table_at written
table-size k bs t ok here =
    let few = ok_at (counts bs) ok k (omega (arith, counts-length bs)) in
    let part = part-few (counts bs) k t in
    simp (length-append, length-replicate) (omega arith)

-- where the sheet's table has its places, the room of a call on foil k is that of the foil alone
pub room-view : (k : ℕ) (m : SheetLent) (output : ℕ) → EightFoils m.boards m.table → k < sheet_foils
    → sheet_room k (counts m.boards) m output ≡ room_in (limit_of (counts m.boards) k) (view k m) output
unfolding sheet_room room_in view
room-view k m output w here =
    rw (
      le-ltb (length m.table / 5) sheet_entries (omega (arith, w.places)),
      table-size k m.boards m.table w.limits (omega (arith, here, w.eight)),
    ) refl

-- what follows the entries of all foils does not belong to it
table-append : (k : ℕ) (bs : List Board) (t u : List ℕ) → counts_ok (counts bs) ≡ true → sheet_size ≤ length t
    → table_at k bs (t ++ u) ≡ table_at k bs t
unfolding table_at
table-append k bs t u ok long =
    ap (λ (ps : List (List ℕ)). written table_size (get_or ps k []) [])
    (parts-append (counts bs) t u (omega (arith, ok-total (counts bs) ok)))

table-front : (k : ℕ) (bs : List Board) (t : List ℕ) (n : ℕ) → counts_ok (counts bs) ≡ true → sheet_size ≤ length t
    → sheet_size ≤ n → table_at k bs (take n t) ≡ table_at k bs t
table-front k bs t n ok long h =
    sym (table-append k bs (take n t) (drop n t) ok (omega (arith, length-take n t)))
    ∙ ap (table_at k bs) (take-append-drop n t)

-- ---- a call that is refused before the foil is looked at is refused so on the foil alone

same_number : (a : Bool) (n : ℕ) (rs qs : List Refusal) (k : ℕ)
    → (first rs ≡ some k → first qs ≡ some k) → first ((a ⇒ n) ∷ rs) ≡ some k → first ((a ⇒ n) ∷ qs) ≡ some k
unfolding first
same_number true n rs qs k h e = e
same_number false n rs qs k h e = h e

-- by 12 where nothing else is tried
only-short : (r : Room) (n : ℕ) → first (after_lent r false []) ≡ some n → (short r ≡ true) × (n ≡ 12)
unfolding after_lent first
only-short r n e =
    both (short r)
    (λ t. (t, some-injective n 12 (sym e ∙ rw t refl)))
    (λ t. absurd (none-ne-some n (rw t at e)))

short-first : (r : Room) (b : Bool) (rs : List Refusal) (n : ℕ) → first (after_lent r false []) ≡ some n
    → first (after_lent r b rs) ≡ some n
unfolding after_lent first
short-first r b rs n e =
    let (t, q) = only-short r n (unfold after_lent first in e) in
    rw (t, q) refl

large-first : (r : Room) (b : Bool) (bs : List ℕ) (at n : ℕ)
    → first ((too_large bs ⇒ 18) ∷ after_lent r false []) ≡ some n → first (whole_refusals r b bs at) ≡ some n
unfolding whole_refusals
large-first r b bs at n e =
    same_number (too_large bs) 18 (after_lent r false []) (after_lent r (b && not (eqb at 0)) (record_checks bs at)) n
    (short-first r (b && not (eqb at 0)) (record_checks bs at) n) e

many-first : (r : Room) (b : Bool) (ws : List ℕ) (k n : ℕ)
    → first ((too_many ws k ⇒ 12) ∷ after_lent r false []) ≡ some n → first (list_refusals r b ws k) ≡ some n
unfolding list_refusals
many-first r b ws k n e =
    same_number (too_many ws k) 12 (after_lent r false []) (after_lent r b []) n (short-first r b [] n) e

pub opened-refused : (r : Room) (c : Call) (m : Lent) (n : ℕ) → first (opening r false c) ≡ some n
    → call_on r c m ≡ record { answer = answered (refused n); state = m }
unfolding opening call_on reply
opened-refused r (step s) m n e =
    let (t, q) = only-short r n e in
    rw (step-short r s m t, q) refl
opened-refused r (run_record bs at) m n e =
    unfold act_record as_reply in rw (large-first r (not (sound m)) bs at n e) refl
opened-refused r (ohms net i) m n e = unfold ohms_reply in rw (short-first r (not (sound m)) _ n e) refl
opened-refused r (lay_list ws k) m n e = unfold act_list in rw (many-first r (not (sound m)) ws k n e) refl

-- on one of the eight foils the number is not 23
pub opens-with : (r : Room) (k : ℕ) (c : Call) (n : ℕ) → k < sheet_foils → sheet_refusal r false k c ≡ some n
    → first (opening r false c) ≡ some n
unfolding sheet_refusal first
opens-with r k c n here e = rw (le-ltb 7 k (omega arith)) at e

-- ---- one call

module _ (c : SheetLending) (m : Sheet) (w : EightFoils m.boards m.table) where
  abbrev r : Room
  r = room_on c (counts m.boards) m

  abbrev x : SheetLent
  x = sheet_front c m

  -- the call on the sheet, past the refusals that it begins with
  abbrev called : After Reply SheetLent
  called = reply (sheet_step c.foil) r (not (sound (view c.foil x))) c.call (held (view c.foil x)) x

  front-counts : counts_ok (counts x.boards) ≡ true
  unfolding sheet_front
  front-counts = w.limits

  refused-call : (n : ℕ) → sheet_refusal r false c.foil c.call ≡ some n
      → lend_sheet c m ≡ record { answer = answered (refused n); state = m }
  unfolding lend_sheet called_on sheet_call unless
  refused-call n e =
      rw (front-counts, e)
      (ap {A = Sheet} {B = After Reply Sheet} (λ y. record { answer = answered (refused n); state = y })
      (back-front c m))

  passed-call : sheet_refusal r false c.foil c.call ≡ none
      → lend_sheet c m ≡ record { answer = called.answer; state = sheet_back c m called.state }
  unfolding lend_sheet called_on sheet_call unless
  passed-call e = rw (front-counts, e) refl

  -- past them, foil k is one of the eight and the lists are long enough
  module _ (e : sheet_refusal r false c.foil c.call ≡ none) where
    here : c.foil < sheet_foils
    here = (passed r false c.foil c.call e).here

    long : LongFront c m
    long = long-front c (counts m.boards) m (passed r false c.foil c.call e).long

    front_long : sheet_size ≤ length (take c.table_front m.table)
    front_long = omega (arith, length-take c.table_front m.table, long.table, w.places)

    stands : Stands r c.foil x
    unfolding sheet_front room_on sheet_room
    stands =
        record { whole = record { eight = w.eight; limits = w.limits; places = front_long }; limit = refl }

    after : Stands r c.foil called.state × Others c.foil x called.state
    after = call-others r c.foil here c.call x stands

    -- a foil of the whole sheet after the call
    tables-back : (j : ℕ)
        → table_at j called.state.boards (called.state.table ++ drop c.table_front m.table)
        ≡ table_at j called.state.boards called.state.table
    tables-back j =
        table-append j called.state.boards called.state.table _ after.0.whole.limits
        after.0.whole.places

    other-foils : (j : ℕ) → j ≢ c.foil → foil_of j (sheet_back c m called.state) ≡ foil_of j m
    unfolding foil_of sheet_back sheet_front
    other-foils j ne =
        rw (ne_eqb j c.foil ne)
        (ap₂ (λ (b : Board) (t : List ℕ). lent b t (m.strips j)) (after.1.boards j ne)
        (tables-back j ∙ after.1.tables j ne
        ∙ table-front j m.boards m.table c.table_front w.limits w.places long.table))

    past-stays : drop sheet_size (called.state.table ++ drop c.table_front m.table) ≡ drop sheet_size m.table
    unfolding sheet_front
    past-stays =
        drop-append-le sheet_size called.state.table _ after.0.whole.places
        ∙ ap (λ (t : List ℕ). t ++ drop c.table_front m.table) after.1.past
        ∙ sym (drop-append-le sheet_size (take c.table_front m.table) _ front_long)
        ∙ ap (drop sheet_size) (take-append-drop c.table_front m.table)

    back-eight : EightFoils (sheet_back c m called.state).boards (sheet_back c m called.state).table
    unfolding sheet_back
    back-eight =
        record {
          eight = after.0.whole.eight;
          limits = after.0.whole.limits;
          places =
              omega (
                arith,
                after.0.whole.places,
                length-append called.state.table (drop c.table_front m.table),
              );
        }

    passed-others : LeavesOthers c.foil m (lend_sheet c m).state
    passed-others =
        subst (λ (a : After Reply Sheet). LeavesOthers c.foil m a.state) (sym (passed-call e))
        (record { others = other-foils; past = unfold sheet_back in past-stays; still-eight = back-eight })

    -- ---- the foil that is called

    abbrev k : ℕ
    k = c.foil

    lent-long : ltb (length (take c.table_front m.table) / 5) sheet_entries ≡ false
    lent-long = le-ltb (length (take c.table_front m.table) / 5) sheet_entries (omega (arith, front_long))

    front-alone : front (alone_call c m) (foil_of k m) ≡ view k x
    unfolding front alone_call foil_of view sheet_front
    front-alone =
        rw lent-long
        (ap (λ (t : List ℕ). lent (get_or m.boards k no_board) t (take c.strip_front (m.strips k)))
        (take_all table_size (table_at k m.boards m.table)
        (omega (arith, table-size k m.boards m.table w.limits (omega (arith, here, w.eight))))
        ∙ sym (table-front k m.boards m.table c.table_front w.limits w.places long.table)))

    nothing-past : drop table_size (table_at k m.boards m.table) ≡ []
    nothing-past =
        ap (λ (n : ℕ). drop n (table_at k m.boards m.table))
        (sym (table-size k m.boards m.table w.limits (omega (arith, here, w.eight))))
        ∙ drop-length (table_at k m.boards m.table)

    back_alone : back (alone_call c m) (foil_of k m) (view k called.state) ≡ foil_of k (sheet_back c m called.state)
    unfolding back alone_call foil_of view sheet_back
    back_alone =
        rw (lent-long, eq-eqb k k refl, nothing-past, tables-back k, append-nil) refl

  refused-others : (n : ℕ) → sheet_refusal r false c.foil c.call ≡ some n
      → LeavesOthers c.foil m (lend_sheet c m).state
  refused-others n e =
      subst (λ (a : After Reply Sheet). LeavesOthers c.foil m a.state) (sym (refused-call n e))
      (record { others = λ j ne. refl; past = refl; still-eight = w })

  by-refusal : (o : Option ℕ) → sheet_refusal r false c.foil c.call ≡ o
      → LeavesOthers c.foil m (lend_sheet c m).state
  by-refusal (some n) e = refused-others n e
  by-refusal none e = passed-others e

  module _ (here : c.foil < sheet_foils) where
    -- the foil alone has the same room
    size : length (table_at c.foil m.boards m.table) ≡ table_size
    size = table-size c.foil m.boards m.table w.limits (omega (arith, here, w.eight))

    places-alone : (b : Bool) → length (take (cond b 0 table_size) (table_at c.foil m.boards m.table)) / 5
        ≡ cond b 0 max_entries
    places-alone true = refl
    places-alone false =
        ap (λ (t : List ℕ). length t / 5)
        (take_all table_size (table_at c.foil m.boards m.table) (omega (arith, size)))
        ∙ ap (λ (n : ℕ). n / 5) size

    room-alone : room_for (alone_call c m) (foil_of c.foil m) ≡ r
    unfolding room_for room_in front alone_call foil_of room_on sheet_room sheet_front
    room-alone =
        ap
        (λ (n : ℕ).
        record {
          table = n;
          strips = length (take c.strip_front (m.strips c.foil)) / 4;
          output = length c.output;
          limit = limit_of (counts m.boards) c.foil;
        })
        (places-alone (ltb (length (take c.table_front m.table) / 5) sheet_entries))

    abbrev a : Lending
    a = alone_call c m

    abbrev f : Lent
    f = foil_of c.foil m

    called-refused : (n : ℕ) → sheet_refusal r false c.foil c.call ≡ some n
        → call_on (room_for a f) a.call (front a f) ≡ record { answer = answered (refused n); state = front a f }
    unfolding alone_call
    called-refused n e =
        ap (λ (q : Room). call_on q c.call (front a f)) room-alone
        ∙ opened-refused r c.call (front a f) n (opens-with r c.foil c.call n here e)

    refused-alone : (n : ℕ) → sheet_refusal r false c.foil c.call ≡ some n
        → lend a f ≡ shown_by (foil_of c.foil) (lend_sheet c m)
    unfolding lend shown_by
    refused-alone n e =
        rw (called-refused n e, refused-call n e)
        (ap {A = Lent} {B = After Reply Lent} (λ y. record { answer = answered (refused n); state = y })
        (lists_back a f))

    called-alone : sheet_refusal r false c.foil c.call ≡ none
        → call_on (room_for a f) a.call (front a f) ≡ shown_by (view c.foil) called
    unfolding alone_call
    called-alone e =
        ap₂ (λ (q : Room) (y : Lent). call_on q c.call y) room-alone (front-alone e)
        ∙ call-view r c.foil here c.call x (stands e)

    passed-alone : sheet_refusal r false c.foil c.call ≡ none
        → lend a f ≡ shown_by (foil_of c.foil) (lend_sheet c m)
    unfolding lend shown_by
    passed-alone e =
        rw (called-alone e, passed-call e)
        (ap {A = Lent} {B = After Reply Lent} (λ y. record { answer = called.answer; state = y }) (back_alone e))

    by-opening : (o : Option ℕ) → sheet_refusal r false c.foil c.call ≡ o
        → lend a f ≡ shown_by (foil_of c.foil) (lend_sheet c m)
    by-opening (some n) e = refused-alone n e
    by-opening none e = passed-alone e

    -- the call on the foil alone
    lend-alone : lend a f ≡ shown_by (foil_of c.foil) (lend_sheet c m)
    lend-alone = by-opening (sheet_refusal r false c.foil c.call) refl

pub others-stay : OthersStay
others-stay c m w = by-refusal c m w (sheet_refusal (r c m w) false c.foil c.call) refl

-- ---- the whole list

module _ (k : ℕ) (here : k < sheet_foils) where
  -- the call on foil k, on the foil alone
  lend-here : (c : SheetLending) (m : Sheet) → EightFoils m.boards m.table → c.foil ≡ k
      → lend (alone_call c m) (foil_of k m) ≡ shown_by (foil_of k) (lend_sheet c m)
  lend-here c m w q =
      subst (λ (j : ℕ). lend (alone_call c m) (foil_of j m) ≡ shown_by (foil_of j) (lend_sheet c m)) q
      (lend-alone c m w (omega arith))

  alone-run : (cs : List SheetLending) (m : Sheet) → EightFoils m.boards m.table
      → left_of k m cs ≡ run_lent (foil_of k m) (alone_calls k m cs)
  unfolding left_of alone_calls run_lent leaves alone_call shown_by
  alone-run [] m w = refl
  alone-run (c ∷ cs) m w =
      let n : Sheet = (lend_sheet c m).state in
      let later = alone-run cs n (others-stay c m w).still-eight in
      both (eqb c.foil k)
      (λ e.
      rw (e, lend-here c m w (eqb-true c.foil k e))
      (ap
      (λ (os : List Left).
      record {
        reply = (lend_sheet c m).answer;
        lists = foil_of k n;
        output = output_by (lend_sheet c m).answer c.output;
      }
      ∷ os)
      later))
      -- a call on another foil is none of foil k's, and the next one finds the foil as it was
      (λ e.
      rw e
      (later
      ∙ ap (λ (f : Lent). run_lent f (alone_calls k n cs))
      ((others-stay c m w).others k (λ q. eqb-false c.foil k e (sym q)))))

pub foils-alone : FoilsAlone
foils-alone m cs k w here = alone-run k here cs m w

-- ---- what holds at every step

-- the call that begins the foil begins it alone
begins-alone : (m : Sheet) (c : SheetLending) (ls : List Lending) → EightFoils m.boards m.table
    → c.foil < sheet_foils → Begins c.call (lend_sheet c m).answer
    → Started (foil_of c.foil m) (held (foil_of c.foil m)) (alone_call c m ∷ ls)
unfolding told lend alone_call shown_by
begins-alone m c ls w here b =
    let f : Lent = foil_of c.foil m in
    let a : Lending = alone_call c m in
    let same : (lend_sheet c m).answer ≡ (call_on (room_for a f) c.call (front a f)).answer =
    sym (ap (λ (z : After Reply Lent). z.answer) (lend-alone c m w here)) in
    by_call f (held f) a ls
    (begins-told (room_for a f) (held f) (front a f) c.call (subst (Begins c.call) same b))

-- the list of calls on the foil alone starts where the list on the sheet does
started-alone : (m : Sheet) (cs : List SheetLending) (k : ℕ) → EightFoils m.boards m.table → k < sheet_foils
    → StartedOn k m cs → Started (foil_of k m) (held (foil_of k m)) (alone_calls k m cs)
unfolding alone_calls
started-alone _ _ _ w here (begins m c cs b) =
    rw (eq-eqb c.foil c.foil refl) (begins-alone m c (alone_calls c.foil (lend_sheet c m).state cs) w here b)
started-alone _ _ _ w here (carried k m cs g) = carried-alone (foil_of k m) (alone_calls k m cs) g

pub also-on-sheet : AlsoOnSheet
also-on-sheet P h m cs k w here s =
    h (foil_of k m) (held (foil_of k m)) (alone_calls k m cs) (started-alone m cs k w here s)

pub sheet-no-way : SheetNoWay
sheet-no-way = also-on-sheet NoWayAt no_way

pub sheet-lays-first : SheetLaysFirst
sheet-lays-first = also-on-sheet LaysFirstAt lays-first

pub sheet-lifts-back : SheetLiftsBack
sheet-lifts-back = also-on-sheet LiftsBackAt lifts-back

pub sheet-strips-right : SheetStripsRight
sheet-strips-right = also-on-sheet (λ j later. StripsRight j.ledger_after j.after) strips-stay-right

pub sheet-looks-up : SheetLooksUp
sheet-looks-up = also-on-sheet LooksUpAt looks-up

pub sheet-no-join : SheetNoJoin
sheet-no-join = also-on-sheet NoJoinAt no_join

pub sheet-joins-first : SheetJoinsFirst
sheet-joins-first = also-on-sheet JoinsFirstAt joins-first

pub sheet-tracks-apart : SheetTracksApart
sheet-tracks-apart = also-on-sheet TracksApartAt tracks-apart

pub sheet-joins-apart : SheetJoinsApart
sheet-joins-apart = also-on-sheet JoinsApartAt joins-apart

pub sheet-none-crossed : SheetNoneCrossed
sheet-none-crossed = also-on-sheet NoneCrossedAt none-crossed

pub sheet-turns-patch-down : SheetTurnsPatchDown
sheet-turns-patch-down = also-on-sheet TurnsPatchDownAt turns-patch-down

pub sheet-turns-leg-down : SheetTurnsLegDown
sheet-turns-leg-down = also-on-sheet TurnsLegDownAt turns-leg-down

pub sheet-join-bends : SheetJoinBends
sheet-join-bends = also-on-sheet JoinBendsAt join-bends

pub sheet-lifts-whole : SheetLiftsWhole
sheet-lifts-whole = also-on-sheet LiftsWholeAt lifts-whole-after

pub sheet-finds-no-way : SheetFindsNoWay
sheet-finds-no-way = also-on-sheet FindsNoWayAt finds-no-way

pub sheet-finds-first : SheetFindsFirst
sheet-finds-first = also-on-sheet FindsFirstAt finds-first

pub sheet-books-ways : SheetBooksWays
sheet-books-ways = also-on-sheet BooksWaysAt books-ways
