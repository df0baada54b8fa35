-- In a list of calls on a sheet, find and book in the place of a lay.
use Prim.Native.Nat.{ℕ, ◌*◌}
use native.Mathlib.Omega.{arith}
use mathlib.Core.Path.{◌≡◌, refl, sym, ap, ◌∙◌}
use mathlib.Core.Bool.{true, false, not}
use mathlib.Core.List.{List, ◌∷◌}
use mathlib.Core.Option.{Option, none, some}
use lib.ListN.{length, take}
use Rattle.foil_spec.specs.Foil.{Point}
use Rattle.foil_spec.specs.Ledger.{Room, short, Step, lay, find, book, Answer, laid, booked, says, After}
use Rattle.foil_spec.specs.Ledger.{after_lent, settle, refusal_of}
use Rattle.foil_spec.specs.Lent.{Lent, held, sound, step_on, output_after}
use Rattle.foil_spec.specs.Calls.{Call, step, Reply, answered, reply, output_by}
use Rattle.foil_spec.specs.Sheet.{counts_ok, SheetLent, counts, view, put_back, sheet_room, writes, sheet_step, opening}
use Rattle.foil_spec.specs.Sheet.{sheet_refusal, unless, sheet_call, Sheet, SheetLending, sheet_front, sheet_back, room_on}
use Rattle.foil_spec.specs.Sheet.{called_on, lend_sheet, SheetLeft, leaves_sheet, run_sheet}
use Rattle.ledger_laws.proofs.Refusals.{none-applies}
use Rattle.ledger_laws.proofs.Lay.{lay-seeks, laid_on}
use Rattle.ledger_laws.proofs.Drawn.{lays-as-booked}
use Rattle.sheet_laws.specs.Drawn.{in_place_of, FindsAndBooks}
use Rattle.sheet_laws.proofs.Lending.{back-front}

-- ---- a step on a foil of a sheet, and on the foil alone

same_answer : {A B : Type 0} (o : Option ℕ) (a : Answer) (new old : A) (new' old' : B)
    → (settle o (record { answer = a; state = new }) old).answer
    ≡ (settle o (record { answer = a; state = new' }) old').answer
unfolding settle
same_answer none a new old new' old' = refl
same_answer (some n) a new old new' old' = refl

module _ (k : ℕ) (r : Room) (s : Step) (y : SheetLent) where
  -- it answers the same
  answer-alone : (sheet_step k r s y).answer ≡ (step_on r s (view k y)).answer
  unfolding sheet_step step_on
  answer-alone = same_answer (refusal_of r (not (sound (view k y))) s (held (view k y))) _ _ _ _ _

  -- a step that writes no entries leaves the sheet
  still-on : writes s ≡ false → (sheet_step k r s y).state ≡ y
  unfolding sheet_step
  still-on w = rw w (go (refusal_of r (not (sound (view k y))) s (held (view k y))))
    where
      go : (o : Option ℕ) → (settle o (record { answer = says s (held (view k y)); state = y }) y).state ≡ y
      go none = unfold settle in refl
      go (some n) = unfold settle in refl

  -- one that writes them and is accepted puts the foil back
  put_on : writes s ≡ true → refusal_of r (not (sound (view k y))) s (held (view k y)) ≡ none
      → (sheet_step k r s y).state ≡ put_back k y (step_on r s (view k y)).state
  unfolding sheet_step step_on settle
  put_on w e = rw (w, e) refl

  -- by a call that is not refused before the foil is looked at
  call-is : sheet_refusal r (not (counts_ok (counts y.boards))) k (step s) ≡ none
      → sheet_call r k (step s) y
      ≡ record { answer = answered (sheet_step k r s y).answer; state = (sheet_step k r s y).state }
  unfolding sheet_call unless reply
  call-is e = rw e refl

  unless-laid : (o : Option ℕ) (done : After Reply SheetLent) (cs : List Point) (n : ℕ)
      → (unless o done y).answer ≡ answered (laid cs n) → o ≡ none
  unfolding unless
  unless-laid none done cs n h = refl
  unless-laid (some j) done cs n h = absurd (let z : ◌≡◌ {A = ℕ} 0 1 = cc in omega arith)

  laid-passes : (cs : List Point) (n : ℕ) → (sheet_call r k (step s) y).answer ≡ answered (laid cs n)
      → sheet_refusal r (not (counts_ok (counts y.boards))) k (step s) ≡ none
  unfolding sheet_call
  laid-passes cs n h = unless-laid _ _ cs n h

settled-booked : {A : Type 0} (o : Option ℕ) (a : Answer) (i n : ℕ) (new old : A)
    → (settle o (record { answer = a; state = new }) old).answer ≡ booked i n → o ≡ none
unfolding settle
settled-booked none a i n new old h = refl
settled-booked (some x) a i n new old h = absurd (let z : ◌≡◌ {A = ℕ} 0 1 = cc in omega arith)

booked-on : (r : Room) (s : Step) (m : Lent) (i n : ℕ) → (step_on r s m).answer ≡ booked i n
    → refusal_of r (not (sound m)) s (held m) ≡ none
unfolding step_on
booked-on r s m i n h = settled-booked (refusal_of r (not (sound m)) s (held m)) _ i n _ _ h

-- ---- the calls

module _ (x : Sheet) (c : SheetLending) (net : ℕ) (S T : Point) (ds : List Point) (n : ℕ)
    (is : c.call ≡ step (lay net S T)) (laid-it : (lend_sheet c x).answer ≡ answered (laid ds n)) where
  abbrev k : ℕ
  k = c.foil

  -- what each of them is lent
  abbrev y : SheetLent
  y = sheet_front c x

  -- the room with an output list of so many numbers
  abbrev room : ℕ → Room
  room i = sheet_room k (counts x.boards) y i

  abbrev r : Room
  r = room (length c.output)

  lay-called : (sheet_call r k (step (lay net S T)) y).answer ≡ answered (laid ds n)
  unfolding lend_sheet called_on room_on
  lay-called = ap (λ (j : Call). (sheet_call r k j y).answer) (sym is) ∙ laid-it

  lay-passes : sheet_refusal r (not (counts_ok (counts y.boards))) k (step (lay net S T)) ≡ none
  lay-passes = laid-passes k r (lay net S T) y ds n lay-called

  -- what is tried before the foil is looked at is the same for every step and every output list
  passes : (s : Step) (i : ℕ) → sheet_refusal (room i) (not (counts_ok (counts y.boards))) k (step s) ≡ none
  unfolding sheet_refusal opening after_lent short sheet_room
  passes s i = lay-passes

  long : (i : ℕ) → short (room i) ≡ false
  unfolding sheet_refusal opening after_lent
  long i = let e = passes (lay net S T) i in search none-applies

  laid-alone : (step_on r (lay net S T) (view k y)).answer ≡ laid ds n
  laid-alone =
      let q : answered (sheet_step k r (lay net S T) y).answer ≡ answered (laid ds n) =
      ap (λ (a : After Reply SheetLent). a.answer) (sym (call-is k r (lay net S T) y lay-passes)) ∙ lay-called in
      let e : (sheet_step k r (lay net S T) y).answer ≡ laid ds n = cc in
      sym (answer-alone k r (lay net S T) y) ∙ e

  -- the numbers of the corners, as they stand at the front of the output list
  abbrev ks : List ℕ
  ks = take (length ds * 2) (output_by (answered (laid ds n)) c.output)

  module _ (out : List ℕ) where
    two : (step_on r (find S T) (view k y) ≡ record { answer = laid ds n; state = view k y })
        × (step_on (room (length out)) (book net ks) (view k y)
        ≡ record { answer = booked (length ds) n; state = (step_on r (lay net S T) (view k y)).state })
    unfolding output_by sheet_room
    two = lays-as-booked r (room (length out)) (view k y) c.output net S T ds n laid-alone (long (length out)) refl

    -- what a step in the place of the lay does
    called-there : (s : Step) (o : List ℕ)
        → lend_sheet (in_place_of c s o) x
        ≡ record {
          answer = answered (sheet_step k (room (length o)) s y).answer;
          state = sheet_back c x (sheet_step k (room (length o)) s y).state;
        }
    unfolding lend_sheet called_on room_on sheet_front sheet_back
    called-there s o =
        ap
        (λ (a : After Reply SheetLent). record { answer = a.answer; state = sheet_back c x a.state })
        (call-is k (room (length o)) s y (passes s (length o)))

    found-there : lend_sheet (in_place_of c (find S T) c.output) x ≡ record { answer = answered (laid ds n); state = x }
    found-there =
        called-there (find S T) c.output
        ∙ (λ i.
        record {
          answer =
              answered ((answer-alone k r (find S T) y ∙ ap (λ (a : After Answer Lent). a.answer) two.0) i);
          state = (ap (sheet_back c x) (still-on k r (find S T) y (unfold writes in refl)) ∙ back-front c x) i;
        })

    lay-state : (lend_sheet c x).state ≡ sheet_back c x (put_back k y (step_on r (lay net S T) (view k y)).state)
    unfolding lend_sheet called_on room_on
    lay-state =
        ap (λ (j : Call). sheet_back c x (sheet_call r k j y).state) is
        ∙ ap (λ (a : After Reply SheetLent). sheet_back c x a.state) (call-is k r (lay net S T) y lay-passes)
        ∙ ap (sheet_back c x)
        (put_on k r (lay net S T) y (unfold writes in refl)
        (laid_on (lay-seeks net S T) r (view k y) ds n laid-alone).unrefused)

    booked-there : lend_sheet (in_place_of c (book net ks) out) x
        ≡ record { answer = answered (booked (length ds) n); state = (lend_sheet c x).state }
    booked-there =
        let q : Room = room (length out) in
        let told : (step_on q (book net ks) (view k y)).answer ≡ booked (length ds) n =
        ap (λ (a : After Answer Lent). a.answer) two.1 in
        called-there (book net ks) out
        ∙ (λ i.
        record {
          answer = answered ((answer-alone k q (book net ks) y ∙ told) i);
          state =
              (ap (sheet_back c x)
              (put_on k q (book net ks) y (unfold writes in refl)
              (booked-on q (book net ks) (view k y) (length ds) n told)
              ∙ ap (λ (a : After Answer Lent). put_back k y a.state) two.1)
              ∙ sym lay-state) i;
        })

    run-two : (cs : List SheetLending)
        → run_sheet x (in_place_of c (find S T) c.output ∷ in_place_of c (book net ks) out ∷ cs)
        ≡ record {
          reply = answered (laid ds n);
          sheet = x;
          output = output_by (answered (laid ds n)) c.output;
        }
        ∷ record { reply = answered (booked (length ds) n); sheet = (lend_sheet c x).state; output = out }
        ∷ run_sheet (lend_sheet c x).state cs
    unfolding run_sheet leaves_sheet
    run-two cs = rw (found-there, booked-there) (unfold output_by output_after in refl)

pub finds-and-books : FindsAndBooks
unfolding run_sheet leaves_sheet
finds-and-books x c cs o os net S T ds n out is e h =
    let first : leaves_sheet c (lend_sheet c x).answer (lend_sheet c x).state ≡ o = cc in
    let rest : run_sheet (lend_sheet c x).state cs ≡ os = cc in
    let laid-it : (lend_sheet c x).answer ≡ answered (laid ds n) = ap (λ (z : SheetLeft). z.reply) first ∙ h in
    let sheet-is : o.sheet ≡ (lend_sheet c x).state = ap (λ (z : SheetLeft). z.sheet) (sym first) in
    let output-is : o.output ≡ output_by (answered (laid ds n)) c.output =
    ap (λ (z : SheetLeft). z.output) (sym first) ∙ ap (λ (a : Reply). output_by a c.output) laid-it in
    rw (output-is, sheet-is, h, ← rest) (run-two x c net S T ds n is laid-it out cs)
