-- The file of a foil, read again.
use Prim.Native.Nat.{ℕ, zero, suc, ◌+◌, ◌≤◌, ◌<◌, min}
use native.Mathlib.Omega.{arith}
use mathlib.Core.Path.{◌≡◌, refl, sym, ap, ◌∙◌, subst}
use mathlib.Core.Bool.{Bool, true, false}
use mathlib.Core.List.{List, [], ◌∷◌, ◌++◌, append_assoc, append-nil}
use mathlib.Core.Logic.{inl}
use mathlib.Core.Option.{none, some}
use borrow.Author.Tests.{leb-true, le-leb, le-ltb}
use lib.ListN.{length, take, length-append}
use lib.Seq.{take-append-add}
use Rattle.foil_spec.specs.Lists.{range, all, any, each}
use Rattle.foil_spec.specs.Limits.{max_entries, max_bytes}
use Rattle.foil_spec.specs.Foil.{Entry, Layout, entry_ok, no_crossing, patch_margin}
use Rattle.foil_spec.specs.Saving.{two_bytes, board_bytes, entry_bytes, job_of}
use Rattle.foil_spec.specs.Ledger.{with_entries, too_long, is_too_fine, beginning_too_fine, Room, short, Answer, refused}
use Rattle.foil_spec.specs.Ledger.{accepted, number_of, After}
use Rattle.foil_spec.specs.Lent.{Lent, store, layout_ok}
use Rattle.foil_spec.specs.Calls.{RecordReply, ran_steps, end_mark, as_reply, too_large, record_on, answers_in, place_after}
use Rattle.foil_spec.specs.Calls.{read_from, read_job}
use Rattle.list_laws.proofs.Tests.{clash, both, or_l, or_r}
use Rattle.list_laws.proofs.Members.{in_left, in_right, of-all, to-all}
use Rattle.ledger_laws.specs.Saved.{entry_replies, all_accepted, last_place, refusal, record_answers}
use Rattle.ledger_laws.proofs.Crossing.{front-uncrossed}
use Rattle.ledger_laws.proofs.Rules.{of-ok, to-ok}
use Rattle.ledger_laws.proofs.Line.{new-fine}
use Rattle.ledger_laws.proofs.FileSize.{entry-size, file-size, file-small}
use Rattle.ledger_laws.proofs.SavedReplies.{said_of, left_of, board-call, entry-call, mark-call}

-- ---- replies that are all accepted

-- the end mark is met after the bytes of the entries
last-place : (es : List Entry) (at : ℕ) → last_place at (entry_replies at es) ≡ at + length (each entry_bytes es)
unfolding last_place entry_replies place_after
last-place [] at = omega arith
last-place (e ∷ es) at =
    omega (arith, last-place es (at + length (entry_bytes e)), length-append (entry_bytes e) (each entry_bytes es))

pub ends_last : (l : Layout) → last_place 0 (all_accepted l) + 1 ≡ length (job_of l)
unfolding last_place all_accepted place_after board_bytes two_bytes
ends_last l = omega (arith, last-place l.entries 11, file-size l)

none-refused : (es : List Entry) (at : ℕ) → any refusal (each record_answers (entry_replies at es)) ≡ false
unfolding entry_replies as_reply answers_in refusal number_of
none-refused [] at = refl
none-refused (e ∷ es) at = none-refused es (at + length (entry_bytes e))

pub all-accepted : (l : Layout) → any refusal (each record_answers (all_accepted l)) ≡ false
unfolding all_accepted as_reply answers_in refusal number_of
all-accepted l = none-refused l.entries (length (board_bytes l))

-- ---- one reply after the other

module _ (r : Room) (bs : List ℕ) where
  read_more : (n at p : ℕ) (m m' : Lent) (given : List Answer)
      → record_on r bs at m ≡ record { answer = ran_steps given (some p); state = m' }
      → read_from (record_on r) bs (suc n) (some at) m
      ≡ record {
        answer = ran_steps given (some p) ∷ (read_from (record_on r) bs n (some p) m').answer;
        state = (read_from (record_on r) bs n (some p) m').state;
      }
  unfolding read_from place_after
  read_more n at p m m' given e = rw e refl

  read_none : (n : ℕ) (m : Lent) → read_from (record_on r) bs n none m ≡ record { answer = []; state = m }
  unfolding read_from
  read_none zero m = refl
  read_none (suc n) m = refl

  read-mark : (n at : ℕ) (m : Lent) → record_on r bs at m ≡ record { answer = end_mark; state = m }
      → read_from (record_on r) bs (suc n) (some at) m ≡ record { answer = end_mark ∷ []; state = m }
  unfolding read_from place_after
  read-mark n at m e =
      rw e
      (ap (λ (a : After (List RecordReply) Lent). record { answer = end_mark ∷ a.answer; state = a.state })
      (read_none n m))

-- each entry has a byte at least
entries-count : (es : List Entry) → length es ≤ length (each entry_bytes es)
entries-count [] = omega arith
entries-count (e ∷ es) =
    omega (arith, length-append (entry_bytes e) (each entry_bytes es), (entry-size e).some_bytes, entries-count es)

-- ---- the records of a foil that keeps the rules, in a room that has place for its entries

module _ (r : Room) (long : short r ≡ false) (l : Layout) (g : layout_ok l ≡ true)
    (fits : length l.entries ≤ r.limit) (m : Lent) where
  few : length l.entries ≤ max_entries
  few = leb-true (length l.entries) max_entries (of-ok l g).long

  not-large : too_large (job_of l) ≡ false
  unfolding too_large
  not-large = le-ltb max_bytes (length (job_of l)) (omega (arith, file-small l few))

  -- the layout of some of the entries
  abbrev part : List Entry → Layout
  part es = with_entries l es

  not-long : (es : List Entry) → length es ≤ length l.entries → too_long r (part es) ≡ false
  unfolding too_long
  not-long es h = le-ltb (min max_entries r.limit) (length es) (omega (arith, few, fits, h))

  -- the beginning of n entries is too fine
  abbrev over : ℕ → Bool
  over n = is_too_fine (part (take n l.entries))

  -- the bytes `done` are read, the entries `front` are in the table, and `rest` are to come
  record Stage (done : List ℕ) (front rest : List Entry) : Type 0 where
    bytes : job_of l ≡ done ++ (each entry_bytes rest ++ (0 ∷ []))
    entries : l.entries ≡ front ++ rest
    later : 0 < length done
    fine : is_too_fine (part front) ≡ false

  module _ (done : List ℕ) (front rest : List Entry) (s : Stage done front rest) where
    stage-count : length l.entries ≡ length front + length rest
    stage-count = ap (λ (es : List Entry). length es) s.entries ∙ length-append front rest

    stage-ok : layout_ok (part front) ≡ true
    stage-ok =
        let k = of-ok l g in
        let is : Entry → Bool = entry_ok l.width l.height in
        to-ok _
        (record {
          width = k.width;
          height = k.height;
          pen = k.pen;
          entries =
              to-all is front
              (λ e h.
              of-all is e (front ++ rest) (subst (λ (es : List Entry). all is es ≡ true) s.entries k.entries)
              (in_left e front rest h));
          long = le-leb (length front) max_entries (omega (arith, few, stage-count));
          uncrossed =
              front-uncrossed (patch_margin l.pen) front rest
              (subst (λ (es : List Entry). no_crossing (patch_margin l.pen) es ≡ true) s.entries k.uncrossed);
          fine = s.fine;
        })

  module _ (done : List ℕ) (front es : List Entry) (e : Entry) (s : Stage done front (e ∷ es)) where
    bytes-here : job_of l ≡ done ++ (entry_bytes e ++ (each entry_bytes es ++ (0 ∷ [])))
    bytes-here =
        s.bytes ∙ ap (λ (bs : List ℕ). done ++ bs) (append_assoc (entry_bytes e) (each entry_bytes es) (0 ∷ []))

    stage-next : is_too_fine (part (front ++ e ∷ [])) ≡ false → Stage (done ++ entry_bytes e) (front ++ e ∷ []) es
    stage-next fine =
        record {
          bytes = bytes-here ∙ sym (append_assoc done (entry_bytes e) (each entry_bytes es ++ (0 ∷ [])));
          entries = s.entries ∙ sym (append_assoc front (e ∷ []) es);
          later = omega (arith, length-append done (entry_bytes e), s.later);
          fine = fine;
        }

    stage-call : (t : Bool) → is_too_fine (part (front ++ e ∷ [])) ≡ t
        → record_on r (job_of l) (length done) (store (part front) m)
        ≡ record {
          answer = ran_steps (said_of t ∷ []) (some (length done + length (entry_bytes e)));
          state = store (left_of t (part front) e) m;
        }
    stage-call t fine =
        let is : Entry → Bool = entry_ok l.width l.height in
        let rest : List ℕ = each entry_bytes es ++ (0 ∷ []) in
        ap (λ (bs : List ℕ). record_on r bs (length done) (store (part front) m)) bytes-here
        ∙ entry-call r long m done rest (part front) e t s.later (stage-ok done front (e ∷ es) s)
        (of-all is e (front ++ e ∷ es) (subst (λ (u : List Entry). all is u ≡ true) s.entries (of-ok l g).entries)
        (in_right e front (e ∷ es) (inl refl)))
        (front-uncrossed (patch_margin l.pen) (front ++ e ∷ []) es
        (subst (λ (u : List Entry). no_crossing (patch_margin l.pen) u ≡ true)
        (s.entries ∙ sym (append_assoc front (e ∷ []) es)) (of-ok l g).uncrossed))
        (not-long (front ++ e ∷ [])
        (omega (arith, stage-count done front (e ∷ es) s, length-append front (e ∷ []))))
        fine
        (subst (λ (bs : List ℕ). too_large bs ≡ false) bytes-here not-large)

    -- the beginning that is one entry longer
    over-here : over (suc (length front)) ≡ is_too_fine (part (front ++ e ∷ []))
    over-here =
        let one : suc (length front) ≡ length front + 1 = omega arith in
        ap (λ (n : ℕ). over n) one
        ∙ ap (λ (u : List Entry). is_too_fine (part (take (length front + 1) u))) s.entries
        ∙ ap (λ (u : List Entry). is_too_fine (part u)) (take-append-add front (e ∷ es) 1)

    -- the longer ones
    over-later : (t : Bool) → any over (range (suc (suc (length front))) (length es)) ≡ t
        → any over (range (suc (length (front ++ e ∷ []))) (length es)) ≡ t
    over-later t h =
        let one : suc (length front) ≡ length (front ++ e ∷ []) = omega (arith, length-append front (e ∷ [])) in
        subst (λ (n : ℕ). any over (range (suc n) (length es)) ≡ t) one h

    -- what is read after an entry that is accepted
    read-on : (n : ℕ) → is_too_fine (part (front ++ e ∷ [])) ≡ false
        → read_from (record_on r) (job_of l) (suc n) (some (length done)) (store (part front) m)
        ≡ record {
          answer =
              ran_steps (accepted ∷ []) (some (length done + length (entry_bytes e)))
              ∷ (read_from (record_on r) (job_of l) n (some (length (done ++ entry_bytes e)))
              (store (part (front ++ e ∷ [])) m)
              ).answer;
          state =
              (read_from (record_on r) (job_of l) n (some (length (done ++ entry_bytes e)))
              (store (part (front ++ e ∷ [])) m)).state;
        }
    read-on n fine =
        rw length-append
        (read_more r (job_of l) n (length done) (length done + length (entry_bytes e)) (store (part front) m)
        (store (part (front ++ e ∷ [])) m) (accepted ∷ []) (stage-call false fine))

  -- every beginning is fine
  read_all : (es front : List Entry) (done : List ℕ) (n : ℕ) → Stage done front es → length es ≤ n
      → any over (range (suc (length front)) (length es)) ≡ false
      → read_from (record_on r) (job_of l) (suc n) (some (length done)) (store (part front) m)
      ≡ record { answer = entry_replies (length done) es; state = store l m }
  unfolding entry_replies
  read_all [] front done n s h fine =
      let whole : front ≡ l.entries = sym (s.entries ∙ append-nil front) in
      read-mark r (job_of l) n (length done) (store (part front) m)
      (ap (λ (bs : List ℕ). record_on r bs (length done) (store (part front) m)) s.bytes
      ∙ mark-call r long m done (part front) s.later (stage-ok done front [] s)
      (subst (λ (bs : List ℕ). too_large bs ≡ false) s.bytes not-large))
      ∙ ap (λ (u : List Entry). record { answer = end_mark ∷ []; state = store (part u) m }) whole
  read_all (e ∷ es) front done zero s h fine = absurd (omega arith)
  read_all (e ∷ es) front done (suc n) s h fine =
      let later : List ℕ = done ++ entry_bytes e in
      let here = sym (over-here done front es e s) ∙ or_l (over (suc (length front))) _ fine in
      let longer = over-later done front es e s false (or_r (over (suc (length front))) _ fine) in
      read-on done front es e s (suc n) here
      ∙ ap (λ (a : After (List RecordReply) Lent).
      record {
        answer = ran_steps (accepted ∷ []) (some (length done + length (entry_bytes e))) ∷ a.answer;
        state = a.state;
      })
      (read_all es (front ++ e ∷ []) later n (stage-next done front es e s here) (omega arith) longer)
      ∙ ap (λ (p : ℕ).
      record {
        answer = ran_steps (accepted ∷ []) (some (length done + length (entry_bytes e))) ∷ entry_replies p es;
        state = store l m;
      })
      (length-append done (entry_bytes e))

  -- some beginning is too fine
  read-11 : (es front : List Entry) (done : List ℕ) (n : ℕ) → Stage done front es → length es ≤ n
      → any over (range (suc (length front)) (length es)) ≡ true
      → any refusal
      (each record_answers (read_from (record_on r) (job_of l) (suc n) (some (length done)) (store (part front) m)).answer)
      ≡ true
  unfolding as_reply answers_in refusal number_of
  read-11 [] front done n s h fine = clash fine refl
  read-11 (e ∷ es) front done zero s h fine = absurd (omega arith)
  read-11 (e ∷ es) front done (suc n) s h fine =
      both (is_too_fine (part (front ++ e ∷ [])))
      (λ t.
      rw
      (read_more r (job_of l) (suc n) (length done) (length done + length (entry_bytes e)) (store (part front) m)
      (store (part front) m) (refused 11 ∷ []) (stage-call done front es e s true t))
      refl)
      (λ t.
      rw (read-on done front es e s (suc n) t)
      (read-11 es (front ++ e ∷ []) (done ++ entry_bytes e) n (stage-next done front es e s t) (omega arith)
      (over-later done front es e s true (rw (over-here done front es e s ∙ t) at fine))))

  -- ---- from the board on

  start : Stage (board_bytes l) [] l.entries
  start =
      record {
        bytes = unfold job_of in refl;
        entries = refl;
        later = unfold board_bytes in omega arith;
        fine = new-fine l.width l.height l.pen;
      }

  -- one record fewer than may follow the board's
  abbrev more : ℕ
  more = length (each entry_bytes l.entries) + 10

  after-board : read_job (record_on r) (job_of l) m
      ≡ record {
        answer =
            ran_steps (accepted ∷ []) (some (length (board_bytes l)))
            ∷ (read_from (record_on r) (job_of l) (suc more) (some (length (board_bytes l))) (store (part []) m)).answer;
        state = (read_from (record_on r) (job_of l) (suc more) (some (length (board_bytes l))) (store (part []) m)).state;
      }
  unfolding read_job job_of
  after-board =
      let count : length (job_of l) ≡ suc (suc more) = omega (arith, file-size l) in
      ap (λ (n : ℕ). read_from (record_on r) (job_of l) n (some 0) m) count
      ∙ read_more r (job_of l) (suc more) 0 (length (board_bytes l)) m (store (part []) m) (accepted ∷ [])
      (board-call r long m (each entry_bytes l.entries ++ (0 ∷ [])) l g not-large)

  -- the empty beginning is fine
  from_one : any over (range 1 (length l.entries)) ≡ beginning_too_fine l
  unfolding beginning_too_fine
  from_one = rw start.fine refl

  pub reads_all : beginning_too_fine l ≡ false
      → read_job (record_on r) (job_of l) m ≡ record { answer = all_accepted l; state = store l m }
  unfolding all_accepted
  reads_all b =
      after-board
      ∙ ap (λ (a : After (List RecordReply) Lent).
      record { answer = ran_steps (accepted ∷ []) (some (length (board_bytes l))) ∷ a.answer; state = a.state })
      (read_all l.entries [] (board_bytes l) more start (omega (arith, entries-count l.entries)) (from_one ∙ b))

  -- a step of the file is refused exactly when some beginning is too fine
  pub refuses : any refusal (each record_answers (read_job (record_on r) (job_of l) m).answer) ≡ beginning_too_fine l
  unfolding as_reply answers_in refusal number_of
  refuses =
      both (beginning_too_fine l)
      (λ b.
      rw after-board
      (read-11 l.entries [] (board_bytes l) more start (omega (arith, entries-count l.entries)) (from_one ∙ b))
      ∙ sym b)
      (λ b. rw (reads_all b) (all-accepted l ∙ sym b))
