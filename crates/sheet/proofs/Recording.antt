-- A record on a foil of a sheet: its checks, whether one of its steps was accepted, and its end.
use Prim.Native.Nat.{ℕ, zero, suc, ◌+◌, ◌≤◌, ◌<◌}
use native.Mathlib.Omega.{arith}
use mathlib.Core.Path.{◌≡◌, refl, sym, ap, ◌∙◌, subst}
use mathlib.Core.Bool.{Bool, true, false, not, ◌||◌, and-true, or-false, or_assoc}
use mathlib.Core.List.{List, [], ◌∷◌}
use mathlib.Core.Option.{Option, none, some}
use lib.ListN.{length, take}
use lib.Seq.{take_all}
use borrow.Author.Tests.{lt-ltb, le-ltb, ltb-false, ne_eqb}
use Rattle.foil_spec.specs.Lists.{any}
use Rattle.foil_spec.specs.Limits.{table_size, max_bytes, sheet_foils}
use Rattle.foil_spec.specs.Ledger.{Room, short, Answer, first, after_lent, After}
use Rattle.foil_spec.specs.Lent.{Lent, lent, sound, room_in, step_on, output_after}
use Rattle.foil_spec.specs.Job.{step_bits, has, record_steps, steps, is_end, record_end, record_checks}
use Rattle.foil_spec.specs.Calls.{run_record, RecordReply, refused_whole, Reply, as_reply, too_large, act_all, act_record}
use Rattle.foil_spec.specs.Calls.{whole_refusals, reply, call_on, record_on, answers_in, output_all, output_by}
use Rattle.foil_spec.specs.Sheet.{counts_ok, limit_of, SheetLent, counts, view, sheet_room, opening}
use Rattle.foil_spec.specs.Sheet.{sheet_refusal, unless, sheet_call}
use Rattle.foil_spec.specs.declared.Board.{Board}
use Rattle.std.specs.Prelude.{Ok, Err}
use Rattle.foil.specs.Contract.{Checked, LentChecked}
use Rattle.list_laws.proofs.Tests.{both}
use Rattle.job.specs.Contract.{Reply as JobReply, set_below, said_at, told_at, by_bit, answers_of, reply_of, Replies, RecordIn}
use Rattle.job.specs.Parts.{Lends, ran_to}
use Rattle.job.proofs.Acting.{ran-few}
use Rattle.sheet_laws.specs.Answers.{taken}
use Rattle.sheet_laws.specs.Back.{writing, rewrote}
use Rattle.sheet_laws.proofs.Alone.{room-view}
use Rattle.sheet_rows.specs.Rows.{sheet_lent}
use Rattle.sheet_rows.specs.declared.Sheet.{Sheet}
use Rattle.sheet.specs.Contract.{on_sheet, Continues, SheetRecordDone}
use Rattle.sheet.specs.Parts.{Foil, sheet_opening, TakenOut, Lending, refused_on, RecordLending, took, some_took, took_any}
use Rattle.sheet.specs.Parts.{RecordChecked, Closable, Closed}
use Rattle.sheet.proofs.Checking.{room, refused-on, out-long, foil-is, own_first}
use Rattle.sheet.proofs.Closing.{accepts-taken, answers, may-close, leaves}

-- ---- 23, 18, and the checks that other calls begin with too

module _ (k : ℕ) (m : SheetLent) (bs : List ℕ) where
  pub record-no-foil : sheet_foils ≤ k → (rows : List ℕ) → RecordLending k m bs rows (Err 23)
  unfolding sheet_refusal first
  record-no-foil l rows at output = refused-on k m (run_record bs at) output 23 (rw (lt-ltb 7 k (omega arith)) refl)

  module _ (here : k < sheet_foils) where
    pub record-large : max_bytes < length bs → (rows : List ℕ) → RecordLending k m bs rows (Err 18)
    unfolding sheet_refusal opening first too_large
    record-large l rows at output =
        refused-on k m (run_record bs at) output 18 (rw (le-ltb 7 k (omega arith), lt-ltb max_bytes (length bs) l) refl)

    module _ (few : length bs ≤ max_bytes) where
      small : too_large bs ≡ false
      unfolding too_large
      small = le-ltb max_bytes (length bs) few

      record-opening : (at output : ℕ)
          → sheet_refusal (room k m output) (not (counts_ok (counts m.boards))) k (run_record bs at)
          ≡ first (sheet_opening k m)
      unfolding sheet_refusal opening first after_lent short sheet_room
      record-opening at output = rw small refl

      pub record-lending : (rows : List ℕ) (x : Foil) → Lending k m rows x → RecordLending k m bs rows x
      record-lending rows (Ok b) h = (h, small)
      record-lending rows (Err n) h =
          λ at output. refused-on k m (run_record bs at) output n (record-opening at output ∙ h)

  module _ (rows : List ℕ) (x : Foil) where
    pub record-out : RecordLending k m bs rows x → (b : Board) → x ≡ Ok b
        → TakenOut k m rows b × (too_large bs ≡ false)
    record-out h b e = subst (RecordLending k m bs rows) e h

    pub record-not-out : RecordLending k m bs rows x → (n : ℕ) → x ≡ Err n → (at output : ℕ)
        → on_sheet k (run_record bs at) m output ≡ refused_on n m
    record-not-out h n e = subst (RecordLending k m bs rows) e h

-- ---- the foil's own 13

pub at-start : (k at : ℕ) (m : SheetLent) → at ≡ 0 → Continues k at m
at-start k at m z = record { fine = λ ne. absurd (ne z) }

module _ (k : ℕ) (m : SheetLent) (bs rows : List ℕ) (b : Board) (o : TakenOut k m rows b) (few : too_large bs ≡ false)
  where
    -- no record of the bytes is refused before the foil is looked at
    pub record-goes : (at output : ℕ) → sheet_refusal (room k m output) false k (run_record bs at) ≡ none
    unfolding sheet_refusal opening after_lent first
    record-goes at output = let l = o.here in rw (le-ltb 7 k (omega arith), few, out-long k m rows b o output) refl

    -- the body is run where 13 need not be tried
    pub record-lends : (at : ℕ) → Continues k at m → table_size ≤ length rows → Lends bs at (lent b rows m.strips)
    unfolding too_large
    record-lends at c long =
        record {
          few = ltb-false max_bytes (length bs) few;
          table = long;
          strips = o.strips;
          fine = λ later. ap sound (foil-is k m rows b o) ∙ c.fine later;
        }

    own-refused : (at : ℕ) → (at ≡ 0 → ⊥) → (n : ℕ) → LentChecked (view k m) (Err n)
        → RecordChecked k m bs at (Err n)
    unfolding sheet_call unless reply act_record as_reply whole_refusals first
    own-refused at later n h output =
        rw (
          o.eight-foils.limits,
          record-goes at output,
          few,
          ne_eqb at 0 later,
          and-true (not (sound (view k m))),
          own_first k m rows b o n h output (record_checks bs at),
        )
        refl

    -- what `lent_refusal` answers of the foil that was taken out
    pub record-checked : (at : ℕ) → (at ≡ 0 → ⊥) → (x : Checked) → LentChecked (lent b rows m.strips) x
        → RecordChecked k m bs at x
    record-checked at later (Ok u) h =
        record { fine = λ ne. ap sound (sym (foil-is k m rows b o)) ∙ h }
    record-checked at later (Err n) h =
        own-refused at later n
        (subst (λ (v : Lent). LentChecked v (Err n)) (foil-is k m rows b o) h)

module _ (k : ℕ) (m : SheetLent) (bs : List ℕ) (at : ℕ) (x : Checked) (h : RecordChecked k m bs at x) where
  pub continues : (u : Unit {0}) → x ≡ Ok u → Continues k at m
  continues u e = subst (RecordChecked k m bs at) e h

  pub refused-so : (n : ℕ) → x ≡ Err n → (output : ℕ)
      → on_sheet k (run_record bs at) m output ≡ refused_on n m
  refused-so n e = subst (RecordChecked k m bs at) e h

-- ---- whether a step was accepted, by the list of answers

-- one answer more
took-next : (given : List Answer) (i : ℕ)
    → any taken (take (suc i) given) ≡ (any taken (take i given) || took (said_at given i))
unfolding said_at took
took-next [] zero = refl
took-next [] (suc i) = refl
took-next (a ∷ given) zero = or-false (taken a) ∙ sym (accepts-taken a)
took-next (a ∷ given) (suc i) =
    ap (λ (y : Bool). taken a || y) (took-next given i)
    ∙ sym (or_assoc (taken a) (any taken (take i given)) (took (said_at given i)))

module _ (on : ℕ → Bool) (given : List Answer) where
  -- those of the bits below k
  abbrev took_below : ℕ → Bool
  took_below k = any taken (take (set_below on k) given)

  one_bit : (k : ℕ) → took_below (suc k) ≡ (took_below k || took (told_at on given k))
  unfolding set_below told_at took
  one_bit k =
      both (on k)
      (λ e.
      let q : set_below on k + 1 ≡ suc (set_below on k) = omega arith in
      rw (e, q) (took-next given (set_below on k)))
      (λ e.
      let q : set_below on k + 0 ≡ set_below on k = omega arith in
      rw (e, q) (sym (or-false (took_below k))))

  all-bits : took_below step_bits ≡ some_took (answers_of on given)
  unfolding some_took answers_of by_bit
  all-bits =
      one_bit 4
      ∙ ap (λ (y : Bool). y || took (told_at on given 4)) (one_bit 3)
      ∙ ap (λ (y : Bool). (y || took (told_at on given 3)) || took (told_at on given 4)) (one_bit 2)
      ∙ ap
      (λ (y : Bool). ((y || took (told_at on given 2)) || took (told_at on given 3)) || took (told_at on given 4))
      (one_bit 1)
      ∙ ap
      (λ (y : Bool).
      (((y || took (told_at on given 1)) || took (told_at on given 2)) || took (told_at on given 3))
      || took (told_at on given 4))
      (one_bit 0)
      ∙ unfold set_below in simp or_assoc

  pub some-taken : length given ≤ set_below on step_bits → some_took (answers_of on given) ≡ any taken given
  some-taken few = sym all-bits ∙ ap (any taken) (take_all (set_below on step_bits) given few)

module _ (r : Room) (bs : List ℕ) (at : ℕ) (v : Lent) where
  ran-took : some_took (answers_of (has bs at) (act_all (step_on r) (steps bs at) v).answer)
      ≡ any taken (act_all (step_on r) (steps bs at) v).answer
  unfolding steps record_steps
  ran-took = some-taken (has bs at) (ran_to r bs at step_bits v).answer (ran-few bs at r v step_bits)

  took-whole : (o : Option ℕ) (e : Bool) (p : ℕ)
      → took_any (reply_of (has bs at) (act_record (step_on r) o e (steps bs at) p v).answer)
      ≡ any taken (answers_in (as_reply (act_record (step_on r) o e (steps bs at) p v).answer))
  unfolding act_record as_reply reply_of took_any answers_in taken
  took-whole (some n) e p = refl
  took-whole none true p = refl
  took-whole none false p = ran-took

  record-took : took_any (reply_of (has bs at) (record_on r bs at v).answer)
      ≡ rewrote (run_record bs at) (call_on r (run_record bs at) v).answer
  unfolding call_on reply record_on rewrote writing
  record-took = took-whole (first (whole_refusals r (not (sound v)) bs at)) (is_end bs at) (record_end bs at)

-- ---- the end

module _ (k : ℕ) (sheet : Sheet) (t s bs : List ℕ) (at : ℕ) (out : List ℕ) where
  abbrev m : SheetLent
  m = sheet_lent sheet.boards t s

  abbrev n : ℕ
  n = length out

  pub record-refused : (i : ℕ) → on_sheet k (run_record bs at) m n ≡ refused_on i m
      → SheetRecordDone k bs at m out (Err i) sheet t s out
  unfolding as_reply reply_of output_by answers_in output_all output_after
  record-refused i e =
      record {
        tells = record { came_to = refused_whole i; is = rw e refl; reply = refl };
        state = rw e refl;
        output = rw e refl;
      }

  module _ (rows : List ℕ) (b : Board) (o : TakenOut k m rows b) (few : too_large bs ≡ false) (limit : ℕ)
      (most : limit ≡ limit_of (counts sheet.boards) k) (r : JobReply) (b' : Board) (rows' s' out' : List ℕ)
      (e : RecordIn limit bs at (lent b rows s) out r b' rows' s' out') where
    goes : sheet_refusal (room k m n) false k (run_record bs at) ≡ none
    goes = record-goes k m bs rows b o few at n

    -- what it does to the foil alone
    abbrev alone : After RecordReply Lent
    alone = record_on (room k m n) bs at (view k m)

    -- its call's reply
    abbrev called : After Reply Lent
    called = call_on (room k m n) (run_record bs at) (view k m)

    on-view : Replies (has bs at) alone out r b' rows' s' out'
    on-view =
        subst (λ (q : Room). Replies (has bs at) (record_on q bs at (view k m)) out r b' rows' s' out')
        (ap (λ (i : ℕ). room_in i (view k m) n) most ∙ sym (room-view k m n o.eight-foils o.here))
        (subst
        (λ (v : Lent). Replies (has bs at) (record_on (room_in limit v n) bs at v) out r b' rows' s' out')
        (foil-is k m rows b o) e)

    did-is : took_any r ≡ rewrote (run_record bs at) called.answer
    did-is = ap took_any on-view.reply ∙ record-took (room k m n) bs at (view k m)

    left_is : lent b' rows' s' ≡ called.state
    unfolding call_on reply record_on
    left_is = rw (on-view.board, on-view.table, on-view.strips) refl

    module _ (did : Bool) (f : did ≡ took_any r) where
      pub record-closable : table_size ≤ length rows' → Closable k sheet.boards t rows' b' did
      record-closable =
          may-close k m rows b o (run_record bs at) n goes did (f ∙ did-is) b' rows' s' left_is

      pub record-done : (x : Sheet) (t' : List ℕ) → Closed k sheet.boards t rows' b' did x.boards t'
          → SheetRecordDone k bs at m out r x t' s' out'
      unfolding call_on reply record_on
      record-done x t' z =
          let told : (on_sheet k (run_record bs at) m n).answer ≡ as_reply alone.answer =
          answers k m rows b o (run_record bs at) n goes in
          record {
            tells = record { came_to = alone.answer; is = told; reply = on-view.reply };
            state =
                leaves k m rows b o (run_record bs at) n goes did (f ∙ did-is) b' rows' s' left_is
                x.boards t' z;
            output = on-view.output ∙ ap (λ (a : Reply). output_by a out) (sym told);
          }
