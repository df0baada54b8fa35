-- The end of a call that may write entries: the sheet is what the definitions give where the foil, taken out for the
-- call, was put back. One law for all steps, and one with an output list.
use Prim.Native.Nat.{ℕ, ◌≤◌}
use mathlib.Core.Path.{◌≡◌, refl, sym, ap, ◌∙◌, subst}
use mathlib.Core.Bool.{Bool, true, false, cond, or-false}
use mathlib.Core.List.{List}
use mathlib.Core.Option.{none}
use lib.ListN.{length}
use Rattle.foil_spec.specs.Limits.{table_size}
use Rattle.foil_spec.specs.Ledger.{Step, refused, accepted, laid, found, wrote, booked, After}
use Rattle.foil_spec.specs.Ledger.{Answer as Outcome}
use Rattle.foil_spec.specs.Lent.{Lent, lent, step_on, output_after}
use Rattle.foil_spec.specs.Calls.{Call, step, Reply, answered, reply, call_on, answers_in, output_all, output_by}
use Rattle.foil_spec.specs.Sheet.{limit_of, SheetLent, counts, view, put_back, writes, sheet_room, sheet_refusal}
use Rattle.foil_spec.specs.declared.Board.{Board}
use Rattle.std.specs.Prelude.{Err, is_ok}
use Rattle.foil.specs.Contract.{Answer, answer_of, Gave, StepIn, Wrote, OutputIn}
use Rattle.list_laws.proofs.Tests.{both}
use Rattle.sheet_laws.specs.Answers.{taken}
use Rattle.sheet_laws.specs.Back.{writing, rewrote}
use Rattle.sheet_laws.proofs.Back.{puts_back, wrote-fits, unwritten}
use Rattle.sheet_rows.specs.Rows.{sheet_lent, PutBack}
use Rattle.sheet_rows.specs.declared.Sheet.{Sheet}
use Rattle.sheet.specs.Contract.{on_sheet, SheetGave, SheetStepDone, SheetOutputDone}
use Rattle.sheet.specs.Parts.{TakenOut, refused_on, Closable, Closed}
use Rattle.sheet.proofs.Checking.{room, out-long, in-room, limit_is, foil-is, step-goes}

-- ---- the parts

module _ (k : ℕ) (bs : List Board) (t rows : List ℕ) (b : Board) (did : Bool) where
  pub kept_if : did ≡ false → Closed k bs t rows b did bs t
  kept_if e = record { is = λ s s'. rw e refl }

  pub put_if : did ≡ true → (bs' : List Board) (t' : List ℕ) → PutBack k bs t b rows bs' t'
      → Closed k bs t rows b did bs' t'
  put_if e bs' t' p = record { is = λ s s'. rw e (p.is s s') }

pub accepts-taken : (a : Outcome) → is_ok (answer_of a) ≡ taken a
unfolding answer_of taken
accepts-taken (refused n) = refl
accepts-taken accepted = refl
accepts-taken (laid cs n) = refl
accepts-taken (found i) = refl
accepts-taken (wrote bs) = refl
accepts-taken (booked i n) = refl

-- ---- any call

module _ (k : ℕ) (m : SheetLent) (rows : List ℕ) (b : Board) (o : TakenOut k m rows b) (c : Call) (output : ℕ)
    (goes : sheet_refusal (room k m output) false k c ≡ none) where
  -- what it does to the foil alone
  abbrev alone : After Reply Lent
  alone = call_on (room k m output) c (view k m)

  done-so : on_sheet k c m output
      ≡ record { answer = alone.answer; state = cond (rewrote c alone.answer) (put_back k m alone.state) m }
  done-so = puts_back (room k m output) k c m (in-room k m rows b o output) goes

  -- it answers so
  pub answers : (on_sheet k c m output).answer ≡ alone.answer
  answers = ap (λ (a : After Reply SheetLent). a.answer) done-so

  after : (on_sheet k c m output).state ≡ cond (rewrote c alone.answer) (put_back k m alone.state) m
  after = ap (λ (a : After Reply SheetLent). a.state) done-so

  -- a call that writes no entries leaves the sheet as it is
  pub unchanged : ((a : Reply) → rewrote c a ≡ false) → (on_sheet k c m output).state ≡ m
  unchanged w = after ∙ rw (w alone.answer) refl

  module _ (did : Bool) (is : did ≡ rewrote c alone.answer) (b' : Board) (rows' s' : List ℕ)
      (left : lent b' rows' s' ≡ alone.state) where
    pub may-close : table_size ≤ length rows' → Closable k m.boards m.table rows' b' did
    may-close full =
        record {
          here = o.here;
          eight-foils = o.eight-foils;
          few = λ e.
              subst (λ (v : Lent). v.board.entries ≤ limit_of (counts m.boards) k) (sym left)
              (wrote-fits (room k m output) k c m (in-room k m rows b o output) (sym is ∙ e));
          full = full;
        }

    -- where nothing was written, the strips are as they were
    same-strips : did ≡ false → s' ≡ m.strips
    unfolding view
    same-strips e =
        ap (λ (v : Lent). v.strips)
        (left ∙ unwritten (room k m output) k c m (in-room k m rows b o output) (sym is ∙ e))

    -- and leaves the sheet so
    pub leaves : (bs' : List Board) (t' : List ℕ) → Closed k m.boards m.table rows' b' did bs' t'
        → sheet_lent bs' t' s' ≡ (on_sheet k c m output).state
    leaves bs' t' z =
        z.is m.strips s'
        ∙ both did
        (λ e. rw (e, left) (sym (after ∙ rw (sym is ∙ e) refl)))
        (λ e. rw (e, same-strips e) (sym (after ∙ rw (sym is ∙ e) refl)))

-- ---- a step

module _ (k : ℕ) (sheet : Sheet) (t s : List ℕ) (c : Step) where
  abbrev m : SheetLent
  m = sheet_lent sheet.boards t s

  -- refused before its own refusals
  module _ (n : ℕ) where
    pub gave-refused : (output : ℕ) → on_sheet k (step c) m output ≡ refused_on n m
        → SheetGave (on_sheet k (step c) m output) (Err n) sheet t s
    unfolding answer_of
    gave-refused output e =
        rw e (record { tells = record { said = refused n; is = refl; answer = refl }; state = refl })

    pub wrote-refused : (out : List ℕ) → on_sheet k (step c) m (length out) ≡ refused_on n m
        → SheetOutputDone k c m out (Err n) sheet t s out
    unfolding output_by answers_in output_all output_after
    wrote-refused out e = record { gave = gave-refused (length out) e; output = rw e refl }

  -- done on the foil that was taken out, and put back
  module _ (rows : List ℕ) (b : Board) (o : TakenOut k m rows b) (w : writes c ≡ true) (r : Answer) (b' : Board)
      (rows' s' : List ℕ) where
    -- what it does to the foil alone
    abbrev done : ℕ → After Outcome Lent
    done output = step_on (room k m output) c (view k m)

    module _ (output : ℕ) (g : Gave (step_on (room k m output) c (lent b rows s)) r b' rows' s') where
      gave : Gave (done output) r b' rows' s'
      gave = subst (λ (v : Lent). Gave (step_on (room k m output) c v) r b' rows' s') (foil-is k m rows b o) g

      step-wrote : is_ok r ≡ rewrote (step c) (call_on (room k m output) (step c) (view k m)).answer
      unfolding call_on reply rewrote writing answers_in
      step-wrote =
          ap (λ (x : Answer). is_ok x) gave.answer ∙ accepts-taken (done output).answer
          ∙ rw (w, or-false (taken (done output).answer)) refl

      step_left : lent b' rows' s' ≡ (call_on (room k m output) (step c) (view k m)).state
      unfolding call_on reply
      step_left = rw (gave.board, gave.table, gave.strips) refl

      step-closable : table_size ≤ length rows' → (did : Bool) → did ≡ is_ok r
          → Closable k sheet.boards t rows' b' did
      step-closable full did e =
          may-close k m rows b o (step c) output (step-goes k m rows b o c output) did (e ∙ step-wrote) b' rows' s'
          step_left full

      reply-is : (on_sheet k (step c) m output).answer ≡ answered (done output).answer
      unfolding call_on reply
      reply-is = answers k m rows b o (step c) output (step-goes k m rows b o c output)

      step-gave : (did : Bool) → did ≡ is_ok r → (x : Sheet) (t' : List ℕ)
          → Closed k sheet.boards t rows' b' did x.boards t' → SheetGave (on_sheet k (step c) m output) r x t' s'
      step-gave did e x t' z =
          record {
            tells = record { said = (done output).answer; is = reply-is; answer = gave.answer };
            state =
                leaves k m rows b o (step c) output (step-goes k m rows b o c output) did (e ∙ step-wrote) b' rows' s'
                step_left x.boards t' z;
          }

    -- on a foil of n entries at most
    module _ (n : ℕ) (most : n ≡ limit_of (counts sheet.boards) k) where
      module _ (e : StepIn c n (lent b rows s) r b' rows' s') where
        done-alone : Gave (step_on (room k m 0) c (lent b rows s)) r b' rows' s'
        done-alone = e (room k m 0) (out-long k m rows b o 0) (limit_is k m rows b o n 0 most)

        pub may-finish : table_size ≤ length rows' → (did : Bool) → did ≡ is_ok r
            → Closable k sheet.boards t rows' b' did
        may-finish = step-closable 0 done-alone

        pub finished : (did : Bool) → did ≡ is_ok r → (x : Sheet) (t' : List ℕ)
            → Closed k sheet.boards t rows' b' did x.boards t' → SheetStepDone k c m r x t' s'
        finished = step-gave 0 done-alone

      -- with an output list
      module _ (out out' : List ℕ) (e : OutputIn c n (lent b rows s) out r b' rows' s' out') where
        wrote-alone : Wrote c (room k m (length out)) (lent b rows s) out r b' rows' s' out'
        unfolding sheet_room
        wrote-alone =
            e (room k m (length out)) (out-long k m rows b o (length out)) (limit_is k m rows b o n (length out) most)
            refl

        pub may-finish-output : table_size ≤ length rows' → (did : Bool) → did ≡ is_ok r
            → Closable k sheet.boards t rows' b' did
        may-finish-output = step-closable (length out) wrote-alone.gave

        pub output-finished : (did : Bool) → did ≡ is_ok r → (x : Sheet) (t' : List ℕ)
            → Closed k sheet.boards t rows' b' did x.boards t' → SheetOutputDone k c m out r x t' s' out'
        unfolding output_by answers_in output_all
        output-finished did f x t' z =
            let said = reply-is (length out) wrote-alone.gave in
            record {
              gave = step-gave (length out) wrote-alone.gave did f x t' z;
              output =
                  wrote-alone.output
                  ∙ ap (λ (v : Lent). output_after (step_on (room k m (length out)) c v).answer out)
                  (foil-is k m rows b o)
                  ∙ rw said refl;
            }
