-- The end of a call that only reads a foil of a sheet: one law for all such steps, and one for the ohms.
use Prim.Native.Nat.{ℕ}
use mathlib.Core.Path.{◌≡◌, refl, sym, ap, ◌∙◌, subst}
use mathlib.Core.Bool.{false}
use mathlib.Core.List.{List}
use lib.ListN.{length}
use Rattle.foil_spec.specs.Ledger.{Step}
use Rattle.foil_spec.specs.Ledger.{refused, number_of, first}
use Rattle.foil_spec.specs.Ledger.{after_lent}
use Rattle.foil_spec.specs.Ledger.{Answer as Outcome}
use Rattle.foil_spec.specs.Lent.{Lent, lent, layout_of, held, step_on}
use Rattle.foil_spec.specs.Lent.{output_after}
use Rattle.foil_spec.specs.Ohms.{ohms_refusals, ohms_of}
use Rattle.foil_spec.specs.Calls.{step, ohms, Reply, answered, ohms_reply, reply, call_on, output_all, answers_in}
use Rattle.foil_spec.specs.Calls.{output_by}
use Rattle.foil_spec.specs.Sheet.{SheetLent, view, sheet_room, writes}
use Rattle.foil_spec.specs.declared.Board.{Board}
use Rattle.foil_spec.specs.declared.Ink.{Ink}
use Rattle.std.specs.Prelude.{Err}
use Rattle.foil.specs.Contract.{Answer, answer_of, ReadIn}
use Rattle.ohms.specs.Contract.{resistance_of, NetAnswered}
use Rattle.ohms.specs.declared.Resistance.{Resistance}
use Rattle.ohms.specs.declared.Resistance.TheVariants.{Refused as ohms_refused}
use Rattle.sheet_laws.specs.Back.{writing, rewrote}
use Rattle.sheet.specs.Contract.{on_sheet, SheetReadDone, SheetOhmsDone}
use Rattle.sheet.specs.Parts.{TakenOut, Opened, refused_on}
use Rattle.sheet.proofs.Checking.{room, out-long, foil-is, step-goes, ohms-goes}
use Rattle.sheet.proofs.Closing.{answers, unchanged}

-- ---- a step that only reads

module _ (k : ℕ) (m : SheetLent) (c : Step) (out : List ℕ) where
  pub read-refused : (n : ℕ) → on_sheet k (step c) m (length out) ≡ refused_on n m
      → SheetReadDone k c m out (Err n) out
  unfolding answer_of output_by answers_in output_all output_after
  read-refused n e =
      record {
        tells = record { said = refused n; is = rw e refl; answer = refl };
        state = rw e refl;
        output = rw e refl;
      }

  module _ (rows : List ℕ) (b : Board) (o : TakenOut k m rows b) (w : writes c ≡ false) where
    abbrev n : ℕ
    n = length out

    abbrev said : Outcome
    said = (step_on (room k m n) c (view k m)).answer

    reply-is : (on_sheet k (step c) m n).answer ≡ answered said
    reply-is = answers k m rows b o (step c) n (step-goes k m rows b o c n) ∙ unfold call_on reply in refl

    no-writing : (a : Reply) → rewrote (step c) a ≡ false
    unfolding rewrote writing
    no-writing a = rw w refl

    pub read_done : (r : Answer) (out' : List ℕ) → ReadIn c (lent b rows m.strips) out r out'
        → SheetReadDone k c m out r out'
    unfolding output_by answers_in output_all
    read_done r out' h =
        let d =
        subst (λ (v : Lent). ReadIn c v out r out') (foil-is k m rows b o) h (room k m n) (out-long k m rows b o n)
        (unfold sheet_room in refl) in
        record {
          tells = record { said = said; is = reply-is; answer = d.answer };
          state = sym (unchanged k m rows b o (step c) n (step-goes k m rows b o c n) no-writing);
          output = d.output ∙ rw reply-is refl;
        }

-- ---- the ohms

module _ (k : ℕ) (m : SheetLent) (net : ℕ) (i : Ink) where
  pub ohms-refused : (n : ℕ) → on_sheet k (ohms net i) m 0 ≡ refused_on n m → SheetOhmsDone k net i m (ohms_refused n)
  unfolding resistance_of number_of
  ohms-refused n e = record { answer = rw e refl; state = rw e refl }

  own-ohms : (rows : List ℕ) (b : Board) → Opened k m rows b
      → (call_on (room k m 0) (ohms net i) (view k m)).answer
      ≡ ohms_reply (first (ohms_refusals net i (held (view k m)))) (ohms_of net i (held (view k m)))
  unfolding call_on reply after_lent first
  own-ohms rows b o = rw (out-long k m rows b o.out 0, o.keeps) refl

  pub ohms-done : (rows : List ℕ) (b : Board) → Opened k m rows b → (r : Resistance)
      → NetAnswered net i rows b.entries r → SheetOhmsDone k net i m r
  ohms-done rows b o r h =
      let goes = ohms-goes k m rows b o.out net i 0 in
      record {
        answer =
            h.answer (held (lent b rows m.strips)) (unfold held layout_of in refl)
            ∙ ap
            (λ (v : Lent). resistance_of (ohms_reply (first (ohms_refusals net i (held v))) (ohms_of net i (held v))))
            (foil-is k m rows b o.out)
            ∙ ap resistance_of (sym (answers k m rows b o.out (ohms net i) 0 goes ∙ own-ohms rows b o));
        state = sym (unchanged k m rows b o.out (ohms net i) 0 goes (λ a. unfold rewrote writing in refl));
      }
