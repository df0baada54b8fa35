-- What a list of calls on a sheet lists of a call is what the call left.
use Prim.Native.Nat.{ℕ}
use mathlib.Core.Path.{◌≡◌, refl, sym, ap, ap₂, ◌∙◌, subst}
use mathlib.Core.List.{List}
use lib.ListN.{length}
use Rattle.foil_spec.specs.Ledger.{After}
use Rattle.foil_spec.specs.Calls.{Call, step, run_record, ohms, Reply, output_by}
use Rattle.foil_spec.specs.Sheet.{SheetLent, Sheet, SheetLending, sheet_front, sheet_back, room_on, called_on, lend_sheet}
use Rattle.foil_spec.specs.Sheet.{SheetLeft, leaves_sheet, run_sheet}
use Rattle.foil_spec.specs.Job.{has}
use Rattle.foil.specs.Contract.{Answer}
use Rattle.ohms.specs.Contract.{resistance_of}
use Rattle.sheet_laws.proofs.Lending.{back-front}
use Rattle.sheet.specs.Contract.{on_sheet, Tells, RecordTells, ListTells}
use Rattle.sheet.specs.Listed.{Holds, ListedBy, CallsListed}

tells-same : (a b : Reply) (r : Answer) → a ≡ b → Tells b r → Tells a r
tells-same a b r e h = subst (λ (z : Reply). Tells z r) (sym e) h

module _ (c : SheetLending) (x : Sheet) (o : SheetLeft)
    (first : leaves_sheet c (lend_sheet c x).answer (lend_sheet c x).state ≡ o) where
  -- what the call k does to what is lent, and an output list of so many numbers
  abbrev done : Call → ℕ → After Reply SheetLent
  done k n = on_sheet c.foil k (sheet_front c x) n

  module _ (k : Call) (n : ℕ) (is : c.call ≡ k) (long : length c.output ≡ n) where
    called : called_on c x ≡ done k n
    unfolding called_on room_on sheet_front
    called = ap₂ (λ (j : Call) (i : ℕ). on_sheet c.foil j (sheet_front c x) i) is long

    left_is : o ≡ leaves_sheet c (done k n).answer (sheet_back c x (done k n).state)
    unfolding lend_sheet
    left_is =
        sym first
        ∙ ap (λ (z : After Reply SheetLent). leaves_sheet c z.answer (sheet_back c x z.state)) called

    reply-is : o.reply ≡ (done k n).answer
    unfolding leaves_sheet
    reply-is = ap (λ (z : SheetLeft). z.reply) left_is

    sheet-is : (left : SheetLent) → left ≡ (done k n).state → o.sheet ≡ sheet_back c x left
    unfolding leaves_sheet
    sheet-is left e = ap (λ (z : SheetLeft). z.sheet) left_is ∙ ap (sheet_back c x) (sym e)

    output-is : o.output ≡ output_by (done k n).answer c.output
    unfolding leaves_sheet
    output-is = ap (λ (z : SheetLeft). z.output) left_is

    holds : (left : SheetLent) (out' : List ℕ) → left ≡ (done k n).state
        → out' ≡ output_by (done k n).answer c.output → Holds o (sheet_back c x left) out'
    holds left out' e h = record { sheet = sheet-is left e; output = output-is ∙ sym h }

  listed_by : ListedBy c x o
  listed_by =
      record {
        by-step = λ a r y t s is none h.
            let long : length c.output ≡ 0 = ap length none in (
              tells-same o.reply _ r (reply-is (step a) 0 is long) h.tells,
              sheet-is (step a) 0 is long _ h.state,
            );
        by-output = λ a r y t s out' is h.
            let n : ℕ = length c.output in (
              tells-same o.reply _ r (reply-is (step a) n is refl) h.gave.tells,
              holds (step a) n is refl _ out' h.gave.state h.output,
            );
        by_read = λ a r out' is h.
            let n : ℕ = length c.output in (
              tells-same o.reply _ r (reply-is (step a) n is refl) h.tells,
              subst (λ (y : Sheet). Holds o y out') (back-front c x)
                  (holds (step a) n is refl _ out' h.state h.output),
            );
        by-ohms = λ net i r is none h.
            let long : length c.output ≡ 0 = ap length none in (
              h.answer ∙ ap resistance_of (sym (reply-is (ohms net i) 0 is long)),
              sheet-is (ohms net i) 0 is long _ h.state ∙ back-front c x,
            );
        by-record = λ bs at r y t s out' is h.
            let n : ℕ = length c.output in (
              subst (λ (z : Reply). RecordTells (has bs at) z r)
                  (sym (reply-is (run_record bs at) n is refl)) h.tells,
              holds (run_record bs at) n is refl _ out' h.state h.output,
            );
        by-list = λ ws ans r y t s out' ans' is h.
            let n : ℕ = length c.output in (
              subst (λ (z : Reply). ListTells z r ans ans') (sym (reply-is _ n is refl)) h.tells,
              holds _ n is refl _ out' h.state h.output,
            );
      }

pub calls-listed : CallsListed
unfolding run_sheet
calls-listed c cs x o os e = listed_by c x o cc
