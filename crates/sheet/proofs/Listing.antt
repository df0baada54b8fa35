-- A list of nets on a foil of a sheet: its checks, and its end.
use Prim.Native.Nat.{ℕ, ◌/◌, ◌≤◌, ◌<◌}
use native.Mathlib.Omega.{arith}
use mathlib.Core.Path.{◌≡◌, refl, sym, ap, ap₂, ◌∙◌, subst}
use mathlib.Core.Bool.{Bool, true, false, not, ◌||◌}
use mathlib.Core.List.{List, [], ◌∷◌}
use mathlib.Core.Option.{none}
use lib.ListN.{length}
use borrow.Author.Tests.{lt-ltb, le-ltb}
use Rattle.foil_spec.specs.Lists.{any}
use Rattle.foil_spec.specs.Limits.{table_size, sheet_foils}
use Rattle.foil_spec.specs.Ledger.{Room, Answer, refused, accepted, laid, found, wrote, booked, first, after_lent}
use Rattle.foil_spec.specs.Ledger.{After}
use Rattle.foil_spec.specs.Lent.{Lent, lent, room_in, step_on, output_after}
use Rattle.foil_spec.specs.Wishes.{wishes, too_many}
use Rattle.foil_spec.specs.Calls.{lay_list, Reply, laid_all, act_each, act_list, list_refusals, reply, call_on, answers_in}
use Rattle.foil_spec.specs.Calls.{output_by}
use Rattle.foil_spec.specs.Sheet.{limit_of, SheetLent, counts, view, opening, sheet_refusal}
use Rattle.foil_spec.specs.declared.Board.{Board}
use Rattle.std.specs.Prelude.{Ok, Err}
use Rattle.foil.specs.Contract.{answer_of}
use Rattle.foil.specs.declared.Accepted.TheVariants.{Done}
use Rattle.listing.specs.Contract.{took, ListGave, ListIn}
use Rattle.sheet_laws.specs.Answers.{taken}
use Rattle.sheet_laws.specs.Back.{writing, rewrote}
use Rattle.sheet_laws.proofs.Alone.{room-view}
use Rattle.sheet_rows.specs.Rows.{sheet_lent}
use Rattle.sheet_rows.specs.declared.Sheet.{Sheet}
use Rattle.sheet.specs.Contract.{on_sheet, refused-whole, told-each, SheetListDone}
use Rattle.sheet.specs.Parts.{Foil, Opened, reads_foil, refused_on, Opening, ListOpening, Closable, Closed}
use Rattle.sheet.proofs.Checking.{room, refused-on, out-long, foil-is, list-goes}
use Rattle.sheet.proofs.Closing.{answers, may-close, leaves}

-- ---- 23, the list's own 12, and the checks that other calls begin with too

module _ (k : ℕ) (m : SheetLent) (ws : List ℕ) (n : ℕ) where
  pub list-no-foil : sheet_foils ≤ k → (rows : List ℕ) → ListOpening k m ws n rows (Err 23)
  unfolding sheet_refusal first
  list-no-foil l rows output = refused-on k m (lay_list ws n) output 23 (rw (lt-ltb 7 k (omega arith)) refl)

  module _ (here : k < sheet_foils) (b : Bool) (is : b ≡ too_many ws n) where
    pub list-many : b ≡ true → (rows : List ℕ) → ListOpening k m ws n rows (Err 12)
    unfolding sheet_refusal opening first
    list-many e rows output =
        refused-on k m (lay_list ws n) output 12 (rw (le-ltb 7 k (omega arith), sym is ∙ e) refl)

    pub list-opened : b ≡ false → (rows : List ℕ) (x : Foil) → Opening k m rows x → ListOpening k m ws n rows x
    unfolding reads_foil
    list-opened e rows (Ok b) h = (h, sym is ∙ e)
    list-opened e rows (Err i) h = λ output. h (lay_list ws n) output (ap not (sym is ∙ e))

  module _ (rows : List ℕ) (x : Foil) where
    pub list-out : ListOpening k m ws n rows x → (b : Board) → x ≡ Ok b → Opened k m rows b × (too_many ws n ≡ false)
    list-out h b e = subst (ListOpening k m ws n rows) e h

    pub list-not-out : ListOpening k m ws n rows x → (i : ℕ) → x ≡ Err i → (output : ℕ)
        → on_sheet k (lay_list ws n) m output ≡ refused_on i m
    list-not-out h i e = subst (ListOpening k m ws n rows) e h

-- ---- its end

took-taken : (a : Answer) → took a ≡ taken a
unfolding took answer_of taken
took-taken (refused i) = refl
took-taken accepted = refl
took-taken (laid cs i) = refl
took-taken (found i) = refl
took-taken (wrote bs) = refl
took-taken (booked i j) = refl

some-taken : (given : List Answer) → any took given ≡ any taken given
some-taken [] = refl
some-taken (a ∷ given) = ap₂ (λ (x y : Bool). x || y) (took-taken a) (some-taken given)

module _ (k : ℕ) (sheet : Sheet) (t s ws out ans : List ℕ) where
  abbrev m : SheetLent
  m = sheet_lent sheet.boards t s

  abbrev n : ℕ
  n = length ans / 3

  pub list-refused : (i : ℕ) → on_sheet k (lay_list ws n) m (length out) ≡ refused_on i m
      → SheetListDone k ws m out ans (Err i) sheet t s out ans
  unfolding output_by output_after
  list-refused i e =
      record {
        tells = refused-whole i (ap (λ (a : After Reply SheetLent). a.answer) e) refl refl;
        state = rw e refl;
        output = rw e refl;
      }

  module _ (rows : List ℕ) (b : Board) (o : Opened k m rows b) (few : too_many ws n ≡ false) (limit : ℕ)
      (most : limit ≡ limit_of (counts sheet.boards) k) (did : Bool) (b' : Board) (rows' s' out' ans' : List ℕ)
      (e : ListIn limit ws (lent b rows s) out ans did b' rows' s' out' ans') where
    goes : sheet_refusal (room k m (length out)) false k (lay_list ws n) ≡ none
    goes = list-goes k m rows b o.out ws n (length out) few

    -- what it does to the foil alone
    abbrev r : Room
    r = room k m (length out)

    abbrev all : After (List Answer) Lent
    all = act_each step_on r (wishes ws) (view k m)

    on-view : ListGave all out ans did b' rows' s' out' ans'
    on-view =
        subst (λ (q : Room). ListGave (act_each step_on q (wishes ws) (view k m)) out ans did b' rows' s' out' ans')
        (ap (λ (i : ℕ). room_in i (view k m) (length out)) most
        ∙ sym (room-view k m (length out) o.out.eight-foils o.out.here))
        (subst
        (λ (v : Lent).
        ListGave (act_each step_on (room_in limit v (length out)) (wishes ws) v) out ans did b' rows' s' out' ans')
        (foil-is k m rows b o.out) e)

    alone-is : call_on r (lay_list ws n) (view k m) ≡ record { answer = laid_all all.answer; state = all.state }
    unfolding call_on reply list_refusals first after_lent
    alone-is =
        rw (few, out-long k m rows b o.out (length out), o.keeps) (unfold act_list in refl)

    told_is : (on_sheet k (lay_list ws n) m (length out)).answer ≡ laid_all all.answer
    told_is =
        answers k m rows b o.out (lay_list ws n) (length out) goes
        ∙ ap (λ (a : After Reply Lent). a.answer) alone-is

    did-is : did ≡ rewrote (lay_list ws n) (call_on r (lay_list ws n) (view k m)).answer
    unfolding rewrote writing answers_in
    did-is =
        on-view.laid ∙ some-taken all.answer
        ∙ ap (λ (a : After Reply Lent). any taken (answers_in a.answer)) (sym alone-is)

    left_is : lent b' rows' s' ≡ (call_on r (lay_list ws n) (view k m)).state
    left_is =
        rw (on-view.board, on-view.table, on-view.strips)
        (ap (λ (a : After Reply Lent). a.state) (sym alone-is))

    pub list-closable : table_size ≤ length rows' → Closable k sheet.boards t rows' b' did
    list-closable =
        may-close k m rows b o.out (lay_list ws n) (length out) goes did did-is b' rows' s' left_is

    pub list_done : (x : Sheet) (t' : List ℕ) → Closed k sheet.boards t rows' b' did x.boards t'
        → SheetListDone k ws m out ans (Ok Done) x t' s' out' ans'
    unfolding output_by
    list_done x t' z =
        record {
          tells = told-each all.answer told_is refl on-view.answers;
          state =
              leaves k m rows b o.out (lay_list ws n) (length out) goes did did-is b' rows' s' left_is
              x.boards t' z;
          output = on-view.output ∙ ap (λ (a : Reply). output_by a out) (sym told_is);
        }
