-- A call on a foil of a sheet that holds rows goes as on the ledger.
use Prim.Native.Nat.{ℕ, ◌≤◌, ◌<◌}
use native.Mathlib.Omega.{arith}
use mathlib.Core.Path.{◌≡◌, refl, sym, ap, ap₂, ◌∙◌, subst, fun_ext}
use mathlib.Core.Bool.{Bool, true, false, not, cond}
use mathlib.Core.List.{List}
use mathlib.Core.Logic.{inr}
use mathlib.Core.Option.{Option, none, some}
use lib.Dec.{ltb}
use borrow.Author.Tests.{ltb-false}
use lib.ListN.{length, get_or, set, length-set}
use lib.Seq.{get_or-set_same, set-get_or, set-set}
use Rattle.foil_spec.specs.Limits.{sheet_foils}
use Rattle.foil_spec.specs.Foil.{Layout, no_foil}
use Rattle.foil_spec.specs.Ledger.{Room, with_output, short, Step, says, next, settle, refusal_of, refused, first}
use Rattle.foil_spec.specs.Ledger.{after_lent}
use Rattle.foil_spec.specs.Lent.{Lent, store, layout_ok, held, sound}
use Rattle.foil_spec.specs.Calls.{Call, step, run_record, ohms, lay_list, reply}
use Rattle.foil_spec.specs.Sheet.{counts_ok, limit_of, SheetLent, counts, view, put_back, writes, sheet_step, opening}
use Rattle.foil_spec.specs.Sheet.{sheet_refusal, unless, sheet_call, blank, row_step, row_call, sheet_ledger_call, row_counts}
use Rattle.list_laws.proofs.Tests.{both}
use Rattle.ledger_laws.proofs.Refusals.{no-rule, no_more, none-applies, unrefused-sound, unrefused-own}
use Rattle.ledger_laws.proofs.Line.{line}
use Rattle.ledger_laws.proofs.Replies.{shown_by, reply-keeps, reply-shown}
use Rattle.sheet_laws.proofs.Counts.{limit-own, fits}
use Rattle.sheet_laws.proofs.Line.{sheet-line}
use Rattle.sheet_laws.proofs.Rows.{Row, begun, row_ok, alone, held-alone, sound-alone, stored-anew, rows_lent}
use Rattle.sheet_laws.proofs.Rows.{counts-rows, counts-set, count_at, length-counts, view-row, put-row}

-- ---- what a step leaves of a row

-- a row that is not begun or keeps the rules, and has no more entries than it may
pub record FitsIn (most : ℕ) (l : Layout) : Type 0 where
  pub row : Row l
  pub few : length l.entries ≤ most

-- by the room r
abbrev pub Fits : Room → Layout → Type 0
Fits r l = FitsIn r.limit l

module _ (r : Room) (s : Step) (l : Layout) (g : Row l) where
  -- accepted, it leaves a foil that keeps the rules
  next-ok : refusal_of r (blank l) s l ≡ none → layout_ok (next s l) ≡ true
  next-ok e =
      (line s).kept r l (λ f. row_ok l g (unrefused-sound r s l (blank l) e f)) (unrefused-own r s l (blank l) e)

settle-fits : (r : Room) (s : Step) (l : Layout) (o : Option ℕ) → refusal_of r (blank l) s l ≡ o → Fits r l
    → Fits r (settle o (record { answer = says s l; state = next s l }) l).state
unfolding settle
settle-fits r s l (some n) e f = f
settle-fits r s l none e f =
    record {
      row = inr (next-ok r s l f.row e);
      few = omega (arith, (sheet-line s).fits r l (unrefused-own r s l (blank l) e), f.few);
    }

pub step_fits : (r : Room) (s : Step) (l : Layout) → Fits r l → Fits r (row_step r s l).state
unfolding row_step
step_fits r s l f = settle-fits r s l (refusal_of r (blank l) s l) refl f

pub call_fits : (r : Room) (c : Call) (l : Layout) → Fits r l → Fits r (row_call r c l).state
unfolding row_call
call_fits r c l f = reply-keeps row_step (Fits r) r (λ n. step_fits (with_output r n)) (blank l) c l l f

-- ---- a step and a call on foil k of the rows

twice : (b : Bool) → not (not b) ≡ b
twice true = refl
twice false = refl

module _ (k : ℕ) (m : SheetLent) where
  -- the foil's own 13
  broken : (ls : List Layout) → Row (get_or ls k no_foil)
      → not (sound (view k (rows_lent k ls m))) ≡ blank (get_or ls k no_foil)
  broken ls g =
      ap (λ (v : Lent). not (sound v)) (view-row ls k m)
      ∙ ap not (sound-alone (get_or ls k no_foil) m.strips g) ∙ twice (blank (get_or ls k no_foil))

  held-row : (ls : List Layout) → held (view k (rows_lent k ls m)) ≡ get_or ls k no_foil
  held-row ls = ap held (view-row ls k m) ∙ held-alone (get_or ls k no_foil) m.strips

  -- the same rows
  unset : (ls : List Layout) → rows_lent k ls m ≡ rows_lent k (set ls k (get_or ls k no_foil)) m
  unset ls = ap (λ (xs : List Layout). rows_lent k xs m) (sym (set-get_or ls k no_foil))

  module _ (r : Room) (ls : List Layout) (here : k < length ls) (ok : counts_ok (row_counts ls) ≡ true)
      (g : Row (get_or ls k no_foil)) (s : Step) where
    abbrev l : Layout
    l = get_or ls k no_foil

    after : refusal_of r (blank l) s l ≡ none
        → cond (writes s) (put_back k (rows_lent k ls m) (store (next s l) (alone l m.strips))) (rows_lent k ls m)
        ≡ rows_lent k (set ls k (next s l)) m
    after e =
        both (writes s)
        (λ w.
        rw w
        (ap (put_back k (rows_lent k ls m)) (stored-anew l (next s l) m.strips g)
        ∙ put-row ls k (next s l) m here ok (begun (next s l) (next-ok r s l g e))))
        (λ w. rw (w, (sheet-line s).still w l) (unset ls))

    settled : (o : Option ℕ) → refusal_of r (blank l) s l ≡ o
        → settle o
        (record {
          answer = says s l;
          state =
              cond (writes s) (put_back k (rows_lent k ls m) (store (next s l) (alone l m.strips))) (rows_lent k ls m);
        })
        (rows_lent k ls m)
        ≡ shown_by (λ x. rows_lent k (set ls k x) m) (settle o (record { answer = says s l; state = next s l }) l)
    unfolding settle shown_by
    settled (some n) e = ap (λ (x : SheetLent). record { answer = refused n; state = x }) (unset ls)
    settled none e = ap (λ (x : SheetLent). record { answer = says s l; state = x }) (after e)

    step_row : sheet_step k r s (rows_lent k ls m) ≡ shown_by (λ x. rows_lent k (set ls k x) m) (row_step r s l)
    unfolding sheet_step row_step
    step_row =
        rw (broken ls g, held-row ls, view-row ls k m) (settled (refusal_of r (blank l) s l) refl)

  module _ (r : Room) (ls : List Layout) (here : k < length ls) (ok : counts_ok (row_counts ls) ≡ true)
      (limit : r.limit ≡ limit_of (row_counts ls) k) where
    -- the sheet with another row of foil k
    abbrev put : Layout → SheetLent
    put x = rows_lent k (set ls k x) m

    -- a row that fits keeps both limits beside the others
    pub set-ok : (x : Layout) → Fits r x → counts_ok (row_counts (set ls k x)) ≡ true
    set-ok x f =
        ap counts_ok (counts-set ls k x)
        ∙ fits (row_counts ls) ok k (omega (arith, length-counts ls)) (length x.entries)
        (subst (λ (n : ℕ). length x.entries ≤ n) limit f.few)

    put_step : (s : Step) (x : Layout) → Fits r x → sheet_step k r s (put x) ≡ shown_by put (row_step r s x)
    put_step s x f =
        let e = get_or-set_same ls k x no_foil here in
        let row : Row (get_or (set ls k x) k no_foil) = subst Row (sym e) f.row in
        step_row r (set ls k x) (omega (arith, length-set ls k x)) (set-ok x f) row s
        ∙ ap₂ (λ (q : Layout → SheetLent) (y : Layout). shown_by q (row_step r s y))
        (fun_ext (λ y. ap (λ (xs : List Layout). rows_lent k xs m) (set-set ls k x y))) e

    -- foil k fits as it is
    pub own-fits : Row (get_or ls k no_foil) → Fits r (get_or ls k no_foil)
    own-fits g =
        record {
          row = g;
          few =
              omega (
                arith,
                limit,
                count_at ls k,
                limit-own (row_counts ls) ok k (omega (arith, length-counts ls)),
              );
        }

  module _ (r : Room) (ls : List Layout) (here : k < length ls) (ok : counts_ok (row_counts ls) ≡ true)
      (limit : r.limit ≡ limit_of (row_counts ls) k) where
    reply-row : (c : Call) → Row (get_or ls k no_foil)
        → reply (sheet_step k) r (not (sound (view k (rows_lent k ls m)))) c (held (view k (rows_lent k ls m)))
        (rows_lent k ls m)
        ≡ shown_by (put r ls here ok limit) (row_call r c (get_or ls k no_foil))
    unfolding row_call
    reply-row c g =
        let l : Layout = get_or ls k no_foil in
        ap₂ (λ (b : Bool) (x : Layout). reply (sheet_step k) r b c x (rows_lent k ls m)) (broken ls g) (held-row ls)
        ∙ ap (reply (sheet_step k) r (blank l) c l) (unset ls)
        ∙ (reply-shown (put r ls here ok limit) (Fits r) row_step (sheet_step k) r
        (λ n s x f.
        record {
          is = put_step (with_output r n) ls here ok limit s x f;
          kept = step_fits (with_output r n) s x f;
        })
        (blank l) c l l (own-fits r ls here ok limit g)).is

-- ---- the refusals that a call begins with

-- where none applies, the lists are long enough
pub opened-long : (r : Room) (b : Bool) (c : Call) → first (opening r b c) ≡ none → short r ≡ false
unfolding opening after_lent
opened-long r b (step s) e = search none-applies
opened-long r b (run_record bs at) e = search none-applies
opened-long r b (ohms net i) e = search none-applies
opened-long r b (lay_list ws n) e = search none-applies

pub record Passed (r : Room) (k : ℕ) : Type 0 where
  pub here : k < sheet_foils
  pub long : short r ≡ false

pub passed : (r : Room) (b : Bool) (k : ℕ) (c : Call) → sheet_refusal r b k c ≡ none → Passed r k
unfolding sheet_refusal
passed r b k c e =
    record {
      here = omega (arith, ltb-false 7 k (no-rule (ltb 7 k) 23 (opening r b c) e));
      long = opened-long r b c (no_more (ltb 7 k) 23 (opening r b c) e);
    }

-- ---- the whole call

module _ (k : ℕ) (m : SheetLent) (r : Room) (c : Call) (ls : List Layout) (eight : length ls ≡ sheet_foils)
    (ok : counts_ok (row_counts ls) ≡ true) (g : Row (get_or ls k no_foil))
    (limit : r.limit ≡ limit_of (row_counts ls) k) where
  unless-is : (o : Option ℕ) → sheet_refusal r false k c ≡ o
      → unless o
      (reply (sheet_step k) r (not (sound (view k (rows_lent k ls m)))) c (held (view k (rows_lent k ls m)))
      (rows_lent k ls m))
      (rows_lent k ls m)
      ≡ shown_by (λ xs. rows_lent k xs m)
      (unless o
      (record {
        answer = (row_call r c (get_or ls k no_foil)).answer;
        state = set ls k (row_call r c (get_or ls k no_foil)).state;
      })
      ls)
  unfolding unless shown_by
  unless-is (some n) e = refl
  unless-is none e =
      let p = passed r false k c e in
      reply-row k m r ls (omega (arith, p.here)) ok limit c g

  counts-are : counts (rows_lent k ls m).boards ≡ row_counts ls
  unfolding rows_lent
  counts-are = counts-rows ls

  pub call-row : sheet_call r k c (rows_lent k ls m) ≡ shown_by (λ xs. rows_lent k xs m) (sheet_ledger_call r k c ls)
  unfolding sheet_call sheet_ledger_call
  call-row = rw (counts-are, ok) (unless-is (sheet_refusal r false k c) refl)
