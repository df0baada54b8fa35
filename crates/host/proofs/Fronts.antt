-- A table that goes on past its first 2,560 numbers: a call on it does what it does on the front, and keeps the rest.
use Prim.Native.Nat.{ℕ, ◌*◌, ◌-◌, ◌/◌, ◌<◌}
use native.Mathlib.Omega.{arith}
use mathlib.Core.Path.{◌≡◌, refl, sym, ap, ap₂, ◌∙◌}
use mathlib.Core.Bool.{Bool, true, false, cond, not}
use mathlib.Core.List.{List, [], ◌++◌, append_assoc}
use mathlib.Core.Option.{Option, none, some}
use lib.Dec.{ltb}
use lib.ListN.{length, get_or, set, take, drop, replicate, length-append}
use lib.Seq.{drop-append-le}
use borrow.Author.Tests.{le-ltb}
use Rattle.foil_spec.specs.Limits.{table_size, sheet_foils, sheet_entries, sheet_size}
use Rattle.foil_spec.specs.Ledger.{Room, with_output, Step, Answer, says, next, settle, refusal_of, first, after_lent}
use Rattle.foil_spec.specs.Lent.{Lent, lent, written, store, held, sound}
use Rattle.foil_spec.specs.Calls.{Call, step, run_record, ohms, lay_list, reply}
use Rattle.foil_spec.specs.Sheet.{counts_ok, SheetLent, no_board, counts, parts, joined, table_at, view, put_back, writes}
use Rattle.foil_spec.specs.Sheet.{sheet_room, sheet_step, opening, sheet_refusal, unless, sheet_call}
use Rattle.list_laws.proofs.Tests.{not-ff}
use Rattle.ledger_laws.proofs.Refusals.{no_more, none-applies}
use Rattle.ledger_laws.proofs.Replies.{shown_by, reply-shown}
use Rattle.sheet_laws.proofs.Counts.{ok-total}
use Rattle.sheet_laws.proofs.Parts.{parts-append}
use Rattle.sheet_laws.proofs.Views.{StandsAt, call-others}
use Rattle.sheet_laws.proofs.Called.{passed}
use Rattle.sheet_rows.specs.Rows.{sheet_lent}
use Rattle.sheet.specs.Contract.{on_sheet}

-- what is lent, with more numbers after the table
abbrev pub longer : List ℕ → SheetLent → SheetLent
longer rest m = sheet_lent m.boards (m.table ++ rest) m.strips

-- the call with more numbers after the table, and the call without
pub record Longer (rest : List ℕ) (k : ℕ) (c : Call) (m : SheetLent) (output : ℕ) : Type 0 where
  pub answer : (on_sheet k c (longer rest m) output).answer ≡ (on_sheet k c m output).answer
  pub state : (on_sheet k c (longer rest m) output).state ≡ longer rest (on_sheet k c m output).state

-- a sheet whose table is just its places, on which foil k may have so many entries
record WholeAt (most k : ℕ) (x : SheetLent) : Type 0 where
  stands : StandsAt most k x
  size : length x.table ≡ sheet_size

-- as many as the room r says
abbrev Whole : Room → ℕ → SheetLent → Type 0
Whole r k x = WholeAt r.limit k x

module _ (rest : List ℕ) (r : Room) (k : ℕ) (here : k < sheet_foils) where
  whole-after : (s : Step) (x : SheetLent) → Whole r k x → Whole r k (sheet_step k r s x).state
  unfolding reply
  whole-after s x w =
      let (stands, others) = call-others r k here (step s) x w.stands in
      record { stands = stands; size = others.size ∙ w.size }

  module _ (x : SheetLent) (w : Whole r k x) where
    abbrev ns : List ℕ
    ns = counts x.boards

    parts-longer : parts ns (x.table ++ rest) ≡ parts ns x.table
    parts-longer =
        parts-append ns x.table rest (omega (arith, ok-total ns w.stands.whole.limits, w.size))

    view-longer : view k (longer rest x) ≡ view k x
    unfolding view table_at
    view-longer =
        ap (λ (ps : List (List ℕ)). lent (get_or x.boards k no_board) (written table_size (get_or ps k []) []) x.strips)
        parts-longer

    put-longer : (v : Lent) → put_back k (longer rest x) v ≡ longer rest (put_back k x v)
    unfolding put_back written
    put-longer v =
        let p : List ℕ = take (5 * v.board.entries) v.table in
        let js : List ℕ = joined (set (parts ns x.table) k p) in
        let zs : List ℕ = replicate (sheet_size - length js) 0 in
        ap (λ (t : List ℕ). sheet_lent (set x.boards k v.board) t v.strips)
        (ap₂ (λ (ps : List (List ℕ)) (t : List ℕ). joined (set ps k p)
        ++ (replicate (sheet_size - length (joined (set ps k p))) 0 ++ t)) parts-longer
        (drop-append-le sheet_size x.table rest (omega (arith, w.size)))
        ∙ ap (λ (t : List ℕ). js ++ t) (sym (append_assoc zs (drop sheet_size x.table) rest))
        ∙ sym (append_assoc js (zs ++ drop sheet_size x.table) rest))

    after-longer : (t : Bool) (v : Lent)
        → cond t (put_back k (longer rest x) v) (longer rest x) ≡ longer rest (cond t (put_back k x v) x)
    after-longer true v = put-longer v
    after-longer false v = refl

    settle-longer : (o : Option ℕ) (a : Answer) (t : Bool) (v : Lent)
        → settle o (record { answer = a; state = cond t (put_back k (longer rest x) v) (longer rest x) }) (longer rest x)
        ≡ shown_by (longer rest) (settle o (record { answer = a; state = cond t (put_back k x v) x }) x)
    unfolding settle shown_by
    settle-longer (some n) a t v = refl
    settle-longer none a t v = ap (λ (y : SheetLent). record { answer = a; state = y }) (after-longer t v)

    step-longer : (s : Step) → sheet_step k r s (longer rest x) ≡ shown_by (longer rest) (sheet_step k r s x)
    unfolding sheet_step
    step-longer s =
        rw view-longer
        (settle-longer (refusal_of r (not (sound (view k x))) s (held (view k x))) (says s (held (view k x))) (writes s)
        (store (next s (held (view k x))) (view k x)))

module _ (rest : List ℕ) (r : Room) (k : ℕ) (here : k < sheet_foils) where
  reply-longer : (c : Call) (x : SheetLent) → Whole r k x
      → reply (sheet_step k) r (not (sound (view k (longer rest x)))) c (held (view k (longer rest x))) (longer rest x)
      ≡ shown_by (longer rest) (reply (sheet_step k) r (not (sound (view k x))) c (held (view k x)) x)
  reply-longer c x w =
      rw (view-longer rest r k here x w)
      (reply-shown (longer rest) (Whole r k) (sheet_step k) (sheet_step k) r
      (λ n s y v.
      record {
        is = step-longer rest (with_output r n) k here y v s;
        kept = whole-after rest (with_output r n) k here s y v;
      })
      (not (sound (view k x))) c (held (view k x)) x w).is

-- where no refusal that a call begins with applies, the counts keep both limits
unbroken : (r : Room) (b : Bool) (c : Call) → first (opening r b c) ≡ none → b ≡ false
unfolding opening after_lent
unbroken r b (step s) e = search none-applies
unbroken r b (run_record bs at) e = search none-applies
unbroken r b (ohms net i) e = search none-applies
unbroken r b (lay_list ws n) e = search none-applies

module _ (rest : List ℕ) (k : ℕ) (c : Call) (m : SheetLent) (output : ℕ) (full : length m.table ≡ sheet_size)
    (eight : length m.boards ≡ sheet_foils) where
  abbrev r : Room
  r = sheet_room k (counts m.boards) m output

  same-room : sheet_room k (counts m.boards) (longer rest m) output ≡ r
  unfolding sheet_room
  same-room =
      rw (
        le-ltb (length (m.table ++ rest) / 5) sheet_entries (omega (arith, length-append m.table rest, full)),
        le-ltb (length m.table / 5) sheet_entries (omega (arith, full)),
      ) refl

  abbrev broken : Bool
  broken = not (counts_ok (counts m.boards))

  in-room : sheet_refusal r broken k c ≡ none → Whole r k m
  unfolding sheet_refusal sheet_room
  in-room e =
      record {
        stands =
            record {
              whole =
                  record {
                    eight = eight;
                    limits =
                        not-ff (counts_ok (counts m.boards))
                        (unbroken r broken c (no_more (ltb 7 k) 23 (opening r broken c) e));
                    places = omega (arith, full);
                  };
              limit = refl;
            };
        size = full;
      }

  unless-longer : (o : Option ℕ) → sheet_refusal r broken k c ≡ o
      → unless o
      (reply (sheet_step k) r (not (sound (view k (longer rest m)))) c (held (view k (longer rest m))) (longer rest m))
      (longer rest m)
      ≡ shown_by (longer rest) (unless o (reply (sheet_step k) r (not (sound (view k m))) c (held (view k m)) m) m)
  unfolding unless shown_by
  unless-longer (some n) e = refl
  unless-longer none e = reply-longer rest r k (passed r broken k c e).here c m (in-room e)

  sheet-longer : on_sheet k c (longer rest m) output ≡ shown_by (longer rest) (on_sheet k c m output)
  unfolding sheet_call
  sheet-longer = rw same-room (unless-longer (sheet_refusal r broken k c) refl)

  pub call-longer : Longer rest k c m output
  unfolding shown_by
  call-longer =
      record {
        answer = ap (λ x. x.answer) sheet-longer;
        state = ap (λ x. x.state) sheet-longer;
      }
