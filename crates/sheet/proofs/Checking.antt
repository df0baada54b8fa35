-- The checks that a call on a foil of a sheet begins with, return by return, and what is known of the foil after them.
use Prim.Native.Nat.{ℕ, ◌/◌, ◌≤◌, ◌<◌}
use native.Mathlib.Omega.{arith}
use mathlib.Core.Path.{◌≡◌, refl, sym, ap, ap₂, ◌∙◌, subst}
use mathlib.Core.Bool.{Bool, true, false, not, and-true}
use mathlib.Core.List.{List, []}
use mathlib.Core.Option.{none, some}
use lib.Dec.{ltb}
use lib.ListN.{length, get_or}
use borrow.Author.Tests.{lt-ltb, le-ltb, ltb-false}
use Rattle.foil_spec.specs.Limits.{max_entries, max_strips, strips_size, sheet_foils, sheet_entries, sheet_size}
use Rattle.foil_spec.specs.Ledger.{Room, short, Step, Refusal, first, reads, refused, refusals, after_lent, settle}
use Rattle.foil_spec.specs.Ledger.{refusal_of}
use Rattle.foil_spec.specs.Lent.{Lent, lent, held, sound}
use Rattle.foil_spec.specs.Wishes.{too_many}
use Rattle.foil_spec.specs.Calls.{Call, step, run_record, ohms, lay_list, ohms_reply, act_list, list_refusals, reply}
use Rattle.foil_spec.specs.Ohms.{ohms_refusals}
use Rattle.foil_spec.specs.declared.Ink.{Ink}
use Rattle.foil_spec.specs.Sheet.{counts_ok, limit_of, SheetLent, no_board, counts, table_at, view, sheet_room, sheet_step}
use Rattle.foil_spec.specs.Sheet.{opening, sheet_refusal, unless, sheet_call}
use Rattle.foil_spec.specs.declared.Board.{Board}
use Rattle.std.specs.Prelude.{Ok, Err}
use Rattle.foil.specs.Contract.{Checked, LentChecked}
use Rattle.list_laws.proofs.Tests.{clash, parts, not_t, not-ff}
use Rattle.ledger_laws.proofs.Refusals.{no-rule, no_more}
use Rattle.sheet_laws.specs.Alone.{EightFoils, RoomOn}
use Rattle.sheet_laws.proofs.Alone.{room-view}
use Rattle.sheet_laws.proofs.Lending.{table-long}
use Rattle.sheet.specs.Contract.{on_sheet}
use Rattle.sheet.specs.Parts.{Foil, sheet_opening, TakenOut, Lending, Opened, refused_on, reads_foil, Opening}

-- ---- 23, 12, and 13 for the counts

module _ (k : ℕ) (m : SheetLent) where
  -- the room of a call
  abbrev pub room : ℕ → Room
  room output = sheet_room k (counts m.boards) m output

  -- whether the counts break a limit
  abbrev broken : Bool
  broken = not (counts_ok (counts m.boards))

  pub no-foil : sheet_foils ≤ k → first (sheet_opening k m) ≡ some 23
  unfolding first
  no-foil l = rw (lt-ltb 7 k (omega arith)) refl

  module _ (here : k < sheet_foils) where
    pub short-table : length m.table < sheet_size → first (sheet_opening k m) ≡ some 12
    unfolding first after_lent short sheet_room
    short-table l = rw (le-ltb 7 k (omega arith), lt-ltb (length m.table / 5) sheet_entries (omega arith)) refl

    module _ (places : sheet_size ≤ length m.table) where
      pub short-strips : length m.strips < strips_size → first (sheet_opening k m) ≡ some 12
      unfolding first after_lent short sheet_room
      short-strips l =
          rw (
            le-ltb 7 k (omega arith),
            le-ltb (length m.table / 5) sheet_entries (omega arith),
            lt-ltb (length m.strips / 4) max_strips (omega arith),
          ) refl

      module _ (long : strips_size ≤ length m.strips) where
        pub long-room : (output : ℕ) → short (room output) ≡ false
        unfolding short sheet_room
        long-room output =
            rw (
              le-ltb (length m.table / 5) sheet_entries (omega arith),
              le-ltb (length m.strips / 4) max_strips (omega arith),
            ) refl

        pub bad-counts : (b : Bool) → b ≡ counts_ok (counts m.boards) → not b ≡ true
            → first (sheet_opening k m) ≡ some 13
        unfolding first after_lent
        bad-counts b e f = rw (le-ltb 7 k (omega arith), long-room 0, sym e ∙ not_t b f) refl

        pub good-counts : (b : Bool) → b ≡ counts_ok (counts m.boards) → not b ≡ false
            → first (sheet_opening k m) ≡ none
        unfolding first after_lent
        good-counts b e f = rw (le-ltb 7 k (omega arith), long-room 0, sym e ∙ not-ff b f) refl

  -- ---- where none of them applies

  -- the sheet has eight foils, as its records have their length
  module _ (eight : length m.boards ≡ sheet_foils) (none_of : first (sheet_opening k m) ≡ none) where
    after-23 : first (after_lent (room 0) broken []) ≡ none
    after-23 = no_more (ltb 7 k) 23 _ none_of

    after-12 : short (room 0) ≡ false
    unfolding after_lent
    after-12 = no-rule (short (room 0)) 12 _ after-23

    long-parts : (ltb (room 0).table max_entries ≡ false) × (ltb (length m.strips / 4) max_strips ≡ false)
    unfolding short sheet_room
    long-parts = let e = after-12 in (search parts, search parts)

    pub on-sheet : k < sheet_foils
    on-sheet = omega (arith, ltb-false 7 k (no-rule (ltb 7 k) 23 _ none_of))

    pub in-limits : EightFoils m.boards m.table
    unfolding after_lent sheet_room
    in-limits =
        record {
          eight = eight;
          limits = not-ff _ (no-rule broken 13 [] (no_more (short (room 0)) 12 _ after-23));
          places = table-long (length m.table) long-parts.0;
        }

    pub all-passed : (rows : List ℕ) (b : Board) → rows ≡ table_at k m.boards m.table → b ≡ get_or m.boards k no_board
        → TakenOut k m rows b
    all-passed rows b e f =
        record {
          here = on-sheet;
          eight-foils = in-limits;
          strips = omega (arith, ltb-false (length m.strips / 4) max_strips long-parts.1);
          is = e;
          board = f;
        }

-- ---- a call that is refused so

module _ (k : ℕ) (m : SheetLent) where
  pub refused-on : (c : Call) (output n : ℕ)
      → sheet_refusal (room k m output) (not (counts_ok (counts m.boards))) k c ≡ some n
      → on_sheet k c m output ≡ refused_on n m
  unfolding sheet_call unless
  refused-on c output n e = rw e refl

  -- by the checks that all calls but a record begin with
  step-opening : (s : Step) (output : ℕ)
      → sheet_refusal (room k m output) (not (counts_ok (counts m.boards))) k (step s) ≡ first (sheet_opening k m)
  unfolding sheet_refusal opening after_lent short sheet_room
  step-opening s output = refl

  ohms-opening : (net : ℕ) (i : Ink) (output : ℕ)
      → sheet_refusal (room k m output) (not (counts_ok (counts m.boards))) k (ohms net i) ≡ first (sheet_opening k m)
  unfolding sheet_refusal opening after_lent short sheet_room
  ohms-opening net i output = refl

  list-opening : (ws : List ℕ) (i output : ℕ) → too_many ws i ≡ false
      → sheet_refusal (room k m output) (not (counts_ok (counts m.boards))) k (lay_list ws i)
      ≡ first (sheet_opening k m)
  unfolding sheet_refusal opening first after_lent short sheet_room
  list-opening ws i output few = rw few refl

  pub step-unopened : (n : ℕ) → first (sheet_opening k m) ≡ some n → (s : Step) (output : ℕ)
      → on_sheet k (step s) m output ≡ refused_on n m
  step-unopened n e s output = refused-on (step s) output n (step-opening s output ∙ e)

  pub unopened : (n : ℕ) → first (sheet_opening k m) ≡ some n → (c : Call) (output : ℕ) → reads_foil c ≡ true
      → on_sheet k c m output ≡ refused_on n m
  unfolding reads_foil
  unopened n e (step s) output f = step-unopened n e s output
  unopened n e (run_record bs at) output f = clash f refl
  unopened n e (ohms net i) output f = refused-on (ohms net i) output n (ohms-opening net i output ∙ e)
  unopened n e (lay_list ws i) output f =
      refused-on (lay_list ws i) output n (list-opening ws i output (not_t (too_many ws i) f) ∙ e)

-- ---- a foil that was taken out

module _ (k : ℕ) (m : SheetLent) (rows : List ℕ) (b : Board) (o : TakenOut k m rows b) where
  abbrev v : Lent
  v = view k m

  pub out-long : (output : ℕ) → short (room k m output) ≡ false
  out-long output =
      long-room k m o.here o.eight-foils.places o.strips output

  pub in-room : (output : ℕ) → RoomOn (room k m output) k m
  unfolding sheet_room
  in-room output = record { here = o.here; eight-foils = o.eight-foils; limit = refl }

  pub limit_is : (n output : ℕ) → n ≡ limit_of (counts m.boards) k → (room k m output).limit ≡ n
  unfolding sheet_room
  limit_is n output e = sym e

  pub foil-is : lent b rows m.strips ≡ view k m
  unfolding view
  foil-is = ap₂ (λ (x : Board) (y : List ℕ). lent x y m.strips) o.board o.is

  -- no call but a record is refused before the foil is looked at
  pub step-goes : (s : Step) (output : ℕ) → sheet_refusal (room k m output) false k (step s) ≡ none
  unfolding sheet_refusal opening after_lent first
  step-goes s output = let l = o.here in rw (le-ltb 7 k (omega arith), out-long output) refl

  pub ohms-goes : (net : ℕ) (i : Ink) (output : ℕ) → sheet_refusal (room k m output) false k (ohms net i) ≡ none
  unfolding sheet_refusal opening after_lent first
  ohms-goes net i output = let l = o.here in rw (le-ltb 7 k (omega arith), out-long output) refl

  pub list-goes : (ws : List ℕ) (i output : ℕ) → too_many ws i ≡ false
      → sheet_refusal (room k m output) false k (lay_list ws i) ≡ none
  unfolding sheet_refusal opening after_lent first
  list-goes ws i output few = let l = o.here in rw (le-ltb 7 k (omega arith), few, out-long output) refl

  -- ---- the foil's own 13

  module _ (n : ℕ) (h : LentChecked (view k m) (Err n)) where
    pub own_first : (output : ℕ) (rs : List Refusal)
        → first (after_lent (room k m output) (not (sound (view k m))) rs) ≡ some n
    own_first output rs =
        ap (λ (r : Room). first (after_lent r (not (sound v)) rs)) (room-view k m output o.eight-foils o.here)
        ∙ h _ output rs

    step-own : (s : Step) (output : ℕ) → reads s ≡ true
        → sheet_step k (room k m output) s m ≡ record { answer = refused n; state = m }
    unfolding sheet_step settle refusal_of
    step-own s output f =
        rw (f, and-true (not (sound v)), own_first output (refusals s (room k m output) (held v))) refl

    list-own : (ws : List ℕ) (i output : ℕ) → not (too_many ws i) ≡ true
        → first (list_refusals (room k m output) (not (sound v)) ws i) ≡ some n
    unfolding list_refusals first
    list-own ws i output f = rw (not_t (too_many ws i) f) (own_first output [])

    pub own-unopened : (c : Call) (output : ℕ) → reads_foil c ≡ true → on_sheet k c m output ≡ refused_on n m
    unfolding reads_foil sheet_call unless reply ohms_reply act_list
    own-unopened (step s) output f =
        rw (o.eight-foils.limits, step-goes s output, step-own s output f) refl
    own-unopened (run_record bs at) output f = clash f refl
    own-unopened (ohms net i) output f =
        rw (o.eight-foils.limits, ohms-goes net i output, own_first output (ohms_refusals net i (held v))) refl
    own-unopened (lay_list ws i) output f =
        rw (o.eight-foils.limits, list-goes ws i output (not_t (too_many ws i) f), list-own ws i output f) refl

-- ---- the contracts, by the case of the check

module _ (k : ℕ) (m : SheetLent) (rows : List ℕ) (x : Foil) where
  pub taken_out : Lending k m rows x → (b : Board) → x ≡ Ok b → TakenOut k m rows b
  taken_out h b e = subst (Lending k m rows) e h

  pub not-out : Lending k m rows x → (n : ℕ) → x ≡ Err n → first (sheet_opening k m) ≡ some n
  not-out h n e = subst (Lending k m rows) e h

  pub opened : Opening k m rows x → (b : Board) → x ≡ Ok b → Opened k m rows b
  opened h b e = subst (Opening k m rows) e h

  pub not_opened : Opening k m rows x → (n : ℕ) → x ≡ Err n → Opening k m rows (Err n)
  not_opened h n e = subst (Opening k m rows) e h

-- its record and its rows keep the rules
pub keeps-rules : (k : ℕ) (m : SheetLent) (rows : List ℕ) (b : Board) → Opened k m rows b
    → sound (lent b rows m.strips) ≡ true
keeps-rules k m rows b o = ap sound (foil-is k m rows b o.out) ∙ o.keeps

-- no foil may have more than 128
pub limit-most : (ns : List ℕ) (k n : ℕ) → n ≡ limit_of ns k → n ≤ max_entries
unfolding limit_of
limit-most ns k n e = omega arith

-- what `lent_refusal` answers of the foil that was taken out
module _ (k : ℕ) (m : SheetLent) (rows : List ℕ) (b : Board) (o : TakenOut k m rows b) (x : Checked)
    (h : LentChecked (lent b rows m.strips) x) where
  pub own-opened : (u : Unit {0}) → x ≡ Ok u → Opened k m rows b
  own-opened u e =
      record {
        out = o;
        keeps =
            subst (λ (v : Lent). sound v ≡ true) (foil-is k m rows b o) (subst (LentChecked (lent b rows m.strips)) e h);
      }

  pub own-refused : (n : ℕ) → x ≡ Err n → Opening k m rows (Err n)
  own-refused n e =
      own-unopened k m rows b o n
      (subst (λ (v : Lent). LentChecked v (Err n)) (foil-is k m rows b o)
      (subst (LentChecked (lent b rows m.strips)) e h))
