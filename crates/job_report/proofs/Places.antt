-- The next place lies after the record, and among the bytes of a file that is not too large.
use Prim.Native.Nat.{ℕ, zero, suc, ◌+◌, ◌≤◌, ◌<◌}
use native.Mathlib.Omega.{arith}
use mathlib.Core.Path.{◌≡◌, refl, subst}
use mathlib.Core.Bool.{Bool, true, false, cond, not, ◌&&◌}
use mathlib.Core.List.{List}
use mathlib.Core.Option.{Option, none, some, none-ne-some}
use lib.Dec.{ltb}
use lib.ListN.{length}
use borrow.Author.Tests.{ltb-false}
use Rattle.foil_spec.specs.Lists.{any}
use Rattle.foil_spec.specs.Limits.{max_bytes}
use Rattle.foil_spec.specs.Foil.{Layout}
use Rattle.foil_spec.specs.Ledger.{Step, Answer, first, Room, After, after_lent, ledger_step}
use Rattle.foil_spec.specs.Lent.{sound}
use Rattle.foil_spec.specs.Job.{map_bits, field_count, has, fields_at, record_end, steps, is_end, record_checks}
use Rattle.foil_spec.specs.Calls.{RecordReply, refused_whole, ends_job, act_all, act_record, too_large, whole_refusals}
use Rattle.foil_spec.specs.Calls.{record_by, ledger_record, place_after}
use Rattle.foil_spec.specs.Sheet.{SheetLent, view, sheet_step, unless_whole, sheet_record}
use Rattle.ledger_laws.proofs.Refusals.{none-applies}
use Rattle.ledger_laws.proofs.Lending.{board-first, own-checks}
use Rattle.std.specs.Prelude.{Some, None}
use Rattle.job.specs.Contract.{next_of}

pub record Later (bs : List ℕ) (at n : ℕ) : Type 0 where
  pub after : at < n
  pub within : n ≤ length bs
  pub few : length bs ≤ max_bytes

fields-after : (bs : List ℕ) (at k : ℕ) → at < fields_at bs at k
unfolding fields_at
fields-after bs at zero = omega arith
fields-after bs at (suc k) = omega (arith, fields-after bs at k)

-- the fields of a board take six bytes
fields-board : (bs : List ℕ) (at k : ℕ) → has bs at 0 ≡ true → at + 6 < fields_at bs at (suc k)
unfolding fields_at field_count
fields-board bs at zero set = rw set (omega arith)
fields-board bs at (suc k) set = omega (arith, fields-board bs at k set)

-- a record after which there is a next place, where `act` does a step and `broken` says that the state breaks a rule
module _ {S : Type 0} (act : Step → S → After Answer S) (r : Room) (broken : Bool) (bs : List ℕ) (at : ℕ) (s : S) where
  pub record Goes (n : ℕ) : Type 0 where
    pub unrefused : first (whole_refusals r broken bs at) ≡ none
    pub not_end : is_end bs at ≡ false
    pub none-ends : any ends_job (act_all act (steps bs at) s).answer ≡ false
    pub place : record_end bs at ≡ n

  pub goes : (n : ℕ)
      → place_after
      (act_record act (first (whole_refusals r broken bs at)) (is_end bs at) (steps bs at) (record_end bs at) s).answer
      ≡ some n → Goes n
  unfolding act_record place_after
  goes n = go (first (whole_refusals r broken bs at)) (is_end bs at) refl refl
    where
      ends : (t : Bool) → cond t none (some (record_end bs at)) ≡ some n → (t ≡ false) × (record_end bs at ≡ n)
      ends true h = absurd (let z : ◌≡◌ {A = ℕ} 0 1 = cc in omega arith)
      ends false h = (refl, cc)

      go : (o : Option ℕ) (e : Bool) → first (whole_refusals r broken bs at) ≡ o → is_end bs at ≡ e
          → place_after (act_record act o e (steps bs at) (record_end bs at) s).answer ≡ some n → Goes n
      go (some k) e f g h = absurd (let z : ◌≡◌ {A = ℕ} 0 1 = cc in omega arith)
      go none true f g h = absurd (let z : ◌≡◌ {A = ℕ} 0 1 = cc in omega arith)
      go none false f g h =
          let last = ends (any ends_job (act_all act (steps bs at) s).answer) h in
          record { unrefused = f; not_end = g; none-ends = last.0; place = last.1 }

  later : (n : ℕ) → Goes n → Later bs at n
  unfolding whole_refusals after_lent record_checks too_large
  later n g =
      let e = g.unrefused in
      let large : ltb max_bytes (length bs) ≡ false = search none-applies in
      let ends : (not (is_end bs at) && ltb (length bs) (record_end bs at)) ≡ false = search none-applies depth 12 in
      subst (Later bs at) g.place
      (record {
        after = unfold record_end in fields-after bs at map_bits;
        within = ltb-false (length bs) (record_end bs at) (rw g.not_end at ends);
        few = ltb-false max_bytes (length bs) large;
      })

-- on the ledger
pub ledger-later : (r : Room) (bs : List ℕ) (at : ℕ) (l : Layout) (n : ℕ)
    → place_after (ledger_record r bs at l).answer ≡ some n → Later bs at n
unfolding ledger_record
ledger-later r bs at l n h =
    later (ledger_step r) r false bs at l n (goes (ledger_step r) r false bs at l n h)

-- what holds of a reply on a sheet, and of no refusal, holds of the reply past the refusals that the call begins with
pub past-opening : (P : RecordReply → Type 0) → ((n : ℕ) → P (refused_whole n) → ⊥) → (o : Option ℕ)
    (a : After RecordReply SheetLent) (x : SheetLent) → P (unless_whole o a x).answer → P a.answer
unfolding unless_whole
past-opening P never (some n) a x h = absurd (never n h)
past-opening P never none a x h = h

-- on foil 0 of a sheet
module _ (r : Room) (bs : List ℕ) (x : SheetLent) where
  abbrev broken : Bool
  broken = not (sound (view 0 x))

  no_place : (n k : ℕ) → place_after (refused_whole k) ≡ some n → ⊥
  unfolding place_after
  no_place n k h = none-ne-some n h

  sheet-goes : (at n : ℕ) → place_after (sheet_record r 0 bs at x).answer ≡ some n
      → Goes (sheet_step 0 r) r broken bs at x n
  unfolding sheet_record
  sheet-goes at n h =
      goes (sheet_step 0 r) r broken bs at x n
      (past-opening (λ a. place_after a ≡ some n) (no_place n) _
      (record_by (sheet_step 0) r broken bs at x) x h)

  pub call-later : (at n : ℕ) → place_after (sheet_record r 0 bs at x).answer ≡ some n → Later bs at n
  call-later at n h = later (sheet_step 0 r) r broken bs at x n (sheet-goes at n h)

  -- the first record has a board
  pub first-later : (n : ℕ) → place_after (sheet_record r 0 bs 0 x).answer ≡ some n → 6 < n
  unfolding record_end
  first-later n h =
      let g = sheet-goes 0 n h in
      let set = board-first bs (own-checks r broken bs 0 g.unrefused) in
      omega (arith, fields-board bs 0 5 set, g.place)

-- ---- the next place as the code has it

pub at_place : (o : Option ℕ) (p : ℕ) → next_of o ≡ Some p → o ≡ some p
unfolding next_of
at_place none p e = absurd (let z : ◌≡◌ {A = ℕ} 0 1 = cc in omega arith)
at_place (some n) p e = let same : n ≡ p = cc in rw same refl

pub nowhere : (o : Option ℕ) → next_of o ≡ None → o ≡ none
unfolding next_of
nowhere none e = refl
nowhere (some n) e = absurd (let z : ◌≡◌ {A = ℕ} 0 1 = cc in omega arith)
