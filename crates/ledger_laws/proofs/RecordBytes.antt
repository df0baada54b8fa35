-- A record of a job file reads alike wherever it stands; and what the records of a saved foil are read as.
use Prim.Native.Nat.{ℕ, zero, suc, ◌+◌, ◌*◌, ◌/◌, ◌%◌, ◌≤◌, ◌<◌}
use native.Mathlib.Omega.{arith}
use native.Mathlib.Nat.{add-zero}
use mathlib.Core.Path.{◌≡◌, refl, sym, ap, ap₂, ◌∙◌}
use mathlib.Core.Bool.{Bool, true, false, cond, not, ◌&&◌, xor}
use mathlib.Core.List.{List, [], ◌∷◌, ◌++◌}
use mathlib.Core.Option.{none}
use lib.Dec.{eqb}
use borrow.Author.Tests.{ne_eqb, lt-leb, le-ltb}
use lib.ListN.{length, get_or, length-append}
use lib.Seq.{get_or-append-add}
use Rattle.foil_spec.specs.Foil.{Entry, entry, entry_numbers, pen, Layout}
use Rattle.foil_spec.specs.Saving.{two_bytes, board_bytes, patch_bytes, leg_bytes, entry_bytes}
use Rattle.foil_spec.specs.Ledger.{by_pen, Step, new_foil, draw, put_leg, first}
use Rattle.foil_spec.specs.Job.{number, field_count, map_bits, map_byte, has, fields_at, record_end, field, step_at, steps_at}
use Rattle.foil_spec.specs.Job.{as_step, record_steps, steps, is_end, record_checks}

-- ---- a record after other bytes

module _ (done bs : List ℕ) where
  byte-moved : map_byte (done ++ bs) (length done) ≡ map_byte bs 0
  unfolding map_byte
  byte-moved = ap (λ (k : ℕ). get_or (done ++ bs) k 0) (sym (add-zero (length done))) ∙ get_or-append-add done bs 0 0

  number-moved : (k : ℕ) → number (done ++ bs) (length done + k) ≡ number bs k
  unfolding number
  number-moved k =
      ap₂ (λ (a b : ℕ). a + 256 * b) (get_or-append-add done bs k 0)
      (ap (λ (j : ℕ). get_or (done ++ bs) j 0) (let e : length done + k + 1 ≡ length done + (k + 1) = omega arith in e)
      ∙ get_or-append-add done bs (k + 1) 0)

  has-moved : (k : ℕ) → has (done ++ bs) (length done) k ≡ has bs 0 k
  unfolding has
  has-moved k = rw byte-moved refl

  mark-moved : is_end (done ++ bs) (length done) ≡ is_end bs 0
  unfolding is_end
  mark-moved = rw byte-moved refl

  fields-moved : (k : ℕ) → fields_at (done ++ bs) (length done) k ≡ length done + fields_at bs 0 k
  unfolding fields_at
  fields-moved zero = refl
  fields-moved (suc k) =
      rw (has-moved k, fields-moved k)
      (let a : (x : ℕ) → length done + fields_at bs 0 k + x ≡ length done + (fields_at bs 0 k + x) = λ x. omega arith in
      a (cond (has bs 0 k) (2 * field_count k) 0))

  field-moved : (k i : ℕ) → field (done ++ bs) (length done) k i ≡ field bs 0 k i
  unfolding field
  field-moved k i =
      let a : length done + fields_at bs 0 k + 2 * i ≡ length done + (fields_at bs 0 k + 2 * i) = omega arith in
      rw (fields-moved k, a) (number-moved (fields_at bs 0 k + 2 * i))

  end_moved : record_end (done ++ bs) (length done) ≡ length done + record_end bs 0
  unfolding record_end
  end_moved = fields-moved map_bits

  steps-moved : steps (done ++ bs) (length done) ≡ steps bs 0
  unfolding steps record_steps steps_at step_at as_step
  steps-moved = simp (has-moved, field-moved)

-- ---- what the bytes of a board, a patch and a leg are read as

two_back : (n : ℕ) → n % 256 + 256 * (n / 256) ≡ n
two_back n = omega arith

-- the bytes begin with a record of so many bytes, which is one step; a board's record has bit 0, and it alone bit 5
pub record OneStep (bs : List ℕ) (board : Bool) (s : Step) (size : ℕ) : Type 0 where
  pub known : map_byte bs 0 < 64
  pub opens : has bs 0 0 ≡ board
  pub pens : has bs 0 5 ≡ board
  pub goes_on : is_end bs 0 ≡ false
  pub does : steps bs 0 ≡ s ∷ []
  pub ends : record_end bs 0 ≡ size
  pub fits : size ≤ length bs
  pub some_bytes : 1 ≤ size

module _ (rest : List ℕ) where
  pub board-begins : (l : Layout)
      → OneStep (board_bytes l ++ rest) true (new_foil l.width l.height (by_pen l.pen))
      (length (board_bytes l))
  unfolding board_bytes two_bytes map_byte has is_end steps record_steps steps_at step_at as_step fields_at field number
      record_end field_count
  board-begins l =
      record {
        known = omega arith;
        opens = refl;
        pens = refl;
        goes_on = refl;
        does = λ i.
            new_foil (two_back l.width i) (two_back l.height i)
            (by_pen (pen (two_back l.pen.half i) (two_back l.pen.gap i)))
            ∷ [];
        ends = refl;
        fits = omega arith;
        some_bytes = omega arith;
      }

  patch-begins : (e : Entry)
      → OneStep (patch_bytes e ++ rest) false (draw e.x0 e.y0 e.x1 e.y1) (length (patch_bytes e))
  unfolding patch_bytes two_bytes map_byte has is_end steps record_steps steps_at step_at as_step fields_at field number
      record_end field_count
  patch-begins e =
      record {
        known = omega arith;
        opens = refl;
        pens = refl;
        goes_on = refl;
        does = λ i. draw (two_back e.x0 i) (two_back e.y0 i) (two_back e.x1 i) (two_back e.y1 i) ∷ [];
        ends = refl;
        fits = omega arith;
        some_bytes = omega arith;
      }

  leg-begins : (e : Entry) → OneStep (leg_bytes e ++ rest) false (put_leg e) (length (leg_bytes e))
  unfolding leg_bytes entry_numbers two_bytes map_byte has is_end steps record_steps steps_at step_at as_step fields_at field
      number record_end field_count
  leg-begins e =
      record {
        known = omega arith;
        opens = refl;
        pens = refl;
        goes_on = refl;
        does = λ i.
            put_leg
            (entry (two_back e.net i) (two_back e.x0 i) (two_back e.y0 i) (two_back e.x1 i)
            (two_back e.y1 i))
            ∷ [];
        ends = refl;
        fits = omega arith;
        some_bytes = omega arith;
      }

-- the step that puts an entry into a table again
unfoldable pub step_of : Entry → Step
step_of e = cond (eqb e.net 0) (draw e.x0 e.y0 e.x1 e.y1) (put_leg e)

pub entry-begins : (e : Entry) (rest : List ℕ)
    → OneStep (entry_bytes e ++ rest) false (step_of e) (length (entry_bytes e))
unfolding entry_bytes step_of
entry-begins e rest = go (eqb e.net 0)
  where
    go : (t : Bool)
        → OneStep (cond t (patch_bytes e) (leg_bytes e) ++ rest) false
        (cond t (draw e.x0 e.y0 e.x1 e.y1) (put_leg e)) (length (cond t (patch_bytes e) (leg_bytes e)))
    go true = patch-begins rest e
    go false = leg-begins rest e

-- ---- the record there

-- bit 5 stands beside bit 0
beside : (t : Bool) → (t && not t) ≡ false
beside true = refl
beside false = refl

module _ (done bs : List ℕ) (board : Bool) (s : Step) (size : ℕ) (b : OneStep bs board s size) where
  pub passes-there : xor (eqb (length done) 0) board ≡ false → first (record_checks (done ++ bs) (length done)) ≡ none
  unfolding record_checks first
  passes-there right =
      let n = length-append done bs in
      simp (
        lt-leb (length (done ++ bs)) (length done) (omega (arith, b.fits, b.some_bytes)),
        byte-moved done bs,
        lt-leb 64 (map_byte bs 0) b.known,
        has-moved done bs 0,
        has-moved done bs 5,
        b.opens,
        b.pens,
        right,
        beside board,
        mark-moved done bs,
        b.goes_on,
        end_moved done bs,
        b.ends,
        le-ltb (length (done ++ bs)) (length done + size) (omega (arith, b.fits)),
      )

  pub goes-on-there : is_end (done ++ bs) (length done) ≡ false
  goes-on-there = mark-moved done bs ∙ b.goes_on

  pub does-there : steps (done ++ bs) (length done) ≡ s ∷ []
  does-there = steps-moved done bs ∙ b.does

  pub ends_there : record_end (done ++ bs) (length done) ≡ length done + size
  ends_there = end_moved done bs ∙ ap (λ (k : ℕ). length done + k) b.ends

-- the end mark as the last byte
module _ (done : List ℕ) (later : 0 < length done) where
  pub mark-there : is_end (done ++ (0 ∷ [])) (length done) ≡ true
  mark-there = mark-moved done (0 ∷ []) ∙ (unfold is_end map_byte in refl)

  pub mark-passes : first (record_checks (done ++ (0 ∷ [])) (length done)) ≡ none
  unfolding record_checks first xor
  mark-passes =
      let n = length-append done (0 ∷ []) in
      let byte : map_byte (0 ∷ []) 0 ≡ 0 = unfold map_byte in refl in
      let no-board : has (0 ∷ []) 0 0 ≡ false = unfold has map_byte in refl in
      let no-pen : has (0 ∷ []) 0 5 ≡ false = unfold has map_byte in refl in
      simp (
        lt-leb (length (done ++ (0 ∷ []))) (length done) (omega arith),
        byte-moved done (0 ∷ []),
        byte,
        has-moved done (0 ∷ []) 0,
        has-moved done (0 ∷ []) 5,
        no-board,
        no-pen,
        ne_eqb (length done) 0 (λ e. omega arith),
        mark-there,
        le-ltb (length done + 1) (length (done ++ (0 ∷ []))) (omega arith),
      )
