-- The checks that are a record's own, return by return.
use Prim.Native.Nat.{ℕ, ◌+◌, ◌^◌, ◌≤◌, ◌<◌}
use mathlib.Core.Path.{◌≡◌, refl, sym, ap, ◌∙◌}
use mathlib.Core.Bool.{Bool, true, false, not, ◌&&◌, ◌||◌, and-true, xor}
use mathlib.Core.List.{List}
use lib.Dec.{eqb}
use lib.ListN.{length, get_or}
use borrow.Author.Tests.{lt-ltb, le-ltb, le-leb, lt-leb, eq-eqb, ne_eqb}
use Rattle.foil_spec.specs.Ledger.{first}
use Rattle.foil_spec.specs.Job.{map_bits, map_byte, has, fields_at, record_end, is_end, record_checks}
use Rattle.std.specs.Prelude.{Ok, Err}
use Rattle.job.specs.Parts.{checked_of}

-- a record has no board where it should, or one where it should not, or a pen without a board
abbrev astray : Bool → Bool → Bool → Bool
astray first board pen = xor first board || pen && not board

astray-first : (o p : Bool) → not o ≡ astray true o p
unfolding xor
astray-first true true = refl
astray-first true false = refl
astray-first false p = refl

module _ (bs : List ℕ) (at : ℕ) where
  abbrev pub Misplaced : Bool → Type 0
  Misplaced k = k ≡ astray (eqb at 0) (has bs at 0) (has bs at 5)

  pub first-board : (o : Bool) → o ≡ has bs at 0 → at ≡ 0 → Misplaced (not o)
  first-board o e z = rw (eq-eqb at 0 z) (ap not e ∙ astray-first (has bs at 0) (has bs at 5))

  module _ (o : Bool) (e : o ≡ has bs at 0) (later : at ≡ 0 → ⊥) where
    pub later-board : o ≡ true → Misplaced o
    unfolding xor
    later-board t = rw (ne_eqb at 0 later, sym e, t) refl

    pub later-pen : o ≡ false → (p : Bool) → p ≡ has bs at 5 → Misplaced p
    unfolding xor
    later-pen t p f = rw (ne_eqb at 0 later, sym e ∙ t) (f ∙ sym (and-true (has bs at 5)))

  pub no_byte : length bs ≤ at → Err 14 ≡ checked_of (first (record_checks bs at))
  unfolding checked_of first record_checks
  no_byte h = rw (le-leb (length bs) at h) refl

  module _ (there : at < length bs) where
    pub unknown : 2 ^ map_bits ≤ get_or bs at 0 → Err 15 ≡ checked_of (first (record_checks bs at))
    unfolding checked_of first record_checks map_byte
    unknown h = rw (lt-leb (length bs) at there, le-leb (2 ^ map_bits) (get_or bs at 0) h) refl

    module _ (known : get_or bs at 0 < 2 ^ map_bits) (k : Bool) (k-is : Misplaced k) where
      pub misplaced : k ≡ true → Err 16 ≡ checked_of (first (record_checks bs at))
      unfolding checked_of first record_checks map_byte
      misplaced e =
          rw (lt-leb (length bs) at there, lt-leb (2 ^ map_bits) (get_or bs at 0) known, sym k-is ∙ e) refl

      module _ (placed : k ≡ false) where
        pub end-early : get_or bs at 0 ≡ 0 → at + 1 < length bs → Err 17 ≡ checked_of (first (record_checks bs at))
        unfolding checked_of first record_checks map_byte is_end
        end-early z h =
            rw (
              lt-leb (length bs) at there,
              lt-leb (2 ^ map_bits) (get_or bs at 0) known,
              sym k-is ∙ placed,
              eq-eqb (get_or bs at 0) 0 z,
              lt-ltb (at + 1) (length bs) h,
            )
            refl

        pub end-last : get_or bs at 0 ≡ 0 → length bs ≤ at + 1 → Ok tt ≡ checked_of (first (record_checks bs at))
        unfolding checked_of first record_checks map_byte is_end
        end-last z h =
            rw (
              lt-leb (length bs) at there,
              lt-leb (2 ^ map_bits) (get_or bs at 0) known,
              sym k-is ∙ placed,
              eq-eqb (get_or bs at 0) 0 z,
              le-ltb (at + 1) (length bs) h,
            )
            refl

        module _ (more : get_or bs at 0 ≡ 0 → ⊥) (p : ℕ) (p-is : p ≡ fields_at bs at map_bits) where
          pub cut_short : length bs < p → Err 14 ≡ checked_of (first (record_checks bs at))
          unfolding checked_of first record_checks map_byte is_end record_end
          cut_short h =
              rw (
                lt-leb (length bs) at there,
                lt-leb (2 ^ map_bits) (get_or bs at 0) known,
                sym k-is ∙ placed,
                ne_eqb (get_or bs at 0) 0 more,
                ← p-is,
                lt-ltb (length bs) p h,
              )
              refl

          pub complete : p ≤ length bs → Ok tt ≡ checked_of (first (record_checks bs at))
          unfolding checked_of first record_checks map_byte is_end record_end
          complete h =
              rw (
                lt-leb (length bs) at there,
                lt-leb (2 ^ map_bits) (get_or bs at 0) known,
                sym k-is ∙ placed,
                ne_eqb (get_or bs at 0) 0 more,
                ← p-is,
                le-ltb (length bs) p h,
              )
              refl
