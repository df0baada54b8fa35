-- What a job without pens gives (document 02, P5 and P6): what it gave by document 01, with its reach, but for points
-- that are nearer to the edge than the reach.
use Rattle.std.specs.Prelude.{ℕ, ◌+◌, ◌≡◌, true, false, not, ◌&&◌, ◌||◌, List, [], ◌∷◌, leb, ltb, eqb, length}
use Rattle.std.specs.Bool.{xor}
use Rattle.foil_spec.specs.Lists.{all}
use Rattle.foil_spec.specs.Foil.{Entry, Pen, pen, Layout, size_ok, blocks, reach_rule, near_edge, free_by, free}
use Rattle.foil_spec.specs.Ledger.{Room, by_pen, by_reach, Step, new_foil, next, refused, Refusal, ◌⇒◌, refusals}
use Rattle.foil_spec.specs.Job.{board_step, map_byte, has, fields_at, record_end, field, step_at, is_end, record_checks}
use Rattle.foil_spec.specs.Calls.{ends_job}
use Rattle.ledger_laws.specs.Line.{own_numbers}
use Rattle.ledger_laws.specs.Numbers.{among}

-- the checks of a record as they were, with bits 0 to 4
unfoldable pub old_checks : List ℕ → ℕ → List Refusal
old_checks bs at =
    (leb (length bs) at ⇒ 14)
    ∷ (leb 32 (map_byte bs at) ⇒ 15)
    ∷ (xor (eqb at 0) (has bs at 0) ⇒ 16)
    ∷ (is_end bs at && ltb (at + 1) (length bs) ⇒ 17)
    ∷ (not (is_end bs at) && ltb (length bs) (fields_at bs at 5) ⇒ 14)
    ∷ []

-- the record at a place is read as it was: by these checks, up to the end of the fields of bit 4, and its board by the
-- reach
pub record ReadAsBefore (bs : List ℕ) (at : ℕ) : Type 0 where
  pub checks : record_checks bs at ≡ old_checks bs at
  pub ends : record_end bs at ≡ fields_at bs at 5
  pub board : step_at bs at 0 ≡ board_step (field bs at 0 0) (field bs at 0 1) (by_reach (field bs at 0 2))

-- so is every record without bit 5
abbrev pub OldRecords : Type 0
OldRecords = (bs : List ℕ) (at : ℕ) → has bs at 5 ≡ false → ReadAsBefore bs at

-- a foil by a reach: its pen has the half width 0, and the reach for a gap
abbrev pub of_reach : ℕ → ℕ → ℕ → List Entry → Layout
of_reach W H d es = record { width = W; height = H; pen = pen 0 d; entries = es }

-- a new foil by a reach is refused by 1, then by 2 above 15
pub record BeginsAsBefore (W H d : ℕ) (r : Room) (l : Layout) : Type 0 where
  pub refusals-are : refusals (new_foil W H (by_reach d)) r l
      ≡ (not (size_ok W && size_ok H) ⇒ 1) ∷ (not (leb d 15) ⇒ 2) ∷ []
  pub leaves : next (new_foil W H (by_reach d)) l ≡ of_reach W H d []

abbrev pub OldBoards : Type 0
OldBoards = (W H d : ℕ) (r : Room) (l : Layout) → BeginsAsBefore W H d r l

-- by document 01's rule the point is free just if it is on the foil and no entry blocks it up to the reach away; on a
-- foil by the reach just if, besides, it is not nearer than the reach to the edge, which for a reach of 0 adds nothing
pub record FreeAsBefore (W H d : ℕ) (es : List Entry) (x y : ℕ) : Type 0 where
  pub by-reach : free_by (reach_rule d) W H es x y
      ≡ (ltb x W && ltb y H && all (λ (e : Entry). not (blocks d e x y)) es)
  pub by-pen : free (of_reach W H d es) x y
      ≡ (free_by (reach_rule d) W H es x y && not (near_edge d W x || near_edge d H y))
  pub by-none : d ≡ 0 → free (of_reach W H d es) x y ≡ free_by (reach_rule d) W H es x y

abbrev pub OldFree : Type 0
OldFree = (W H d : ℕ) (es : List Entry) (x y : ℕ) → FreeAsBefore W H d es x y

-- 20 is a number of a new foil by a pen and of no other step
abbrev pub OnlyPens20 : Type 0
OnlyPens20 =
    (s : Step) → among 20 (own_numbers s) ≡ true → (W H : ℕ) × (p : Pen) × (s ≡ new_foil W H (by_pen p))

-- any other number ends the job as it did, which is 1 or 2
abbrev pub OldEnds : Type 0
OldEnds = (n : ℕ) → eqb n 20 ≡ false → ends_job (refused n) ≡ (eqb n 1 || eqb n 2)
