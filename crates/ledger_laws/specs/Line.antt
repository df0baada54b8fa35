-- What every step has to keep, so that lists of calls behave as the ledger: one clause a step, in proofs/Line.
use Rattle.std.specs.Prelude.{ℕ, ◌<◌, ◌≡◌, Bool, true, false, not, ◌||◌, List, ◌⊎◌, ltb, eqb, length}
use Rattle.std.proofs.Math.Option.{none, some}
use Rattle.foil_spec.specs.Lists.{all, keep}
use Rattle.foil_spec.specs.Limits.{report_places}
use Rattle.foil_spec.specs.Foil.{Point, Layout, no_foil}
use Rattle.foil_spec.specs.Saving.{job_of}
use Rattle.foil_spec.specs.Slip.{slip_of}
use Rattle.foil_spec.specs.Carrying.{Old, old_short}
use Rattle.foil_spec.specs.Ledger.{corners_of, join_corners, Room, corner_room, Step, new_foil, draw, lay, lift, look_up}
use Rattle.foil_spec.specs.Ledger.{put_leg, save, find, book, slip, join, carry, number_of, next, says}
use Rattle.foil_spec.specs.Ledger.{first, reads, refusals}
use Rattle.foil_spec.specs.Lent.{layout_ok}
unfoldable pub use Rattle.foil_spec.specs.Orders.{numbers_from}

-- every number but n
unfoldable pub but : ℕ → ℕ → Bool
but n k = not (eqb n k)

-- the numbers of a step's own refusals, whatever foil it is lent; 12 is for its output list and not counted
unfoldable pub own_numbers : Step → List ℕ
own_numbers s =
    keep (but 12) (numbers_from (refusals s (record { table = 0; strips = 0; output = 0; limit = 0 }) no_foil))

-- what an output list is too short for: the corners of a path, those of the join that the step is, the bytes of the
-- foil's file, or those of its slip
pub data Lacks (s : Step) (r : Room) (l : Layout) : Type 0 where
  corners : (S T : Point) → corner_room r < length (corners_of l S T) → Lacks s r l
  joint : (net : ℕ) (S : Point) → s ≡ join net S → corner_room r < length (join_corners net l S) → Lacks s r l
  bytes : r.output < length (job_of l) → Lacks s r l
  page : r.output < length (slip_of l) → Lacks s r l

-- what a carry is lent too little of: its old lists are too short, or its report
pub record LacksOld (s : Step) (r : Room) : Type 0 where
  pub from : Old
  pub is : s ≡ carry from
  pub lacks : (old_short from || ltb r.output report_places) ≡ true

-- the step carries no foil over
unfoldable pub no_carry : Step → Bool
no_carry (new_foil W H c) = true
no_carry (draw x0 y0 x1 y1) = true
no_carry (lay net S T) = true
no_carry (lift net) = true
no_carry (look_up p) = true
no_carry (put_leg e) = true
no_carry save = true
no_carry (find S T) = true
no_carry (book net ks) = true
no_carry slip = true
no_carry (join net S) = true
no_carry (carry o) = false

-- the step s on the ledger
pub record Line (s : Step) : Type 0 where
  -- accepted, it leaves a layout that keeps the rules, if the one that it reads does
  pub kept : (r : Room) (l : Layout) → (reads s ≡ true → layout_ok l ≡ true) → first (refusals s r l) ≡ none
      → layout_ok (next s l) ≡ true
  -- accepted where no foil is begun that it could read, it leaves none
  pub unbegun : reads s ≡ true → (r : Room) → first (refusals s r no_foil) ≡ none → next s no_foil ≡ no_foil
  -- its answer is no refusal then
  pub accepts : (l : Layout) → number_of (says s l) ≡ 0
  -- it has the same numbers on every foil, and 13 is none of its own; that of a carry is about the old foil
  pub numbers : (r : Room) (l : Layout) → keep (but 12) (numbers_from (refusals s r l)) ≡ own_numbers s
  pub unbroken : no_carry s ≡ true → all (but 13) (own_numbers s) ≡ true
  -- of the room its own refusals ask for the output and the limit alone
  pub of_room : (r r' : Room) (l : Layout) → r.output ≡ r'.output → r.limit ≡ r'.limit
      → refusals s r l ≡ refusals s r' l
  -- a step that reads nothing of the foil is the same on every foil
  pub blind : reads s ≡ false → (r : Room) (l l' : Layout)
      → (refusals s r l ≡ refusals s r l') × (says s l ≡ says s l') × (next s l ≡ next s l')
  -- its own 12 is for want of output, on a foil that it reads, or for what a carry is lent
  pub output : (r : Room) (l : Layout) → first (refusals s r l) ≡ some 12
      → ((reads s ≡ true) × Lacks s r l) ⊎ LacksOld s r
