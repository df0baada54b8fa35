-- The job file: the fields of a record, its steps, and its checks in order.
use Rattle.std.specs.Prelude.{ℕ, zero, suc, ◌+◌, ◌*◌, ◌/◌, ◌%◌, ◌^◌, Bool, cond, not, ◌&&◌, ◌||◌, List, [], ◌∷◌, map, leb, ltb, eqb, length, get_or}
use Rattle.std.specs.Bool.{xor}
use Rattle.foil_spec.specs.Lists.{range, cons_if}
use Rattle.foil_spec.specs.Limits.{max_entries, max_strips, corner_places}
use Rattle.foil_spec.specs.Foil.{Point, point, Entry, entry, pen}
use Rattle.foil_spec.specs.Ledger.{Room, Clearance, by_pen, by_reach, Step, new_foil, draw, lay, lift, put_leg}
use Rattle.foil_spec.specs.Ledger.{Refusal, ◌⇒◌}

-- the job program lends whole lists and all corner places
unfoldable pub job_room : Room
job_room = record { table = max_entries; strips = max_strips; output = 2 * corner_places; limit = max_entries }

-- the number of two bytes at a place, low byte first
unfoldable pub number : List ℕ → ℕ → ℕ
number bs at = get_or bs at 0 + 256 * get_or bs (at + 1) 0

-- how many numbers belong to each bit: W, H, reach; a patch; net, S and T to lay; net to lift; net and ends of a
-- leg; half width and gap of the pen
abbrev pub field_counts : List ℕ
field_counts = 3 ∷ 4 ∷ 5 ∷ 1 ∷ 5 ∷ 2 ∷ []

unfoldable pub field_count : ℕ → ℕ
field_count k = get_or field_counts k 0

-- how many bits a map byte may use; the last is no step of its own, but the pen of the board
abbrev pub map_bits : ℕ
map_bits = 6

abbrev pub step_bits : ℕ
step_bits = 5

-- the steps that a record holds: it begins a foil, draws a patch, lays a track, lifts a net, puts a leg
pub data RecordStep : Type 0 where
  board_step : ℕ → ℕ → Clearance → RecordStep
  patch_step : ℕ → ℕ → ℕ → ℕ → RecordStep
  track_step : ℕ → Point → Point → RecordStep
  lift_step : ℕ → RecordStep
  leg_step : Entry → RecordStep

-- as steps of the ledger
unfoldable pub as_step : RecordStep → Step
as_step (board_step W H c) = new_foil W H c
as_step (patch_step x0 y0 x1 y1) = draw x0 y0 x1 y1
as_step (track_step net S T) = lay net S T
as_step (lift_step net) = lift net
as_step (leg_step e) = put_leg e

-- the record that begins at a place of the bytes
module _ (bs : List ℕ) (at : ℕ) where
  -- the map byte, whose bits say which fields follow
  unfoldable pub map_byte : ℕ
  map_byte = get_or bs at 0

  -- bit k of the map byte is set
  unfoldable pub has : ℕ → Bool
  has k = eqb (map_byte / 2 ^ k % 2) 1

  -- where the fields of bit k begin, or would begin: after the map byte and the fields of lower bits
  unfoldable pub fields_at : ℕ → ℕ
  fields_at zero = at + 1
  fields_at (suc k) = fields_at k + cond (has k) (2 * field_count k) 0

  -- the place after the record
  unfoldable pub record_end : ℕ
  record_end = fields_at map_bits

  -- number i of the fields of bit k
  unfoldable pub field : ℕ → ℕ → ℕ
  field k i = number bs (fields_at k + 2 * i)

  -- the step of bit k, by its fields
  unfoldable pub step_at : ℕ → RecordStep
  step_at zero =
      board_step (field 0 0) (field 0 1) (cond (has 5) (by_pen (pen (field 5 0) (field 5 1))) (by_reach (field 0 2)))
  step_at (suc zero) = patch_step (field 1 0) (field 1 1) (field 1 2) (field 1 3)
  step_at (suc (suc zero)) = track_step (field 2 0) (point (field 2 1) (field 2 2)) (point (field 2 3) (field 2 4))
  step_at (suc (suc (suc zero))) = lift_step (field 3 0)
  step_at (suc (suc (suc (suc k)))) = leg_step (entry (field 4 0) (field 4 1) (field 4 2) (field 4 3) (field 4 4))

  -- the steps of the bits of a list that are set, in its order
  unfoldable pub steps_at : List ℕ → List RecordStep
  steps_at [] = []
  steps_at (k ∷ ks) = cons_if (has k) (step_at k) (steps_at ks)

  -- the steps of the record, in bit order
  unfoldable pub record_steps : List RecordStep
  record_steps = steps_at (range 0 step_bits)

  -- the same as steps of the ledger
  unfoldable pub steps : List Step
  steps = map as_step record_steps

  -- the end mark
  unfoldable pub is_end : Bool
  is_end = eqb map_byte 0

  -- the checks of a record, in order; the first record is the one at place 0
  unfoldable pub record_checks : List Refusal
  record_checks =
      (leb (length bs) at ⇒ 14)
      ∷ (leb (2 ^ map_bits) map_byte ⇒ 15)
      ∷ (xor (eqb at 0) (has 0) || has 5 && not (has 0) ⇒ 16)
      ∷ (is_end && ltb (at + 1) (length bs) ⇒ 17)
      ∷ (not is_end && ltb (length bs) record_end ⇒ 14)
      ∷ []
