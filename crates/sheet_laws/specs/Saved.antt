-- A foil of a sheet that is saved reads back alike, as it is stated (document 02, P12).
use Rattle.std.specs.Prelude.{ℕ, ◌+◌, ◌≤◌, ◌≡◌, false, List, length, get_or}
use Rattle.foil_spec.specs.Limits.{max_bytes}
use Rattle.foil_spec.specs.Ledger.{Room, short, save, wrote}
use Rattle.foil_spec.specs.Lent.{held}
use Rattle.foil_spec.specs.Calls.{step, answered, read_job}
use Rattle.foil_spec.specs.Sheet.{SheetLent, counts, view, sheet_call, sheet_record}
use Rattle.ledger_laws.specs.Saved.{all_accepted, last_place, SameFoil}
use Rattle.sheet_laws.specs.Alone.{RoomOn}

-- the bytes bs are a job file that, run in the room r on foil j of the sheet x, gives the foil k of the sheet m
pub record ReadBackOn (r : Room) (bs : List ℕ) (k : ℕ) (m : SheetLent) (j : ℕ) (x : SheetLent) : Type 0 where
  -- every step is accepted, and the end mark is met
  pub replies : (read_job (sheet_record r j) bs x).answer ≡ all_accepted (held (view k m))
  -- as the last byte
  pub ends : last_place 0 (read_job (sheet_record r j) bs x).answer + 1 ≡ length bs
  -- the file is not too large for a job
  pub small : length bs ≤ max_bytes
  -- the record, the entries and the strips are those of foil k
  pub same : SameFoil (view k m) (view j (read_job (sheet_record r j) bs x).state)

-- the bytes that save wrote of foil k read back as foil j of any sheet whose lists are long enough, if each step fits:
-- foil j may have as many entries
abbrev pub SheetReadsBack : Type 0
SheetReadsBack =
    (r r' : Room) (k j : ℕ) (m x : SheetLent) (bs : List ℕ) → RoomOn r k m → RoomOn r' j x → short r' ≡ false
    → (sheet_call r k (step save) m).answer ≡ answered (wrote bs) → get_or (counts m.boards) k 0 ≤ r'.limit
    → ReadBackOn r' bs k m j x
