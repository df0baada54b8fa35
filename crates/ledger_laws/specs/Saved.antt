-- Saving, as it is stated: a saved foil reads back, and a foil whose file would not is not saved.
use Rattle.std.specs.Prelude.{ℕ, ◌+◌, ◌≤◌, ◌≡◌, Bool, true, false, not, ◌↔◌, List, [], ◌∷◌, eqb, length, take}
use Rattle.std.proofs.Math.Option.{some, get_or}
use Rattle.foil_spec.specs.Lists.{any, each}
use Rattle.foil_spec.specs.Limits.{table_size, strips_size, max_bytes}
use Rattle.foil_spec.specs.Foil.{Entry, Layout}
use Rattle.foil_spec.specs.Saving.{board_bytes, entry_bytes, job_of}
use Rattle.foil_spec.specs.Ledger.{Room, short, save, Answer, refused, accepted, wrote, number_of}
use Rattle.foil_spec.specs.Lent.{Lent, held, sound, step_on}
use Rattle.foil_spec.specs.Calls.{RecordReply, ran_steps, end_mark, as_reply, record_on, answers_in, place_after, read_job}

-- a record of one accepted step for each entry, the first at a place; then the end mark
unfoldable pub entry_replies : ℕ → List Entry → List RecordReply
entry_replies at [] = end_mark ∷ []
entry_replies at (e ∷ es) =
    ran_steps (accepted ∷ []) (some (at + length (entry_bytes e))) ∷ entry_replies (at + length (entry_bytes e)) es

-- all is accepted: the board, and the entries in table order
unfoldable pub all_accepted : Layout → List RecordReply
all_accepted l =
    ran_steps (accepted ∷ []) (some (length (board_bytes l))) ∷ entry_replies (length (board_bytes l)) l.entries

-- where the last of some records is read: the first at a place, each next one where the reply before it says
unfoldable pub last_place : ℕ → List RecordReply → ℕ
last_place at [] = at
last_place at (r ∷ rs) = last_place (get_or (place_after r) at) rs

-- the same record, and the same in the 128 places of the tables and the 4,096 of the strip lists
pub record SameFoil (m m' : Lent) : Type 0 where
  pub board : m.board ≡ m'.board
  pub table : take table_size m.table ≡ take table_size m'.table
  pub strips : take strips_size m.strips ≡ take strips_size m'.strips

-- the bytes bs are a job file that, run in the room r on lists m', gives the foil that m holds
pub record ReadBack (r : Room) (bs : List ℕ) (m m' : Lent) : Type 0 where
  -- every step is accepted, and the end mark is met
  pub replies : (read_job (record_on r) bs m').answer ≡ all_accepted (held m)
  -- as the last byte
  pub ends : last_place 0 (read_job (record_on r) bs m').answer + 1 ≡ length bs
  -- the file is not too large for a job
  pub small : length bs ≤ max_bytes
  -- the record, the table and the strips are those of m
  pub same : SameFoil m (read_job (record_on r) bs m').state

-- the bytes that save wrote read back, on lists that are long enough and hold anything, in a room that allows as many
-- entries
abbrev pub ReadsBack : Type 0
ReadsBack =
    (r r' : Room) (m m' : Lent) (bs : List ℕ) → (step_on r save m).answer ≡ wrote bs → short r' ≡ false
    → m.board.entries ≤ r'.limit → ReadBack r' bs m m'

-- an answer that is a refusal
unfoldable pub refusal : Answer → Bool
refusal a = not (eqb (number_of a) 0)

-- the answers of a record's steps, or the refusal of it as a whole
abbrev pub record_answers : RecordReply → List Answer
record_answers a = answers_in (as_reply a)

-- save answers 11 exactly when a step of the foil's file would be refused, on such lists and in such a room
abbrev pub RefusesUnreadable : Type 0
RefusesUnreadable =
    (r r' : Room) (m m' : Lent) → short r ≡ false → sound m ≡ true → short r' ≡ false → m.board.entries ≤ r'.limit
    → ((step_on r save m).answer ≡ refused 11)
    ↔ (any refusal (each record_answers (read_job (record_on r') (job_of (held m)) m').answer) ≡ true)
