-- How a call on a foil of a sheet may be done: on the foil alone, which is put back if the call wrote entries. This is
-- what the code of a call goes by.
use Rattle.std.specs.Prelude.{ℕ, ◌*◌, ◌≤◌, ◌<◌, ◌≡◌, Bool, true, false, cond, ◌&&◌, get_or}
use Rattle.std.proofs.Math.Option.{none}
use Rattle.foil_spec.specs.Lists.{any}
use Rattle.foil_spec.specs.Limits.{sheet_size}
use Rattle.foil_spec.specs.Ledger.{Room}
use Rattle.foil_spec.specs.Calls.{Call, step, run_record, ohms, lay_list, Reply, call_on, answers_in}
use Rattle.foil_spec.specs.Sheet.{total, SheetLent, counts, view, put_back, writes, sheet_refusal, sheet_call}
use Rattle.sheet_laws.specs.Answers.{taken}
use Rattle.sheet_laws.specs.Alone.{RoomOn}

-- the steps of the call write entries where they are accepted; those of a record and of a list all do
unfoldable pub writing : Call → Bool
writing (step s) = writes s
writing (run_record bs at) = true
writing (ohms net i) = false
writing (lay_list ws n) = true

-- by its reply, the call wrote entries
unfoldable pub rewrote : Call → Reply → Bool
rewrote c a = writing c && any taken (answers_in a)

-- a call that is not refused before foil k is looked at answers as on the foil alone, which is put back if it wrote
-- entries; else the sheet stays as it is
abbrev pub PutsBack : Type 0
PutsBack =
    (r : Room) (k : ℕ) (c : Call) (m : SheetLent) → RoomOn r k m → sheet_refusal r false k c ≡ none
    → sheet_call r k c m
    ≡ record {
      answer = (call_on r c (view k m)).answer;
      state =
          cond (rewrote c (call_on r c (view k m)).answer) (put_back k m (call_on r c (view k m)).state) m;
    }

-- it leaves the unused places among the 512 zero then, whatever they held
abbrev pub ClearsUnused : Type 0
ClearsUnused =
    (r : Room) (k : ℕ) (c : Call) (m : SheetLent) → RoomOn r k m → sheet_refusal r false k c ≡ none
    → rewrote c (sheet_call r k c m).answer ≡ true
    → (i : ℕ) → 5 * total (counts (sheet_call r k c m).state.boards) ≤ i → i < sheet_size
    → get_or (sheet_call r k c m).state.table i 0 ≡ 0
