-- A job file runs on foil 0 of a sheet else empty as on a foil of its own.
use Prim.Native.Nat.{ℕ, ◌≤◌}
use native.Mathlib.Omega.{arith}
use mathlib.Core.Path.{◌≡◌}
use mathlib.Core.Bool.{true}
use mathlib.Core.List.{List, ◌∷◌}
use lib.ListN.{length, replicate, length-replicate}
use Rattle.foil_spec.specs.Limits.{max_entries, sheet_foils, sheet_size}
use Rattle.foil_spec.specs.Job.{job_room}
use Rattle.foil_spec.specs.Sheet.{total, reserved, counts_ok, limit_of, counts, no_board}
use Rattle.foil_spec.specs.declared.Board.{Board}
use Rattle.sheet_laws.specs.Alone.{RoomOn}
use Rattle.sheet_laws.specs.Jobs.{only_foil0, JobsAsBefore}
use Rattle.sheet_laws.proofs.Starting.{one-foil}
use Rattle.sheet_laws.proofs.Saved.{replies-alone, state-alone}

-- beside foils that have none, a foil may have 128
pub all-to-one : (n : ℕ) → max_entries ≡ limit_of (n ∷ replicate 7 0) 0
unfolding limit_of reserved total
all-to-one n = omega arith

-- the room of a job on such a sheet, where the counts keep the limits, and so where foil 0 has 128 entries at most
pub kept-room : (b : Board) (t s : List ℕ) → counts_ok (counts (b ∷ replicate 7 no_board)) ≡ true
    → sheet_size ≤ length t → RoomOn job_room 0 (only_foil0 b t s)
unfolding job_room counts
kept-room b t s kept long =
    record {
      here = omega arith;
      eight-foils = record { eight = eight; limits = kept; places = long };
      limit = all-to-one b.entries;
    }
  where
    eight : length (b ∷ replicate 7 no_board) ≡ sheet_foils
    eight = omega (arith, length-replicate 7 no_board)

pub job-room : (b : Board) (t s : List ℕ) → b.entries ≤ max_entries → sheet_size ≤ length t
    → RoomOn job_room 0 (only_foil0 b t s)
unfolding counts
job-room b t s few long = kept-room b t s (one-foil b.entries few) long

pub jobs-as-before : JobsAsBefore
jobs-as-before bs b t s few long =
    let o = job-room b t s few long in
    record {
      replies = replies-alone job_room 0 (only_foil0 b t s) o bs;
      leaves = state-alone job_room 0 (only_foil0 b t s) o bs;
    }
