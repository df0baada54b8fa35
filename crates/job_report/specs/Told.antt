-- The lines of what the steps of a record told, by the answers of the code; and what the functions that write them ask.
use Rattle.std.specs.Prelude.{ℕ, ◌*◌, ◌≤◌, ◌<◌, ◌≡◌, true, List, [], ◌∷◌, length, get_or, Some, None, Ok, Err}
use Rattle.std.proofs.Math.Option.{Option, none, some}
use Rattle.foil_spec.specs.Lists.{range, each}
use Rattle.foil_spec.specs.Limits.{corner_places}
use Rattle.foil_spec.specs.Corners.{corners_in}
use Rattle.foil_spec.specs.Job.{step_bits, RecordStep, board_step, patch_step, track_step, lift_step, leg_step, has, step_at}
use Rattle.foil.specs.Contract.{Answer}
use Rattle.foil.specs.declared.Accepted.TheVariants.{Done, Laid, Found, Wrote}
use Rattle.job.specs.Contract.{Told, told_by_bits}
use Rattle.job.specs.Parts.{Whole}
use Rattle.job.specs.declared.Answers.{Answers}
use Rattle.lines.specs.Lines.{board_line, patch_line, lift_line, leg_line}
use Rattle.lines.specs.Output.{Track, track_line}

-- the refusal number, 0 if accepted
unfoldable pub number_in : Answer → ℕ
number_in (Err n) = n
number_in (Ok a) = 0

-- the track that an answer has, if it has one; its corners are the first of the list ks
unfoldable pub track_of : List ℕ → Answer → Option Track
track_of ks (Err n) = none
track_of ks (Ok Done) = none
track_of ks (Ok (Laid k n)) = some (record { bends = n; corners = corners_in ks k })
track_of ks (Ok (Found k)) = none
track_of ks (Ok (Wrote k)) = none

-- the line of a lay that was answered
abbrev pub lay_line : ℕ → List ℕ → Answer → List ℕ
lay_line net ks a = track_line net (number_in a) (track_of ks a)

-- the line of a step that was answered
unfoldable pub line_of : RecordStep → List ℕ → Answer → List ℕ
line_of (board_step W H d) ks a = board_line (number_in a)
line_of (patch_step x0 y0 x1 y1) ks a = patch_line (number_in a)
line_of (track_step net S T) ks a = lay_line net ks a
line_of (lift_step net) ks a = lift_line net (number_in a)
line_of (leg_step e) ks a = leg_line e.net (number_in a)

-- the line of a step, if it was run
unfoldable pub told_line : RecordStep → List ℕ → Told → List ℕ
told_line s ks None = []
told_line s ks (Some a) = line_of s ks a

-- the lines of the steps of the bits in a list that were run, of the record at a place
unfoldable pub lines_of : List ℕ → ℕ → List ℕ → Answers → List ℕ → List ℕ
lines_of bs at ks a bits = each (λ (k : ℕ). told_line (step_at bs at k) ks (told_by_bits a k)) bits

-- the lines of all its steps that were run, in bit order
abbrev pub answer_lines : List ℕ → ℕ → List ℕ → Answers → List ℕ
answer_lines bs at ks a = lines_of bs at ks a (range 0 step_bits)

-- how many bytes the lines of the bits below k take at most: 64 a line, and 12 for each of 8,192 corners
unfoldable pub bytes_below : ℕ → ℕ
bytes_below k = get_or (0 ∷ 64 ∷ 128 ∷ 98496 ∷ 98560 ∷ 98624 ∷ []) k 0

-- the corners of an answer stand in the list, 8,192 at most
pub record InList (ks : List ℕ) (a : Answer) : Type 0 where
  pub few : (k n : ℕ) → a ≡ Ok (Laid k n) → k ≤ corner_places
  pub there : (k n : ℕ) → a ≡ Ok (Laid k n) → 2 * k ≤ length ks

-- what the step of bit k told, of a record all of whose fields are among the bytes: it has that bit, if it was run, and
-- its corners stand in the list
pub record FromBit (bs : List ℕ) (at : ℕ) (ks : List ℕ) (k : ℕ) (t : Told) : Type 0 where
  pub whole : Whole bs at
  pub set : (a : Answer) → t ≡ Some a → has bs at k ≡ true
  pub corners : (a : Answer) → t ≡ Some a → InList ks a

-- the same of all its bits
pub record FromBits (bs : List ℕ) (at : ℕ) (ks : List ℕ) (a : Answers) : Type 0 where
  pub bit : (k : ℕ) → k < step_bits → FromBit bs at ks k (told_by_bits a k)
