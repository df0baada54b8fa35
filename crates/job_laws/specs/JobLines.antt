-- What the job program can write, as it is stated: lines of eight kinds, each with numbers of its own; 12 and 13 are
-- none of these.
use Rattle.std.specs.Prelude.{ℕ, ◌≡◌, Bool, true, ◌&&◌, List, [], ◌∷◌, ◌++◌, leb, eqb, length}
use Rattle.foil_spec.specs.Lists.{all, each}
use Rattle.foil_spec.specs.Limits.{corner_places}
use Rattle.foil_spec.specs.Foil.{Point}
use Rattle.foil_spec.specs.Strips.{Strip}
use Rattle.foil_spec.specs.Paths.{bends}
use Rattle.ledger_laws.specs.Numbers.{among}
use Rattle.lines.specs.Lines.{board_line, patch_line, track_refused, track_laid, lift_line, leg_line, strip_line, file_line}
use Rattle.lines.specs.Output.{output}

-- a line: of a board, of a patch, of a track that was refused or laid, of a lift, of a leg, of a strip, of the file
pub data PrintedLine : Type 0 where
  board : ℕ → PrintedLine
  patch : ℕ → PrintedLine
  refused_track : ℕ → ℕ → PrintedLine
  laid_track : ℕ → ℕ → List Point → PrintedLine
  lifted : ℕ → ℕ → PrintedLine
  leg : ℕ → ℕ → PrintedLine
  strip : Strip → PrintedLine
  file : ℕ → PrintedLine

-- its bytes, the line feed included
unfoldable pub bytes_of : PrintedLine → List ℕ
bytes_of (board n) = board_line n
bytes_of (patch n) = patch_line n
bytes_of (refused_track net n) = track_refused net n
bytes_of (laid_track net n cs) = track_laid net n cs
bytes_of (lifted net n) = lift_line net n
bytes_of (leg net n) = leg_line net n
bytes_of (strip s) = strip_line s
bytes_of (file n) = file_line n

-- the line has a number that the program writes there; a track that was laid has 1 to 8,192 corners and their bends
unfoldable pub possible : PrintedLine → Bool
possible (board n) = among n (0 ∷ 1 ∷ 2 ∷ 20 ∷ [])
possible (patch n) = among n (0 ∷ 3 ∷ 10 ∷ 11 ∷ 21 ∷ [])
possible (refused_track net n) = among n (4 ∷ 5 ∷ 7 ∷ 8 ∷ 9 ∷ 10 ∷ 11 ∷ [])
possible (laid_track net n cs) = leb 1 (length cs) && leb (length cs) corner_places && eqb n (bends cs)
possible (lifted net n) = among n (0 ∷ 4 ∷ 6 ∷ 11 ∷ [])
possible (leg net n) = among n (0 ∷ 3 ∷ 4 ∷ 10 ∷ 11 ∷ 21 ∷ [])
possible (strip s) = true
possible (file n) = among n (14 ∷ 15 ∷ 16 ∷ 17 ∷ 18 ∷ [])

-- the bytes are such lines, one after the other
pub record InLines (bytes : List ℕ) : Type 0 where
  pub lines : List PrintedLine
  pub are : bytes ≡ each bytes_of lines
  pub fine : all possible lines ≡ true

-- whatever bytes the job program reads, it writes such lines and nothing else
abbrev pub WritesLines : Type 0
WritesLines = (bs : List ℕ) → InLines (output bs)

-- the line stands nowhere in the bytes
abbrev pub Nowhere : List ℕ → List ℕ → Type 0
Nowhere line bytes = (before after : List ℕ) → bytes ≡ before ++ line ++ after → ⊥

-- the job program never writes `board N`, `patch N`, `track NET N`, `lift NET N`, `leg NET N` or `file N`
abbrev pub NeverWrites : ℕ → Type 0
NeverWrites n =
    (bs : List ℕ) (net : ℕ) → Nowhere (board_line n) (output bs) × Nowhere (patch_line n) (output bs)
    × Nowhere (track_refused net n) (output bs) × Nowhere (lift_line net n) (output bs)
    × Nowhere (leg_line net n) (output bs) × Nowhere (file_line n) (output bs)
