-- The lines that the job program writes, as bytes: a word, then numbers in decimal, parted by blanks.
use Rattle.std.specs.Prelude.{ℕ, List, ◌++◌}
use Rattle.foil_spec.specs.Lists.{each}
use Rattle.foil_spec.specs.Foil.{Point}
use Rattle.foil_spec.specs.Strips.{Strip}
use Rattle.foil_spec.specs.Text.{ascii, decimal}

-- a blank and the number
unfoldable pub item : ℕ → List ℕ
item n = ascii " " ++ decimal n

-- a blank and the corner as x,y
unfoldable pub corner_item : Point → List ℕ
corner_item p = item p.x ++ ascii "," ++ decimal p.y

-- the line of a new foil, with the refusal number, 0 if accepted
unfoldable pub board_line : ℕ → List ℕ
board_line n = ascii "board" ++ item n ++ ascii "\n"

-- the line of a patch, with the refusal number, 0 if accepted
unfoldable pub patch_line : ℕ → List ℕ
patch_line n = ascii "patch" ++ item n ++ ascii "\n"

-- the line of a track that was refused: its net and the number
unfoldable pub track_refused : ℕ → ℕ → List ℕ
track_refused net n = ascii "track" ++ item net ++ item n ++ ascii "\n"

-- the line of a track that was laid: its net, 0, its bends and its corners
unfoldable pub track_laid : ℕ → ℕ → List Point → List ℕ
track_laid net n cs = ascii "track" ++ item net ++ item 0 ++ item n ++ each corner_item cs ++ ascii "\n"

-- the line of a lift: the net and the refusal number, 0 if accepted
unfoldable pub lift_line : ℕ → ℕ → List ℕ
lift_line net n = ascii "lift" ++ item net ++ item n ++ ascii "\n"

-- the line of a leg: the net and the refusal number, 0 if accepted
unfoldable pub leg_line : ℕ → ℕ → List ℕ
leg_line net n = ascii "leg" ++ item net ++ item n ++ ascii "\n"

-- the line of a strip
unfoldable pub strip_line : Strip → List ℕ
strip_line s = ascii "strip" ++ item s.x0 ++ item s.y0 ++ item s.x1 ++ item s.y1 ++ ascii "\n"

-- the line of a file that was refused, with the number
unfoldable pub file_line : ℕ → List ℕ
file_line n = ascii "file" ++ item n ++ ascii "\n"
