-- The output list of a call, as it is stated: an answer puts the corners of a track, bytes or nets at its front, and
-- does nothing else to it.
use Rattle.std.specs.Prelude.{ℕ, ◌≡◌, Bool, true, false, List, ◌∷◌, ◌++◌, length, take, drop}
use Rattle.std.proofs.Math.Option.{Option}
use Rattle.foil_spec.specs.Lists.{any, each}
use Rattle.foil_spec.specs.Foil.{Point}
use Rattle.foil_spec.specs.Corners.{point_numbers}
use Rattle.foil_spec.specs.Ledger.{Answer, refused, accepted, laid, found, wrote, booked}
use Rattle.foil_spec.specs.Lent.{Lent}
use Rattle.foil_spec.specs.Calls.{Reply, answered, ran, answers_in}
use Rattle.foil_spec.specs.Sequence.{Lending, Left, run_lent}
use Rattle.foil_spec.specs.Sheet.{Sheet, SheetLending, SheetLeft, run_sheet}

-- the answer has something for an output list: a track, or bytes or nets
unfoldable pub puts : Answer → Bool
puts (refused n) = false
puts accepted = false
puts (laid cs n) = true
puts (found n) = false
puts (wrote bs) = true
puts (booked k n) = false

-- out' has the numbers at its front, and after them what stood there in out
pub record AtFront (ns out out' : List ℕ) : Type 0 where
  pub front : take (length ns) out' ≡ ns
  pub rest : drop (length ns) out' ≡ drop (length ns) out

-- out' is the output list after a call that was lent out and replied a
pub record OutputLeft (a : Reply) (out out' : List ℕ) : Type 0 where
  -- the corners of a track, two numbers each; or the bytes or nets
  pub corners : (cs : List Point) (n : ℕ) → a ≡ answered (laid cs n) → AtFront (each point_numbers cs) out out'
  pub numbers : (bs : List ℕ) → a ≡ answered (wrote bs) → AtFront bs out out'
  -- in a record the track that was laid last
  pub in-record : (earlier : List Answer) (cs : List Point) (n : ℕ) (later : List Answer) (place : Option ℕ)
      → a ≡ ran (earlier ++ (laid cs n ∷ later)) place → any puts later ≡ false
      → take (length (each point_numbers cs)) out' ≡ each point_numbers cs
  -- without such an answer it is as it was lent
  pub still : any puts (answers_in a) ≡ false → out' ≡ out

-- so it is listed of the first call of a list, on a foil that holds anything, and so of every call
abbrev pub OutputsLeft : Type 0
OutputsLeft =
    (m : Lent) (c : Lending) (cs : List Lending) (o : Left) (os : List Left) → run_lent m (c ∷ cs) ≡ o ∷ os
    → OutputLeft o.reply c.output o.output

abbrev pub SheetOutputsLeft : Type 0
SheetOutputsLeft =
    (m : Sheet) (c : SheetLending) (cs : List SheetLending) (o : SheetLeft) (os : List SheetLeft)
    → run_sheet m (c ∷ cs) ≡ o ∷ os → OutputLeft o.reply c.output o.output
