-- The slips that a list of calls writes, as it is stated.
use Rattle.std.specs.Prelude.{ℕ, ◌≡◌, List, length, take}
use Rattle.foil_spec.specs.Ledger.{slip, wrote}
use Rattle.ledger_laws.specs.Moments.{Moment, AtEvery}
use Rattle.sheet_laws.specs.Alone.{OnSheet}
use Rattle.slip_laws.specs.Page.{PageRight}

-- the bytes that a slip answers are the page of the ledger's layout, each line right, and stand at the front of the
-- output list
abbrev pub SlipsWrittenAt : Moment → List Moment → Type 0
SlipsWrittenAt k later =
    (bs : List ℕ) → k.step ≡ slip → k.answer ≡ wrote bs
    → (nets : List ℕ) × PageRight k.ledger_before nets bs × (take (length bs) k.output ≡ bs)

abbrev pub SlipsWritten : Type 0
SlipsWritten = AtEvery SlipsWrittenAt

-- the slip of a foil of a sheet has the foil's own nets
abbrev pub SheetSlipsWritten : Type 0
SheetSlipsWritten = OnSheet SlipsWrittenAt
