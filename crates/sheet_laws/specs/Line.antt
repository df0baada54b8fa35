-- What every step has to keep on a sheet, so that lists of calls behave as the ledger: one clause a step, in
-- proofs/Line.
use Rattle.std.specs.Prelude.{◌≤◌, max, ◌≡◌, true, false, length}
use Rattle.std.proofs.Math.Option.{none}
use Rattle.foil_spec.specs.Foil.{Layout}
use Rattle.foil_spec.specs.Ledger.{Room, Step, next, says, first, reads, refusals}
use Rattle.foil_spec.specs.Sheet.{writes}
use Rattle.sheet_laws.specs.Answers.{taken}

-- the step s on a row of the ledger
pub record SheetLine (s : Step) : Type 0 where
  -- where it does not write the table, it leaves the row as it is
  pub still : writes s ≡ false → (l : Layout) → next s l ≡ l
  -- and reads the foil
  pub seen : writes s ≡ false → reads s ≡ true
  -- what it says, accepted, is no refusal
  pub told : (l : Layout) → taken (says s l) ≡ true
  -- accepted, it leaves no more entries than the foil may have, or than it had
  pub fits : (r : Room) (l : Layout) → first (refusals s r l) ≡ none
      → length (next s l).entries ≤ max r.limit (length l.entries)
