-- Answers that are no refusals.
use Rattle.std.specs.Prelude.{Bool, true, false}
use Rattle.foil_spec.specs.Ledger.{Answer, refused, accepted, laid, found, wrote, booked}

-- the answer is no refusal
unfoldable pub taken : Answer → Bool
taken (refused n) = false
taken accepted = true
taken (laid cs n) = true
taken (found n) = true
taken (wrote bs) = true
taken (booked k n) = true
