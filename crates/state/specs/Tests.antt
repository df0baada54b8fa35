-- What the tests of the state check say.
use Rattle.std.specs.Prelude.{ℕ, ◌≤◌, ◌<◌, ◌≡◌, Bool, true, ◌&&◌, List, leb, length, get_or}
use Rattle.foil_spec.specs.Lists.{each}
use Rattle.foil_spec.specs.Limits.{max_entries, max_strips, strips_size}
use Rattle.foil_spec.specs.Foil.{Rule, size_ok}
use Rattle.foil_spec.specs.Strips.{Strip}
use Rattle.foil_spec.specs.Sound.{strip_numbers, written, Asked}

-- the numbers from place a up to place b are zero
pub record Zeros (l : List ℕ) (a b : ℕ) : Type 0 where
  pub zero-at : (k : ℕ) → a ≤ k → k < b → get_or l k 0 ≡ 0

-- width, height and number of entries are in their limits
unfoldable pub sizes_ok : ℕ → ℕ → ℕ → Bool
sizes_ok w h n = size_ok w && size_ok h && leb n max_entries

-- nothing is asked but that points are blocked by the rule
unfoldable pub ruled : Rule → Asked
ruled r = record { allowed = true; rule = r; besides = λ es. true }

-- the strips ss are no more than a list has places, so many as counted, and they stand in the list s
pub record StripsRight (ss : List Strip) (count : ℕ) (s : List ℕ) : Type 0 where
  pub few : length ss ≤ max_strips
  pub counted : count ≡ length ss
  pub listed : s ≡ written strips_size (each strip_numbers ss) s
