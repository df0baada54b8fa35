-- What the builder leaves in the list.
use Rattle.std.specs.Prelude.{ℕ, ◌*◌, ◌≤◌, ◌<◌, ◌≡◌, List, ◌++◌, length, drop, Option, Some, None}
use Rattle.foil_spec.specs.Lists.{each}
use Rattle.foil_spec.specs.Limits.{max_strips, strips_size}
use Rattle.foil_spec.specs.Strips.{Strip}
use Rattle.foil_spec.specs.Lent.{strip_numbers, written}

-- c counts the strips, and they stand at the front of the list o; or there are too many, and what stands there is
-- undecided
abbrev pub Listed : List ℕ → List ℕ → Option ℕ → List Strip → Type 0
Listed o out (Some c) ss = (c ≡ length ss) × (c ≤ max_strips) × (out ≡ each strip_numbers ss ++ drop (c * 4) o)
Listed o out None ss = max_strips < length ss

-- the strips stand in the list o, zeros after them up to 4,096 places, and the rest is as it was; or there are too
-- many, and what stands in the list is undecided, but for its length
abbrev pub Rebuilt : List ℕ → List ℕ → List Strip → Option ℕ → Type 0
Rebuilt o out ss (Some c) = (c ≡ length ss) × (c ≤ max_strips) × (out ≡ written strips_size (each strip_numbers ss) o)
Rebuilt o out ss None = (max_strips < length ss) × (length out ≡ length o)
