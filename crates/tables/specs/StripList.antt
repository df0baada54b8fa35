-- What stands in a list of strips when others are put there.
use Rattle.std.specs.Prelude.{ℕ, ◌≤◌, ◌<◌, ◌≡◌, List, length, Option, Some, None}
use Rattle.foil_spec.specs.Lists.{each}
use Rattle.foil_spec.specs.Limits.{max_strips, strips_size}
use Rattle.foil_spec.specs.Strips.{Strip}
use Rattle.foil_spec.specs.Lent.{strip_numbers, written}

-- c counts the strips, and they stand in the list, zeros after them; or there are too many, and it is as it was
abbrev pub PutStrips : List ℕ → List ℕ → Option ℕ → List Strip → Type 0
PutStrips l l' (Some c) ss = (c ≡ length ss) × (c ≤ max_strips) × (l' ≡ written strips_size (each strip_numbers ss) l)
PutStrips l l' None ss = (max_strips < length ss) × (l' ≡ l)
