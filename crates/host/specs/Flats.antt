-- The numbers of a table's first 512 places by value: laid in place by place, and stored over a table.
use Rattle.std.specs.Prelude.{ℕ, zero, suc, ◌*◌, min, List, length, set, get_or, replicate}
use Rattle.std.proofs.lemmas.List.Edits.{sets}
use Rattle.foil_spec.specs.Limits.{sheet_entries, sheet_size}
use Rattle.foil_spec.specs.Foil.{Entry, entry, entry_numbers}
use Rattle.foil_spec.specs.Lent.{entry_at}

-- how many places are lent on of a table of n: its first 512
abbrev pub places_lent : ℕ → ℕ
places_lent n = min n sheet_entries

-- how many numbers these are
abbrev pub numbers_lent : ℕ → ℕ
numbers_lent n = places_lent n * 5

-- what stands past the end of a table
abbrev pub no_entry : Entry
no_entry = entry 0 0 0 0 0

-- the numbers of the first k places of a table, zeros after them
unfoldable pub load_to : List Entry → ℕ → List ℕ
load_to es zero = replicate sheet_size 0
load_to es (suc k) = sets (load_to es k) (k * 5) (entry_numbers (get_or es k no_entry))

-- a table with its first k places stored over
unfoldable pub store_to : List ℕ → List Entry → ℕ → List Entry
store_to ns es zero = es
store_to ns es (suc k) = set (store_to ns es k) k (entry_at ns k)

-- the numbers of a table's first 512 places
abbrev pub front_of : List Entry → List ℕ
front_of es = load_to es (places_lent (length es))

-- a table with its first 512 places stored over
abbrev pub with_front : List ℕ → List Entry → List Entry
with_front ns es = store_to ns es (places_lent (length es))
