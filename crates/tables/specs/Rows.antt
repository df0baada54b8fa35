-- The rows of a table in the making.
use Rattle.std.specs.Prelude.{ℕ, ◌≤◌, ◌≡◌, not, List, [], ◌∷◌, ◌++◌, map, length}
use Rattle.foil_spec.specs.Lists.{range, keep, each}
use Rattle.foil_spec.specs.Limits.{table_size}
use Rattle.foil_spec.specs.Foil.{Entry, entry_numbers}
use Rattle.foil_spec.specs.Nets.{of_net}
use Rattle.foil_spec.specs.Lent.{written, entry_at}

-- the entries, and zeros in the unused places
unfoldable pub rows_of : List Entry → List ℕ
rows_of es = written table_size (each entry_numbers es) []

-- rows of n entries have the entry e as well
pub record Appended (old new : List ℕ) (n : ℕ) (e : Entry) : Type 0 where
  pub rows : (es : List Entry) → length es ≡ n → old ≡ rows_of es → new ≡ rows_of (es ++ e ∷ [])
  pub long : table_size ≡ length new

-- the entries of other nets, of the first n of a table
unfoldable pub other_nets : ℕ → List ℕ → ℕ → List Entry
other_nets net t n = keep (λ (e : Entry). not (of_net net e)) (map (entry_at t) (range 0 n))

-- they stand in the rows, and j counts them
pub record Kept (rows t : List ℕ) (net n j : ℕ) : Type 0 where
  pub is : rows ≡ rows_of (other_nets net t n)
  pub counted : j ≡ length (other_nets net t n)
  pub few : j ≤ n
