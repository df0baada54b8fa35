-- Where the entries of a foil stand in the table, for contracts of code that takes them out and puts them back; ns has
-- the numbers of entries of the foils.
use Rattle.std.specs.Prelude.{ℕ, suc, ◌*◌, List, take, drop}
use Rattle.foil_spec.specs.Sheet.{total}

-- where foil k's entries begin
unfoldable pub start_of : List ℕ → ℕ → ℕ
start_of ns k = 5 * total (take k ns)

-- the entries of the foils before foil k, and of those behind it
unfoldable pub before : List ℕ → ℕ → List ℕ → List ℕ
before ns k t = take (start_of ns k) t

unfoldable pub behind : List ℕ → ℕ → List ℕ → List ℕ
behind ns k t = take (5 * total (drop (suc k) ns)) (drop (start_of ns (suc k)) t)
