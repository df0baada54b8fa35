-- What the limits leave each foil of a sheet, as it is stated (document 02, P12).
use Rattle.std.specs.Prelude.{ℕ, ◌+◌, ◌-◌, ◌≤◌, ◌<◌, min, max, ◌≡◌, true, not, ◌≢◌, List, leb, length, get_or, set}
use Rattle.foil_spec.specs.Limits.{max_entries, sheet_foils, sure_entries}
use Rattle.foil_spec.specs.Foil.{Layout}
use Rattle.foil_spec.specs.Ledger.{Room, too_long}
use Rattle.foil_spec.specs.Sheet.{counts_ok, limit_of}

-- eight foils have so many entries, and keep both limits
pub record WithinLimits (ns : List ℕ) : Type 0 where
  pub eight : length ns ≡ sheet_foils
  pub limits : counts_ok ns ≡ true

-- a step that leaves foil k with n entries fits just if these are no more than its limit
abbrev pub FitsByLimit : Type 0
FitsByLimit =
    (ns : List ℕ) (k n : ℕ) → WithinLimits ns → k < sheet_foils → counts_ok (set ns k n) ≡ leb n (limit_of ns k)

-- a foil is sure of 32
abbrev pub SureOf32 : Type 0
SureOf32 =
    (ns : List ℕ) (k n : ℕ) → WithinLimits ns → k < sheet_foils → n ≤ sure_entries → counts_ok (set ns k n) ≡ true

-- what foil j gives up above its 32, any other foil k can use up to its 128
abbrev pub UsesGivenUp : Type 0
UsesGivenUp =
    (ns : List ℕ) (j k n : ℕ) → WithinLimits ns → j < sheet_foils → k < sheet_foils → k ≢ j → n ≤ get_or ns j 0
    → limit_of (set ns j n) k ≡ min max_entries (limit_of ns k + (max sure_entries (get_or ns j 0) - max sure_entries n))

-- 10 is met just by a step that does not fit: l is what it would leave of foil k
abbrev pub TenByFit : Type 0
TenByFit =
    (r : Room) (l : Layout) (ns : List ℕ) (k : ℕ) → WithinLimits ns → k < sheet_foils → r.limit ≡ limit_of ns k
    → too_long r l ≡ not (counts_ok (set ns k (length l.entries)))
