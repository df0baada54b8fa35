-- The next run of a row, as the sweep of its boxes finds it.
use Rattle.std.specs.Prelude.{ℕ, ◌-◌, ◌≤◌, ◌<◌, ◌≡◌, Bool, false, List, [], ◌∷◌, ◌⊎◌, Option, Some, None}
use Rattle.foil_spec.specs.Strips.{run, runs_from, row_of}
use Rattle.zones.specs.Boxes.{box_free}
use Rattle.strip_laws.specs.Rules.{Stop}
use Rattle.strips.specs.RowBoxes.{listed_box}
use Rattle.strips.specs.declared.sweep.Swept.{Swept}

-- of the m boxes of the list o those from place j on have no point from column `at` on
abbrev pub Behind : List ℕ → List ℕ → ℕ → ℕ → ℕ → Type 0
Behind t o m at j = (p : ℕ) → j ≤ p → p < m → (listed_box t o p).x1 ≤ at

-- the next run of the row g from x on is from a up to b, and the columns from b up to e are blocked; from e on only the
-- first j of its boxes have points
pub record SweptRun (g : ℕ → Bool) (t o : List ℕ) (m w x a b e j : ℕ) : Type 0 where
  pub from : x ≤ a
  pub gt : a < b
  pub blocked : (u : ℕ) → x ≤ u → u < a → g u ≡ false
  pub stop : Stop g w a b
  pub be : b ≤ e
  pub ew : e ≤ w
  pub gap : (u : ℕ) → b ≤ u → u < e → g u ≡ false
  pub edge : (e ≡ w) ⊎ (g (e - 1) ≡ false)
  pub next : runs_from g w x ≡ run a b ∷ runs_from g w e
  pub jm : j ≤ m
  pub behind : Behind t o m e j

-- the row has no run from x on
pub record SweptOut (g : ℕ → Bool) (w x : ℕ) : Type 0 where
  pub blocked : (u : ℕ) → x ≤ u → u < w → g u ≡ false
  pub next : runs_from g w x ≡ []

-- what the sweep from column x of the row g answers
abbrev pub Sweep : (ℕ → Bool) → List ℕ → List ℕ → ℕ → ℕ → ℕ → Option Swept → Type 0
Sweep g t o m w x (Some r) = SweptRun g t o m w x r.from r.to r.behind r.left
Sweep g t o m w x None = SweptOut g w x

-- the same for row y of the foil
abbrev pub Sweeps : List ℕ → List ℕ → ℕ → ℕ → ℕ → ℕ → ℕ → ℕ → Option Swept → Type 0
Sweeps t o n m w h y x r = Sweep (row_of (box_free w h n t) y) t o m w x r
