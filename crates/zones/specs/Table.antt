-- A table whose zones can be told: its entries are not empty and lie on the foil, and the sums fit.
use Rattle.std.specs.Prelude.{ℕ, ◌*◌, ◌≤◌, ◌<◌, List, length}
use Rattle.foil_spec.specs.Limits.{max_entries, max_side}
use Rattle.foil_spec.specs.Foil.{Rule}
use Rattle.foil_spec.specs.Lent.{entry_at}

-- the distances of a rule are no larger than those of any pen
pub record Small (r : Rule) : Type 0 where
  pub patch : r.patch ≤ 22
  pub leg : r.leg ≤ 29
  pub edge : r.edge ≤ 22

-- a foil of w by h
pub record Sized (w h : ℕ) : Type 0 where
  pub some-width : 0 < w
  pub some-height : 0 < h
  pub width : w ≤ max_side
  pub height : h ≤ max_side

-- the first n entries of the table t, on a foil of w by h with the rule r
pub record Table (t : List ℕ) (n : ℕ) (r : Rule) (w h : ℕ) : Type 0 where
  pub len : n * 5 ≤ length t
  pub few : n ≤ max_entries
  pub small : Small r
  pub sized : Sized w h
  pub x-order : (k : ℕ) → k < n → (entry_at t k).x0 < (entry_at t k).x1
  pub y-order : (k : ℕ) → k < n → (entry_at t k).y0 < (entry_at t k).y1
  pub x-end : (k : ℕ) → k < n → (entry_at t k).x1 ≤ w
  pub y-end : (k : ℕ) → k < n → (entry_at t k).y1 ≤ h
