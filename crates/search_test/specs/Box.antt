-- Entries whose boxes can be told.
use Rattle.std.specs.Prelude.{ℕ, ◌<◌, ◌≤◌, List}
use Rattle.foil_spec.specs.Foil.{Entry}
use Rattle.foil_spec.specs.Lent.{entry_at}

-- the entry is not empty, and on a board of w by h
pub record Box (w h : ℕ) (e : Entry) : Type 0 where
  pub across : e.x0 < e.x1
  pub down : e.y0 < e.y1
  pub right : e.x1 ≤ w
  pub bottom : e.y1 ≤ h

-- and so are the first n entries of a table
abbrev pub AllBoxes : ℕ → ℕ → ℕ → List ℕ → Type 0
AllBoxes w h n t = (k : ℕ) → k < n → Box w h (entry_at t k)
