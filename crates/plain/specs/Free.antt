-- What the test of a free point says.
use Rattle.std.specs.Prelude.{ℕ, ◌+◌, ◌<◌, ◌≡◌, Bool, false, List}
use Rattle.foil_spec.specs.Foil.{Entry, Pen, pen_rule, margin, near_edge, blocks}
use Rattle.foil_spec.specs.Lent.{entry_at}

-- the entry blocks the point by the pen
abbrev pub blocked_by : Pen → Entry → ℕ → ℕ → Bool
blocked_by p e x y = blocks (margin (pen_rule p) e) e x y

-- the point is on the board, and neither its edge nor one of the first n entries of the table blocks it
pub record Unblocked (t : List ℕ) (n : ℕ) (p : Pen) (w h x y : ℕ) : Type 0 where
  pub x-off : near_edge (p.half + p.gap) w x ≡ false
  pub y-off : near_edge (p.half + p.gap) h y ≡ false
  pub none : (k : ℕ) → k < n → blocked_by p (entry_at t k) x y ≡ false
