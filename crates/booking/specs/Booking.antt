-- What booking a way asks for, and what it leaves.
use Rattle.std.specs.Prelude.{ℕ, ◌+◌, ◌-◌, ◌*◌, ◌≤◌, ◌<◌, max, ◌≡◌, Bool, true, List, ◌++◌, length}
use Rattle.foil_spec.specs.Limits.{max_entries}
use Rattle.foil_spec.specs.Foil.{Point, Layout, net_ok}
use Rattle.foil_spec.specs.Paths.{is_way}
use Rattle.foil_spec.specs.Corners.{corners_in}
use Rattle.foil_spec.specs.Ledger.{legs, with_entries}
use Rattle.foil_spec.specs.Lent.{Lent, held, sound}

-- the layout with the legs of a way as well
abbrev pub with_legs : Layout → ℕ → List Point → Layout
with_legs l net cs = with_entries l (l.entries ++ legs net cs)

-- what is lent keeps the rules, the net is allowed, the first k corners of the list are a way over points of the foil
-- that are clear for it, and a table has places for their legs
pub record MayBook (m : Lent) (net : ℕ) (path : List ℕ) (k : ℕ) : Type 0 where
  pub fine : sound m ≡ true
  pub allowed : net_ok net ≡ true
  pub long : k * 2 ≤ length path
  pub clear : ℕ → ℕ → Bool
  pub inside : (x y : ℕ) → clear x y ≡ true → (x < (held m).width) × (y < (held m).height)
  pub way : is_way clear (corners_in path k) ≡ true
  pub room : m.board.entries + max 1 (k - 1) ≤ max_entries
