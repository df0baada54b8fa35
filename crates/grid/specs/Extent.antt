-- A box seen along one axis: along x, or along y where `upright` is true.
use Rattle.std.specs.Prelude.{ℕ, ◌≤◌, ◌<◌, Bool, true, false, ◌≡◌}
use Rattle.foil_spec.specs.Foil.{Entry}
use Rattle.course_laws.specs.Course.{flip}
use Rattle.zones.specs.Boxes.{covers}
use Rattle.grid.specs.declared.Extent.{Extent}

-- a test of points (x, y), or with the axes exchanged
abbrev pub turned : Bool → (ℕ → ℕ → Bool) → ℕ → ℕ → Bool
turned false f = f
turned true f = flip f

-- where the box begins and ends on the axis
unfoldable pub extent : Bool → Entry → Extent
extent false e = record { from = e.x0; to = e.x1 }
extent true e = record { from = e.y0; to = e.y1 }

-- the box is not empty
abbrev pub Solid : Entry → Type 0
Solid e = (upright : Bool) → (extent upright e).from < (extent upright e).to

-- the box has no point from a to b, both included, of a line that runs along the axis
pub record Misses (upright : Bool) (e : Entry) (line a b : ℕ) : Type 0 where
  pub point : (x : ℕ) → a ≤ x → x ≤ b → turned upright (covers e) x line ≡ false
