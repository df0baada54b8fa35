-- A box has a point exactly if it covers both its numbers, each on its axis.
use Prim.Native.Nat.{ℕ, ◌≤◌, ◌<◌}
use mathlib.Core.Path.{◌≡◌, refl, ◌∙◌}
use mathlib.Core.Bool.{Bool, true, false, not, ◌&&◌, and_comm}
use mathlib.Core.List.{List}
use Rattle.foil_spec.specs.Foil.{Entry}
use Rattle.foil_spec.specs.Lent.{entry_at}
use Rattle.list_laws.proofs.Tests.{and-no-r}
use Rattle.zones.specs.Boxes.{inside, covers, Boxes}
use Rattle.zones.proofs.Free.{inside-below, inside-above}
use Rattle.grid.specs.Extent.{turned, extent, Solid}

-- the box covers the number on the axis
abbrev pub covers_on : Bool → Entry → ℕ → Bool
covers_on upright e v = inside (extent upright e).from (extent upright e).to v

pub turned-covers : (upright : Bool) (e : Entry) (x line : ℕ) →
    turned upright (covers e) x line ≡ (covers_on upright e x && covers_on (not upright) e line)
unfolding covers extent
turned-covers false e x line = refl
turned-covers true e x line = and_comm (inside e.x0 e.x1 line) (inside e.y0 e.y1 x)

module _ (upright : Bool) (e : Entry) where
  -- not covered on one axis, nor is the point
  misses-along : (x line : ℕ) → covers_on upright e x ≡ false → turned upright (covers e) x line ≡ false
  misses-along x line h = turned-covers upright e x line ∙ rw h refl

  misses-line : (x line : ℕ) → covers_on (not upright) e line ≡ false → turned upright (covers e) x line ≡ false
  misses-line x line h = turned-covers upright e x line ∙ and-no-r (covers_on upright e x) _ h

  module _ (x line : ℕ) where
    pub misses-ahead : x < (extent upright e).from → turned upright (covers e) x line ≡ false
    misses-ahead l = misses-along x line (inside-below _ _ x l)

    pub misses-past : (extent upright e).to ≤ x → turned upright (covers e) x line ≡ false
    misses-past l = misses-along x line (inside-above _ _ x l)

    pub misses-above : line < (extent (not upright) e).from → turned upright (covers e) x line ≡ false
    misses-above l = misses-line x line (inside-below _ _ line l)

    pub misses-under : (extent (not upright) e).to ≤ line → turned upright (covers e) x line ≡ false
    misses-under l = misses-line x line (inside-above _ _ line l)

-- a box of a table is not empty
pub solid : {z : List ℕ} {n w h : ℕ} → Boxes z n w h → (k : ℕ) → k < n → Solid (entry_at z k)
unfolding extent
solid B k l false = B.x-order k l
solid B k l true = B.y-order k l
