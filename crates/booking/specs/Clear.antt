-- The box that two points span, and whether all its points are free.
use Rattle.std.specs.Prelude.{ℕ, ◌≤◌, min, max, ◌≡◌, Bool, true, false, ◌&&◌, leb, ltb}
use Rattle.foil_spec.specs.Foil.{Point, point, Entry}

-- its low corner
abbrev pub low_of : Point → Point → Point
low_of p q = point (min p.x q.x) (min p.y q.y)

-- its high corner
abbrev pub high_of : Point → Point → Point
high_of p q = point (max p.x q.x) (max p.y q.y)

-- the box e has a point of the box from a, its low corner, to b, its high one, both included
unfoldable pub meets : Entry → Point → Point → Bool
meets e a b = leb e.x0 b.x && ltb a.x e.x1 && (leb e.y0 b.y && ltb a.y e.y1)

-- the point (x, y) is in the box from a to b
pub record Inside (a b : Point) (x y : ℕ) : Type 0 where
  pub left : a.x ≤ x
  pub right : x ≤ b.x
  pub top : a.y ≤ y
  pub bottom : y ≤ b.y

-- r says whether all points of the box from a to b pass the test f
pub record Cleared (f : ℕ → ℕ → Bool) (a b : Point) (r : Bool) : Type 0 where
  pub yes : r ≡ true → (x y : ℕ) → Inside a b x y → f x y ≡ true
  pub no : r ≡ false → (x y : ℕ) × Inside a b x y × (f x y ≡ false)
