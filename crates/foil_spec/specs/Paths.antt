-- Paths (document 01: ways), over any test f of free points (x first, then y), a width W and a height H.
use Rattle.std.specs.Prelude.{ℕ, zero, suc, ◌+◌, ◌-◌, ◌*◌, min, max, Bool, cond, true, false, not, ◌&&◌, ◌||◌, List, [], ◌∷◌, map, ltb, eqb, length}
use Rattle.std.proofs.Math.Option.{Option, none, some}
use Rattle.foil_spec.specs.Lists.{range, keep, all, each}
use Rattle.foil_spec.specs.Foil.{Point, point, same}

-- a target is a test on points; this one is passed by the point T alone
abbrev pub at : Point → Point → Bool
at T = λ p. same p T

-- and this one by every point
abbrev pub anywhere : Point → Bool
anywhere p = true

-- which way the next segment (document 01: leg) may go
pub data Heading : Type 0 where
  either level upright : Heading

-- after the segment from p to q the next one goes the other way
unfoldable pub after : Point → Point → Heading
after p q = cond (eqb p.y q.y) upright level

-- the test passes at every number from the smaller one to the larger one, both included
unfoldable pub between : (ℕ → Bool) → ℕ → ℕ → Bool
between g a b = all g (range (min a b) (suc (max a b - min a b)))

-- how many steps two numbers are apart
abbrev pub gap : ℕ → ℕ → ℕ
gap a b = (a - b) + (b - a)

module _ (f : ℕ → ℕ → Bool) where
  -- a level segment: one row, two columns, all its points free, both ends included
  unfoldable pub level_free : Point → Point → Bool
  level_free p q =
      eqb p.y q.y && not (eqb p.x q.x) && between (λ (x : ℕ). f x p.y) p.x q.x

  -- an upright segment: one column, two rows, all its points free, both ends included
  unfoldable pub upright_free : Point → Point → Bool
  upright_free p q =
      eqb p.x q.x && not (eqb p.y q.y) && between (λ (y : ℕ). f p.x y) p.y q.y

  -- a segment that goes as the heading says
  unfoldable pub segment : Heading → Point → Point → Bool
  segment either p q = level_free p q || upright_free p q
  segment level p q = level_free p q
  segment upright p q = upright_free p q

  -- from p over the corners to a point of the target T by segments that alternate, the first as the heading says
  unfoldable pub leads : (Point → Bool) → Heading → Point → List Point → Bool
  leads T h p [] = T p
  leads T h p (q ∷ cs) = segment h p q && leads T (after p q) q cs

  -- the corners are a path from S to a point of the target T
  unfoldable pub is_path_to : Point → (Point → Bool) → List Point → Bool
  is_path_to S T [] = false
  is_path_to S T (p ∷ cs) = same p S && f p.x p.y && leads T either p cs

  -- the corners are a path from S to the point T
  abbrev pub is_path : Point → Point → List Point → Bool
  is_path S T cs = is_path_to S (at T) cs

  -- the corners are a way, whoever drew it: a path from the first of them to wherever they lead
  unfoldable pub is_way : List Point → Bool
  is_way [] = false
  is_way (p ∷ cs) = is_path_to p anywhere (p ∷ cs)

-- the corners less two, and 0 for one or two corners
unfoldable pub bends : List Point → ℕ
bends cs = length cs - 2

-- smaller y first, then smaller x
unfoldable pub point_before : Point → Point → Bool
point_before p q = ltb p.y q.y || eqb p.y q.y && ltb p.x q.x

-- at the first corner where the lists differ, that of the first list comes first
unfoldable pub corners_before : List Point → List Point → Bool
corners_before [] ds = false
corners_before (p ∷ cs) [] = false
corners_before (p ∷ cs) (q ∷ ds) = point_before p q || same p q && corners_before cs ds

-- the steps from p over the corners
unfoldable pub steps_from : Point → List Point → ℕ
steps_from p [] = 0
steps_from p (q ∷ cs) = gap p.x q.x + gap p.y q.y + steps_from q cs

-- a path's length: the sum of its segments' steps
unfoldable pub path_length : List Point → ℕ
path_length [] = 0
path_length (p ∷ cs) = steps_from p cs

-- the smaller length first, then the corners
unfoldable pub before : List Point → List Point → Bool
before cs ds =
    ltb (path_length cs) (path_length ds) || eqb (path_length cs) (path_length ds) && corners_before cs ds

-- the points of the foil, by y, then x
unfoldable pub points : ℕ → ℕ → List Point
points W H = each (λ (y : ℕ). map (λ (x : ℕ). point x y) (range 0 W)) (range 0 H)

-- the shortest way to go on from p, of cs and more: of equally short ones the first
unfoldable pub shortest : Point → List Point → List (List Point) → List Point
shortest p cs [] = cs
shortest p cs (ds ∷ more) = shortest p (cond (ltb (steps_from p ds) (steps_from p cs)) ds cs) more

module _ (f : ℕ → ℕ → Bool) (W H : ℕ) (T : Point → Bool) where
  -- every way to go on from p to the target by n segments, in order: each point is tried as the next corner
  unfoldable pub goings : ℕ → Heading → Point → List (List Point)
  goings zero h p = cond (T p) ([] ∷ []) []
  goings (suc n) h p =
      each (λ (q : Point). map (λ (cs : List Point). q ∷ cs) (goings n (after p q) q))
      (keep (segment f h p) (points W H))

  -- the first path from S of n, else of n + 1, .. segments, in all so many tries
  unfoldable pub first_from : Point → ℕ → ℕ → Option (List Point)
  first_from S zero n = none
  first_from S (suc tries) n =
      elim (goings n either S) [ [] ↦ first_from S tries (suc n) | cs ∷ more ↦ some (S ∷ shortest S cs more) ]

-- the first path of fewest bends from S to a point of the target T, if there is one; none needs more than W * H
-- segments
unfoldable pub first_path_to : (ℕ → ℕ → Bool) → ℕ → ℕ → Point → (Point → Bool) → Option (List Point)
first_path_to f W H S T = cond (f S.x S.y) (first_from f W H T S (suc (W * H)) 0) none

-- the first path of fewest bends from S to the point T, if there is one
abbrev pub first_path : (ℕ → ℕ → Bool) → ℕ → ℕ → Point → Point → Option (List Point)
first_path f W H S T = first_path_to f W H S (at T)
