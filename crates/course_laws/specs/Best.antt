-- The best path from a point to a target, over both first directions, and its corners.
use Rattle.std.specs.Prelude.{ℕ, ◌≤◌, ◌<◌, ◌≡◌, Bool, true, false, List, [], ◌∷◌, length}
use Rattle.foil_spec.specs.Foil.{Point, point}
use Rattle.course_laws.specs.Course.{flip, Path, ink, Lex}

-- a path from (x, y) whose first segment is level or, if up, upright
abbrev pub PathD : Bool → List ℕ → (ℕ → ℕ → Bool) → (ℕ → ℕ → Type 0) → ℕ → ℕ → Type 0
PathD false cs f T x y = Path cs f T x y
PathD true cs f T x y = Path cs (flip f) (flip T) y x

-- the order of corners, by the coordinates of two paths from a point of row y
abbrev pub LexD : ℕ → Bool → List ℕ → Bool → List ℕ → Type 0
LexD y false cs false ks = Lex cs ks
LexD y true cs true ks = Lex cs ks
LexD y false cs true [] = Unit {0}
LexD y false cs true (k ∷ ks) = y < k
LexD y true [] false ks = Unit {0}
LexD y true (c ∷ cs) false ks = c < y

-- the steps of a path from (x, y) whose first segment is level or, if up, upright
abbrev pub ink_d : Bool → List ℕ → ℕ → ℕ → ℕ
ink_d false cs x y = ink cs x y
ink_d true cs x y = ink cs y x

-- a path of fewest segments, of those the shortest, and of those the first in the order of corners
pub record Best (up : Bool) (cs : List ℕ) (f : ℕ → ℕ → Bool) (T : ℕ → ℕ → Type 0) (x y : ℕ) : Type 0 where
  pub path : PathD up cs f T x y
  pub fewest : (d : Bool) (ks : List ℕ) → PathD d ks f T x y → length cs ≤ length ks
  pub shortest : (d : Bool) (ks : List ℕ) → PathD d ks f T x y → length cs ≡ length ks → ink_d up cs x y ≤ ink_d d ks x y
  pub first : (d : Bool) (ks : List ℕ) → PathD d ks f T x y → length cs ≡ length ks → ink_d up cs x y ≡ ink_d d ks x y
      → LexD y up cs d ks

-- the corners after (x, y) of a path, by its coordinates
abbrev pub corners : Bool → List ℕ → ℕ → ℕ → List Point
corners false [] x y = []
corners true [] x y = []
corners false (c ∷ cs) x y = point c y ∷ corners true cs c y
corners true (c ∷ cs) x y = point x c ∷ corners false cs x c

-- the points that pass the target's test T
abbrev pub On : (Point → Bool) → ℕ → ℕ → Type 0
On T x y = T (point x y) ≡ true
