-- Courses, segments one after the other to a target, over any test f of free points (x first, then y) and any targets
-- T. A level segment goes along a row; an upright one is a level one of the flipped board, so that each notion is
-- defined for one direction only.
use Rattle.std.specs.Prelude.{ℕ, zero, suc, ◌+◌, ◌-◌, ◌≤◌, ◌<◌, min, max, ◌≡◌, Bool, true, false, ◌≢◌, ◌⊎◌, List, [], ◌∷◌, length}
use Rattle.foil_spec.specs.Paths.{gap}

-- the board with columns and rows exchanged
abbrev pub flip {ℓ} : {A : Type ℓ} → (ℕ → ℕ → A) → ℕ → ℕ → A
flip f = λ x y. f y x

-- all points of row y from a to b, either way round, are free
unfoldable pub Span : (ℕ → ℕ → Bool) → ℕ → ℕ → ℕ → Type 0
Span f y a b = (x : ℕ) → min a b ≤ x → x ≤ max a b → f x y ≡ true

-- from (x, y) to a target by n segments, level and upright by turns, the first level, zero-length ones allowed
abbrev pub Course : ℕ → (ℕ → ℕ → Bool) → (ℕ → ℕ → Type 0) → ℕ → ℕ → Type 0
Course zero f T x y = T x y
Course (suc n) f T x y = (c : ℕ) × Span f y x c × Course n (flip f) (flip T) y c

-- every target is free
abbrev pub TargetFree : (ℕ → ℕ → Bool) → (ℕ → ℕ → Type 0) → Type 0
TargetFree f T = (x y : ℕ) → T x y → f x y ≡ true

-- as Course, by n segments of at most len steps in all
abbrev pub Within : ℕ → ℕ → (ℕ → ℕ → Bool) → (ℕ → ℕ → Type 0) → ℕ → ℕ → Type 0
Within zero len f T x y = T x y
Within (suc n) len f T x y =
    (c : ℕ) × (r : ℕ) × (gap x c + r ≤ len) × Span f y x c × Within n r (flip f) (flip T) y c

-- the first and the last column of the board are marked, and so is each column on both sides of a change
pub record Marks (f : ℕ → ℕ → Bool) (m : ℕ → Bool) (size : ℕ) : Type 0 where
  pub first : m 0 ≡ true
  pub last : m (size - 1) ≡ true
  pub below : (x y : ℕ) → f x y ≡ true → x < size
  pub down : (x y : ℕ) → m (suc x) ≡ false → f (suc x) y ≡ true → f x y ≡ true
  pub up : (x y : ℕ) → m x ≡ false → f x y ≡ true → f (suc x) y ≡ true

-- a target that is not on a marked column goes on to the columns on both sides of it
pub record Steady (T : ℕ → ℕ → Type 0) (m : ℕ → Bool) : Type 0 where
  pub down : (x y : ℕ) → m (suc x) ≡ false → T (suc x) y → T x y
  pub up : (x y : ℕ) → m x ≡ false → T x y → T (suc x) y

-- a path from (x, y) to a target, the first segment level, as the coordinate that each segment goes to: of a level
-- one the x, of an upright one the y
abbrev pub Path : List ℕ → (ℕ → ℕ → Bool) → (ℕ → ℕ → Type 0) → ℕ → ℕ → Type 0
Path [] f T x y = T x y
Path (c ∷ cs) f T x y = (c ≢ x) × Span f y x c × Path cs (flip f) (flip T) y c

-- the steps of a path from (x, y), by its coordinates
abbrev pub ink : List ℕ → ℕ → ℕ → ℕ
ink [] x y = 0
ink (c ∷ cs) x y = gap x c + ink cs y c

-- each coordinate is the first from which as many segments as are left, of no more steps, lead on
abbrev pub Greedy : List ℕ → (ℕ → ℕ → Bool) → (ℕ → ℕ → Type 0) → ℕ → ℕ → Type 0
Greedy [] f T x y = T x y
Greedy (c ∷ cs) f T x y =
    Span f y x c
    × ((k r : ℕ) → k < c → Span f y x k → gap x k + r ≤ gap x c + ink cs y c
    → Within (length cs) r (flip f) (flip T) y k → ⊥)
    × Greedy cs (flip f) (flip T) y c

-- the order of coordinates: where the lists first differ, that of the first list is smaller
abbrev pub Lex : List ℕ → List ℕ → Type 0
Lex [] ks = Unit {0}
Lex (c ∷ cs) [] = ⊥
Lex (c ∷ cs) (k ∷ ks) = (c < k) ⊎ ((c ≡ k) × Lex cs ks)
