-- Laws of spans and of courses.
use Prim.Native.Nat.{ℕ, zero, suc, ◌+◌, ◌≤◌, min, max}
use native.Mathlib.Omega.{arith}
use native.Mathlib.Decide.{dec_le}
use mathlib.Core.Path.{◌≡◌, subst}
use mathlib.Core.Bool.{Bool, true}
use Rattle.foil_spec.specs.Paths.{gap}
use Rattle.course_laws.specs.Course.{flip, Span, Course, Within, TargetFree}

module _ (f : ℕ → ℕ → Bool) (y : ℕ) where
  pub span-refl : (a : ℕ) → f a y ≡ true → Span f y a a
  unfolding Span
  span-refl a h x lo hi = subst (λ (k : ℕ). f k y ≡ true) (omega arith) h

  pub span-sym : (a b : ℕ) → Span f y a b → Span f y b a
  unfolding Span
  span-sym a b h x lo hi = h x (omega arith) (omega arith)

  pub span-trans : (a b c : ℕ) → Span f y a b → Span f y b c → Span f y a c
  unfolding Span
  span-trans a b c h k x lo hi = pick (dec_le x (max a b)) (dec_le (min a b) x)
    where
      pick : Dec (x ≤ max a b) → Dec (min a b ≤ x) → f x y ≡ true
      pick (yes p) (yes q) = h x q p
      pick (no p) (yes q) = k x (omega arith) (omega arith)
      pick (yes p) (no q) = k x (omega arith) (omega arith)
      pick (no p) (no q) = k x (omega arith) (omega arith)

  pub span-start : (a b : ℕ) → Span f y a b → f a y ≡ true
  unfolding Span
  span-start a b h = h a (omega arith) (omega arith)

  pub span-end : (a b : ℕ) → Span f y a b → f b y ≡ true
  unfolding Span
  span-end a b h = h b (omega arith) (omega arith)

  pub span-part : (a b c d : ℕ) → min a b ≤ min c d → max c d ≤ max a b → Span f y a b → Span f y c d
  unfolding Span
  span-part a b c d p q h x lo hi = h x (omega arith) (omega arith)

-- one segment more, of length zero, at the end
pub course-up : (n : ℕ) (f : ℕ → ℕ → Bool) (T : ℕ → ℕ → Type 0) → TargetFree f T
    → (x y : ℕ) → Course n f T x y → Course (suc n) f T x y
course-up zero f T tf x y t = (x, span-refl f y x (tf x y t), t)
course-up (suc n) f T tf x y r = (r.0, r.1, course-up n (flip f) (flip T) (λ a b t. tf b a t) y r.0 r.2)

-- a level segment before a level one joins it
pub course-merge : (n : ℕ) (f : ℕ → ℕ → Bool) (T : ℕ → ℕ → Type 0) (x y c : ℕ) → Span f y x c
    → Course (suc n) f T c y → Course (suc n) f T x y
course-merge n f T x y c s r = (r.0, span-trans f y x c r.0 s r.1, r.2)

-- more steps allow as much
pub within_more : (n a b : ℕ) (f : ℕ → ℕ → Bool) (T : ℕ → ℕ → Type 0) (x y : ℕ) → a ≤ b → Within n a f T x y
    → Within n b f T x y
within_more zero a b f T x y l w = w
within_more (suc n) a b f T x y l w = (w.0, w.1, (let h = w.2 in omega arith), w.3, w.4)

-- courses of so many steps and of any
pub within-course : (n len : ℕ) (f : ℕ → ℕ → Bool) (T : ℕ → ℕ → Type 0) (x y : ℕ) → Within n len f T x y
    → Course n f T x y
within-course zero len f T x y w = w
within-course (suc n) len f T x y w = (w.0, w.3, within-course n w.1 (flip f) (flip T) y w.0 w.4)

pub course-within : (n : ℕ) (f : ℕ → ℕ → Bool) (T : ℕ → ℕ → Type 0) (x y : ℕ) → Course n f T x y
    → (len : ℕ) × Within n len f T x y
course-within zero f T x y r = (0, r)
course-within (suc n) f T x y r =
    let h = course-within n (flip f) (flip T) y r.0 r.2 in
    (gap x r.0 + h.0, (r.0, h.0, omega arith, r.1, h.1))
