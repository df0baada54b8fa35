-- Of the lists that lead to a target by fewest segments, each is a path, and a greedy one is the first of those as
-- short.
use Prim.Native.Nat.{ℕ, zero, suc, ◌<◌}
use native.Mathlib.Omega.{arith}
use native.Mathlib.Decide.{dec_lt}
use mathlib.Core.Path.{◌≡◌, refl, ap, subst}
use mathlib.Core.Bool.{Bool}
use mathlib.Core.Logic.{◌⊎◌, inl, inr}
use mathlib.Core.List.{List, [], ◌∷◌}
use lib.ListN.{length}
use Rattle.course_laws.specs.Course.{flip, Span, Course, Within, TargetFree, Path, ink, Greedy, Lex}
use Rattle.course_laws.proofs.Course.{course-up, course-merge}

pub path-course : (cs : List ℕ) (f : ℕ → ℕ → Bool) (T : ℕ → ℕ → Type 0) (x y : ℕ)
    → Path cs f T x y → Course (length cs) f T x y
path-course [] f T x y p = p
path-course (c ∷ cs) f T x y p = (c, p.1, path-course cs (flip f) (flip T) y c p.2)

pub path-within : (cs : List ℕ) (f : ℕ → ℕ → Bool) (T : ℕ → ℕ → Type 0) (x y : ℕ)
    → Path cs f T x y → Within (length cs) (ink cs x y) f T x y
path-within [] f T x y p = p
path-within (c ∷ cs) f T x y p =
    (c, ink cs y c, omega arith, p.1, path-within cs (flip f) (flip T) y c p.2)

-- segments by turns to a target, zero-length ones allowed, as the coordinate that each goes to
abbrev pub Chain : List ℕ → (ℕ → ℕ → Bool) → (ℕ → ℕ → Type 0) → ℕ → ℕ → Type 0
Chain [] f T x y = T x y
Chain (c ∷ cs) f T x y = Span f y x c × Chain cs (flip f) (flip T) y c

chain-course : (cs : List ℕ) (f : ℕ → ℕ → Bool) (T : ℕ → ℕ → Type 0) (x y : ℕ)
    → Chain cs f T x y → Course (length cs) f T x y
chain-course [] f T x y h = h
chain-course (c ∷ cs) f T x y h = (c, h.0, chain-course cs (flip f) (flip T) y c h.1)

pub course-chain : (n : ℕ) (f : ℕ → ℕ → Bool) (T : ℕ → ℕ → Type 0) (x y : ℕ)
    → Course n f T x y → (cs : List ℕ) × Chain cs f T x y × (length cs ≡ n)
course-chain zero f T x y r = ([], r, refl)
course-chain (suc n) f T x y r =
    let h = course-chain n (flip f) (flip T) y r.0 r.2 in
    (r.0 ∷ h.0, (r.1, h.1), ap suc h.2)

greedy-chain : (cs : List ℕ) (f : ℕ → ℕ → Bool) (T : ℕ → ℕ → Type 0) (x y : ℕ)
    → Greedy cs f T x y → Chain cs f T x y
greedy-chain [] f T x y g = g
greedy-chain (c ∷ cs) f T x y g = (g.0, greedy-chain cs (flip f) (flip T) y c g.2)

-- no segment has length zero, where no fewer segments lead to a target
pub chain-path : (cs : List ℕ) (f : ℕ → ℕ → Bool) (T : ℕ → ℕ → Type 0) → TargetFree f T
    → (x y : ℕ) → Chain cs f T x y
    → ((n : ℕ) → n < length cs → Course n f T x y → ⊥)
    → ((n : ℕ) → n < length cs → Course n (flip f) (flip T) y x → ⊥) → Path cs f T x y
chain-path [] f T tf x y h l u = h
chain-path (c ∷ cs) f T tf x y h l u = (
  λ e. u (length cs) (omega arith) (rw e at (chain-course cs (flip f) (flip T) y c h.1)),
  h.0,
  chain-path cs (flip f) (flip T) (λ a b t. tf b a t) y c h.1
      (λ n lt r. l (suc n) (omega arith) (c, h.0, r))
      (λ n lt r. l (suc n) (omega arith) (course-merge n f T x y c h.0 (course-up n f T tf c y r))),
)

pub greedy-path : (cs : List ℕ) (f : ℕ → ℕ → Bool) (T : ℕ → ℕ → Type 0) → TargetFree f T
    → (x y : ℕ) → Greedy cs f T x y
    → ((n : ℕ) → n < length cs → Course n f T x y → ⊥)
    → ((n : ℕ) → n < length cs → Course n (flip f) (flip T) y x → ⊥) → Path cs f T x y
greedy-path cs f T tf x y g l u = chain-path cs f T tf x y (greedy-chain cs f T x y g) l u

pub greedy-first : (cs ks : List ℕ) (f : ℕ → ℕ → Bool) (T : ℕ → ℕ → Type 0) (x y : ℕ)
    → length cs ≡ length ks → ink cs x y ≡ ink ks x y → Greedy cs f T x y → Path ks f T x y → Lex cs ks
greedy-first [] ks f T x y e i g p = tt
greedy-first (c ∷ cs) [] f T x y e i g p = omega arith
greedy-first (c ∷ cs) (k ∷ ks) f T x y e i g p =
    pick (dec_lt c k) (dec_lt k c) (λ j q. greedy-first cs ks (flip f) (flip T) y c (omega arith) j g.2 q)
  where
    pick : Dec (c < k) → Dec (k < c) → (ink cs y c ≡ ink ks y c → Path ks (flip f) (flip T) y c → Lex cs ks)
        → (c < k) ⊎ ((c ≡ k) × Lex cs ks)
    pick (yes q) (yes r) h = inl q
    pick (yes q) (no r) h = inl q
    pick (no q) (yes r) h =
        let n : length ks ≡ length cs = omega arith in
        absurd
        (g.1 k (ink ks y k) r p.1 (omega arith)
        (subst (λ (m : ℕ). Within m (ink ks y k) (flip f) (flip T) y k) n
        (path-within ks (flip f) (flip T) y k p.2)))
    pick (no q) (no r) h =
        let w : c ≡ k = omega arith in
        let j = rw (← w) at i in
        inr (w, h (omega arith) (rw w p.2))
