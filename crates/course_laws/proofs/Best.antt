-- Fewest segments make a path of fewest segments, and greedy ones, in the right first direction, the best path.
use Prim.Native.Nat.{ℕ, suc, ◌≤◌, ◌<◌}
use native.Mathlib.Omega.{arith}
use native.Mathlib.Decide.{dec_le, dec_lt}
use mathlib.Core.Path.{◌≡◌}
use mathlib.Core.Bool.{Bool, true, false}
use mathlib.Core.Logic.{◌≢◌}
use mathlib.Core.List.{List, [], ◌∷◌}
use lib.ListN.{length}
use Rattle.course_laws.specs.Course.{flip, Course, TargetFree, Path, ink, Greedy}
use Rattle.course_laws.specs.Best.{PathD, ink_d, LexD, Best}
use Rattle.course_laws.proofs.Greedy.{path-course, course-chain, chain-path, greedy-path, greedy-first}

-- a path of n segments, where none has fewer
pub record Fewest (f : ℕ → ℕ → Bool) (T : ℕ → ℕ → Type 0) (x y n : ℕ) : Type 0 where
  pub up : Bool
  pub cs : List ℕ
  pub path : PathD up cs f T x y
  pub many : length cs ≡ n
  pub least : (d : Bool) (ks : List ℕ) → PathD d ks f T x y → length cs ≤ length ks

module _ (f : ℕ → ℕ → Bool) (T : ℕ → ℕ → Type 0) (tf : TargetFree f T) (x y n : ℕ)
    (lo : (m : ℕ) → m < n → Course m f T x y → ⊥) (up : (m : ℕ) → m < n → Course m (flip f) (flip T) y x → ⊥) where
  no-fewer : (d : Bool) (ks : List ℕ) → PathD d ks f T x y → n ≤ length ks
  no-fewer d ks p = pick d p (dec_le n (length ks))
    where
      pick : (d : Bool) → PathD d ks f T x y → Dec (n ≤ length ks) → n ≤ length ks
      pick d p (yes q) = q
      pick false p (no q) = absurd (lo (length ks) (omega arith) (path-course ks f T x y p))
      pick true p (no q) = absurd (up (length ks) (omega arith) (path-course ks (flip f) (flip T) y x p))

  pub level-fewest : Course n f T x y → Fewest f T x y n
  level-fewest r =
      let c = course-chain n f T x y r in
      record {
        up = false;
        cs = c.0;
        path = chain-path c.0 f T tf x y c.1
            (λ m l. lo m (omega (arith, c.2)))
            (λ m l. up m (omega (arith, c.2)));
        many = c.2;
        least = λ d ks p. let l = no-fewer d ks p in omega (arith, c.2);
      }

  pub upright-fewest : Course n (flip f) (flip T) y x → Fewest f T x y n
  upright-fewest r =
      let c = course-chain n (flip f) (flip T) y x r in
      record {
        up = true;
        cs = c.0;
        path = chain-path c.0 (flip f) (flip T) (λ a b t. tf b a t) y x c.1
            (λ m l. up m (omega (arith, c.2)))
            (λ m l. lo m (omega (arith, c.2)));
        many = c.2;
        least = λ d ks p. let l = no-fewer d ks p in omega (arith, c.2);
      }

module _ (f : ℕ → ℕ → Bool) (T : ℕ → ℕ → Type 0) (tf : TargetFree f T) (x y : ℕ) (cs : List ℕ)
    (lo : (m : ℕ) → m < length cs → Course m f T x y → ⊥)
    (up : (m : ℕ) → m < length cs → Course m (flip f) (flip T) y x → ⊥) where
  -- level first, where no path is shorter and none as short goes upright first towards smaller y
  pub best-level : Greedy cs f T x y
      → ((d : Bool) (ks : List ℕ) → PathD d ks f T x y → length cs ≡ length ks → ink cs x y ≤ ink_d d ks x y)
      → ((k : ℕ) (ks : List ℕ) → Path (k ∷ ks) (flip f) (flip T) y x → length cs ≡ suc (length ks)
      → ink cs x y ≡ ink (k ∷ ks) y x → k < y → ⊥)
      → Best false cs f T x y
  best-level g s h =
      record {
        path = greedy-path cs f T tf x y g lo up;
        fewest = no-fewer f T tf x y (length cs) lo up;
        shortest = s;
        first = order;
      }
    where
      order : (d : Bool) (ks : List ℕ) → PathD d ks f T x y → length cs ≡ length ks → ink cs x y ≡ ink_d d ks x y
          → LexD y false cs d ks
      order false ks p e i = greedy-first cs ks f T x y e i g p
      order true [] p e i = tt
      order true (k ∷ ks) p e i = pick (dec_lt y k)
        where
          pick : Dec (y < k) → y < k
          pick (yes q) = q
          pick (no q) = let n : k ≢ y = p.0 in absurd (h k ks p e i (omega arith))

  -- upright first, where no path is shorter, and it goes towards smaller y or none as short goes level first
  pub best-upright : Greedy cs (flip f) (flip T) y x
      → ((d : Bool) (ks : List ℕ) → PathD d ks f T x y → length cs ≡ length ks → ink cs y x ≤ ink_d d ks x y)
      → ((ks : List ℕ) → Path ks f T x y → length cs ≡ length ks → ink cs y x ≡ ink ks x y → LexD y true cs false ks)
      → Best true cs f T x y
  best-upright g s h =
      record {
        path = greedy-path cs (flip f) (flip T) (λ a b t. tf b a t) y x g up lo;
        fewest = no-fewer f T tf x y (length cs) lo up;
        shortest = s;
        first = order;
      }
    where
      order : (d : Bool) (ks : List ℕ) → PathD d ks f T x y → length cs ≡ length ks → ink cs y x ≡ ink_d d ks x y
          → LexD y true cs d ks
      order true ks p e i = greedy-first cs ks (flip f) (flip T) y x e i g p
      order false ks p e i = h ks p e i
