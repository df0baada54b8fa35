-- Laws of joined crossings on a line, and of the scan along it.
use Prim.Native.Nat.{ℕ, ◌+◌, ◌-◌, ◌*◌, ◌≤◌, ◌<◌, min, max}
use native.Mathlib.Omega.{arith}
use native.Mathlib.Decide.{dec_le, dec_lt}
use mathlib.Core.Path.{◌≡◌, subst}
use mathlib.Core.Logic.{◌≢◌}
use mathlib.Core.Bool.{true, false}
use mathlib.Core.List.{List}
use lib.Dec.{eqb}
use lib.ListN.{get_or}
use borrow.Author.Tests.{eqb-true, eq-eqb}
use Rattle.foil_spec.specs.Paths.{gap}
use Rattle.list_laws.proofs.Tests.{and_l, and_r, and_i}
use Rattle.grid.specs.Size.{stride}
use Rattle.runs.specs.Line.{across, Linked, RunStart, RunEnd, is_stop, Scanned, Stop}

module _ (link : List ℕ) (line : ℕ) where
  pub linked-refl : (a : ℕ) → Linked link line a a
  unfolding Linked
  linked-refl a i lo hi = absurd (omega arith)

  pub linked-sym : (a b : ℕ) → Linked link line a b → Linked link line b a
  unfolding Linked
  linked-sym a b h i lo hi = h i (omega arith) (omega arith)

  pub linked-trans : (a b c : ℕ) → Linked link line a b → Linked link line b c → Linked link line a c
  unfolding Linked
  linked-trans a b c h k i lo hi = pick (dec_lt i (max a b)) (dec_le (min a b) i)
    where
      pick : Dec (i < max a b) → Dec (min a b ≤ i) → get_or link (line * stride + i) 0 ≡ 1
      pick (yes p) (yes q) = h i q p
      pick (no p) (yes q) = k i (omega arith) (omega arith)
      pick (yes p) (no q) = k i (omega arith) (omega arith)
      pick (no p) (no q) = k i (omega arith) (omega arith)

  pub linked-at : (a b i : ℕ) → min a b ≤ i → i < max a b → Linked link line a b → get_or link (line * stride + i) 0 ≡ 1
  unfolding Linked
  linked-at a b i lo hi h = h i lo hi

  pub linked-part : (a b c d : ℕ) → min a b ≤ min c d → max c d ≤ max a b → Linked link line a b → Linked link line c d
  unfolding Linked
  linked-part a b c d p q h i lo hi = h i (omega arith) (omega arith)

  -- one link more, upwards or downwards
  pub linked_up : (a b : ℕ) → a ≤ b → Linked link line a b → get_or link (line * stride + b) 0 ≡ 1 →
      Linked link line a (b + 1)
  unfolding Linked
  linked_up a b l h k i lo hi = pick (dec_lt i b)
    where
      pick : Dec (i < b) → get_or link (line * stride + i) 0 ≡ 1
      pick (yes p) = h i (omega arith) (omega arith)
      pick (no p) = let e : i ≡ b = omega arith in rw e k

  pub linked-down : (a b : ℕ) → 0 < a → a ≤ b → Linked link line a b → get_or link (line * stride + (a - 1)) 0 ≡ 1 →
      Linked link line (a - 1) b
  unfolding Linked
  linked-down a b z l h k i lo hi = pick (dec_le a i)
    where
      pick : Dec (a ≤ i) → get_or link (line * stride + i) 0 ≡ 1
      pick (yes p) = h i (omega arith) (omega arith)
      pick (no p) = let e : i ≡ a - 1 = omega arith in rw e k

-- The run of a crossing, as far as its end is known.
pub linked-first : (link : List ℕ) (line a : ℕ) → Linked link line a (a + 1 - 1)
linked-first link line a =
    let e : a ≡ a + 1 - 1 = omega arith in
    subst (λ (b : ℕ). Linked link line a b) e (linked-refl link line a)

pub linked_on : (link : List ℕ) (line a b : ℕ) → a < b → Linked link line a (b - 1) →
    get_or link (line * stride + (b - 1)) 0 ≡ 1 → Linked link line a (b + 1 - 1)
linked_on link line a b l h k =
    let e : (b - 1) + 1 ≡ b + 1 - 1 = omega arith in
    rw (← e) (linked_up link line a (b - 1) (omega arith) h k)

-- a crossing joined with k is in the run of k
pub in-run : {link : List ℕ} {line n k lo hi : ℕ} (q : ℕ) → k < n → q < n → RunStart link line k lo →
    RunEnd link line n k hi → Linked link line k q → (lo ≤ q) × (q < hi)
in-run {link} {line} {n} {k} {lo} {hi} q lk lq s e r = (left (dec_le lo q), right (dec_lt q hi))
  where
    left : Dec (lo ≤ q) → lo ≤ q
    left (yes x) = x
    left (no x) =
        let a = s.le in absurd (s.stop (omega arith) (linked-at link line k q (lo - 1) (omega arith) (omega arith) r))

    right : Dec (q < hi) → q < hi
    right (yes x) = x
    right (no x) =
        let a = e.after in
        absurd (e.stop (omega arith) (linked-at link line k q (hi - 1) (omega arith) (omega arith) r))

-- and the crossings of the run are joined with each other
pub run-joined : {link : List ℕ} {line n k lo hi : ℕ} → RunStart link line k lo → RunEnd link line n k hi →
    (a : ℕ) → lo ≤ a → a < hi → (b : ℕ) → lo ≤ b → b < hi → Linked link line a b
run-joined {link} {line} {n} {k} {lo} {hi} s e a la ha b lb hb =
    linked-part link line lo (hi - 1) a b (omega arith) (omega arith)
    (linked-trans link line lo k (hi - 1) s.linked e.linked)

-- What a stop is.
module _ (other inks cross : List ℕ) (line x v s k : ℕ) where
  pub of-stop : is_stop other inks cross line x v s k ≡ true →
      (across other line k ≡ v) × (across inks line k + gap x (get_or cross k 0) ≡ s)
  unfolding is_stop
  of-stop h = (
    eqb-true (across other line k) v (and_l (eqb (across other line k) v) _ h),
    eqb-true (across inks line k + gap x (get_or cross k 0)) s (and_r (eqb (across other line k) v) _ h),
  )

  pub to-stop : across other line k ≡ v → across inks line k + gap x (get_or cross k 0) ≡ s →
      is_stop other inks cross line x v s k ≡ true
  unfolding is_stop
  to-stop a b =
      and_i {a = eqb (across other line k) v} (eq-eqb (across other line k) v a)
      (eq-eqb (across inks line k + gap x (get_or cross k 0)) s b)

-- The scan: nothing from lo to k, and the line is blocked after k: nothing at all.
pub blocked : (other inks link cross : List ℕ) (line n lo x v s k : ℕ) → lo ≤ k →
    ((j : ℕ) → j < k → lo ≤ j → is_stop other inks cross line x v s j ≡ false) →
    is_stop other inks cross line x v s k ≡ false → get_or link (line * stride + k) 0 ≢ 1 →
    Scanned other inks link cross line n lo x v s n
blocked other inks link cross line n lo x v s k l h e b = record {
  le = omega arith;
  before = λ j q p r. pick j p r (dec_lt j k) (dec_lt k j);
  found = λ z. absurd (omega arith);
}
  where
    pick : (j : ℕ) → lo ≤ j → Linked link line lo j → Dec (j < k) → Dec (k < j) →
        is_stop other inks cross line x v s j ≡ false
    pick j p r (yes i) t = h j i p
    pick j p r (no i) (yes t) = absurd (b (linked-at link line lo j k (omega arith) (omega arith) r))
    pick j p r (no i) (no t) = let w : j ≡ k = omega arith in rw w e

-- the scan from a run's start
pub stop-of : {other inks link cross : List ℕ} {line n at v s lo r : ℕ} → RunStart link line at lo →
    Scanned other inks link cross line n lo (get_or cross at 0) v s r → Stop other inks link cross line n at v s r
stop-of {link = link} {line = line} {at = at} {lo = lo} {r = r} s c = record {
  le = c.le;
  before = λ k l h. c.before k l (from-lo k h (dec_le lo k)) (linked-trans link line lo at k s.linked h);
  found = λ l.
      (linked-trans link line at lo r (linked-sym link line lo at s.linked) (c.found l).1, (c.found l).2);
}
  where
    from-lo : (k : ℕ) → Linked link line at k → Dec (lo ≤ k) → lo ≤ k
    from-lo k h (yes p) = p
    from-lo k h (no p) =
        let q = s.le in
        absurd (s.stop (omega arith) (linked-at link line at k (lo - 1) (omega arith) (omega arith) h))
