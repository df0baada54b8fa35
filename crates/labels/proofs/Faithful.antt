-- The escape grid is faithful to the board: joined crossings are spans, and the next corner can be taken on the grid.
use Prim.Native.Nat.{ℕ, zero, suc, ◌+◌, ◌-◌, ◌≤◌, ◌<◌, min, max}
use native.Mathlib.Nat.{add-zero}
use native.Mathlib.Omega.{arith}
use native.Mathlib.Decide.{dec_le, dec_lt}
use mathlib.Core.Path.{◌≡◌}
use mathlib.Core.Bool.{Bool, true}
use mathlib.Core.Logic.{◌⊎◌}
use mathlib.Core.List.{List}
use lib.ListN.{get_or}
use borrow.Author.Tests.{eq-eqb, eqb-true}
use Rattle.foil_spec.specs.Paths.{gap}
use Rattle.course_laws.specs.Course.{flip, Span, Within, Marks, Steady}
use Rattle.course_laws.proofs.Course.{span-refl, span-sym, span-trans, span-start, span-end, span-part}
use Rattle.course_laws.proofs.Slide.{near}
use Rattle.grid.specs.Lines.{has_mark, Collected}
use Rattle.grid.specs.Links.{Links}
use Rattle.runs.specs.Line.{Linked}
use Rattle.runs.proofs.Line.{linked-sym, linked-at, linked-part}

-- m lines with n crossings each: a next corner c anywhere has one on the grid that is on a path no longer, and no
-- later, or on a shorter one
pub record Faithful (f : ℕ → ℕ → Bool) (T : ℕ → ℕ → Type 0) (cross : List ℕ) (n : ℕ) (lines : List ℕ) (m : ℕ)
    (link : List ℕ) : Type 0 where
  pub joined : (j a b : ℕ) → j < m → a < n → b < n → f (get_or cross a 0) (get_or lines j 0) ≡ true → Linked link j a b →
      Span f (get_or lines j 0) (get_or cross a 0) (get_or cross b 0)
  pub links : (j a b : ℕ) → j < m → a < n → b < n → Span f (get_or lines j 0) (get_or cross a 0) (get_or cross b 0) →
      Linked link j a b
  pub near : (r s i j c : ℕ) → i < n → j < m → Span f (get_or lines j 0) (get_or cross i 0) c →
      Within r s (flip f) (flip T) (get_or lines j 0) c →
      (k : ℕ) × (t : ℕ) × (k < n) × Linked link j i k × Within r t (flip f) (flip T) (get_or lines j 0) (get_or cross k 0)
      × (((gap (get_or cross i 0) (get_or cross k 0) + t ≤ gap (get_or cross i 0) c + s) × (get_or cross k 0 ≤ c))
      ⊎ (gap (get_or cross i 0) (get_or cross k 0) + t < gap (get_or cross i 0) c + s))
  pub sorted : (a b : ℕ) → a ≤ b → b < n → get_or cross a 0 ≤ get_or cross b 0

module _ {f : ℕ → ℕ → Bool} {cross : List ℕ} {n : ℕ} {lines : List ℕ} {m : ℕ} {link : List ℕ}
    (E : Links f cross n lines m link) (j : ℕ) (lj : j < m) where
  -- d links up from crossing a
  joined-up : (a d : ℕ) → a + d < n → f (get_or cross a 0) (get_or lines j 0) ≡ true → Linked link j a (a + d) →
      Span f (get_or lines j 0) (get_or cross a 0) (get_or cross (a + d) 0)
  joined-up a zero la h k = rw add-zero (span-refl f (get_or lines j 0) (get_or cross a 0) h)
  joined-up a (suc d) la h k =
      let e : a + suc d ≡ suc (a + d) = omega arith in
      rw e
      (span-trans f (get_or lines j 0) (get_or cross a 0) (get_or cross (a + d) 0) (get_or cross (suc (a + d)) 0)
      (joined-up a d (omega arith) h (linked-part link j a (a + suc d) a (a + d) (omega arith) (omega arith) k))
      (E.span j (a + d) lj (omega arith)
      (linked-at link j a (a + suc d) (a + d) (omega arith) (omega arith) k)))

  joined-le : (a b : ℕ) → a ≤ b → b < n → f (get_or cross a 0) (get_or lines j 0) ≡ true → Linked link j a b →
      Span f (get_or lines j 0) (get_or cross a 0) (get_or cross b 0)
  joined-le a b l lb h k =
      let e : a + (b - a) ≡ b = omega arith in rw e at (joined-up a (b - a) (omega arith) h (rw e k))

  joined-any : (a b : ℕ) → a < n → b < n → f (get_or cross a 0) (get_or lines j 0) ≡ true → Linked link j a b →
      Span f (get_or lines j 0) (get_or cross a 0) (get_or cross b 0)
  joined-any a b la lb h k = pick (dec_le a b)
    where
      pick : Dec (a ≤ b) → Span f (get_or lines j 0) (get_or cross a 0) (get_or cross b 0)
      pick (yes p) = joined-le a b p lb h k
      pick (no p) =
          let one = linked-at link j a b b (omega arith) (omega arith) k in
          span-sym f (get_or lines j 0) (get_or cross b 0) (get_or cross a 0)
          (joined-le b a (omega arith) la
          (span-start f (get_or lines j 0) (get_or cross b 0) (get_or cross (suc b) 0) (E.span j b lj (omega arith) one))
          (linked-sym link j a b k))

  links-any : ((a b : ℕ) → a ≤ b → b < n → get_or cross a 0 ≤ get_or cross b 0) → (a b : ℕ) → a < n → b < n →
      Span f (get_or lines j 0) (get_or cross a 0) (get_or cross b 0) → Linked link j a b
  unfolding Linked
  links-any so a b la lb h i lo hi =
      E.one j i lj (omega arith)
      (pick (dec_le a b) (so i (suc i) (omega arith) (omega arith)) (so (min a b) i lo (omega arith))
      (so (suc i) (max a b) (omega arith) (omega arith)))
    where
      pick : Dec (a ≤ b) → get_or cross i 0 ≤ get_or cross (suc i) 0 → get_or cross (min a b) 0 ≤ get_or cross i 0 →
          get_or cross (suc i) 0 ≤ get_or cross (max a b) 0 →
          Span f (get_or lines j 0) (get_or cross i 0) (get_or cross (suc i) 0)
      pick (yes p) s1 s2 s3 =
          let e1 : min a b ≡ a = omega arith in
          let e2 : max a b ≡ b = omega arith in
          let t2 = rw e1 at s2 in
          let t3 = rw e2 at s3 in
          span-part f (get_or lines j 0) (get_or cross a 0) (get_or cross b 0) (get_or cross i 0) (get_or cross (suc i) 0)
          (omega arith) (omega arith) h
      pick (no p) s1 s2 s3 =
          let e1 : min a b ≡ b = omega arith in
          let e2 : max a b ≡ a = omega arith in
          let t2 = rw e1 at s2 in
          let t3 = rw e2 at s3 in
          span-part f (get_or lines j 0) (get_or cross a 0) (get_or cross b 0) (get_or cross i 0) (get_or cross (suc i) 0)
          (omega arith) (omega arith) h

collected-up : {marks : List ℕ} {size : ℕ} {lines : List ℕ} {n : ℕ} → Collected marks size lines n →
    (a b : ℕ) → a ≤ b → b < n → get_or lines a 0 ≤ get_or lines b 0
collected-up {lines = lines} C a b l lb = pick (dec_lt a b)
  where
    pick : Dec (a < b) → get_or lines a 0 ≤ get_or lines b 0
    pick (yes p) = let s = C.rising.up a b p lb in omega arith
    pick (no p) = let e : a ≡ b = omega arith in rw e (omega arith)

-- The grid made from marks, where the targets are steady.
module _ {f : ℕ → ℕ → Bool} {T : ℕ → ℕ → Type 0} {mx : List ℕ} {w : ℕ} {cross : List ℕ} {n : ℕ} {lines : List ℕ}
    {m : ℕ} (M : Marks f (has_mark mx) w) (steady : Steady T (has_mark mx))
    (C : Collected mx w cross n) {link : List ℕ} (E : Links f cross n lines m link) where
  near-any : (r s i j c : ℕ) → i < n → j < m → Span f (get_or lines j 0) (get_or cross i 0) c →
      Within r s (flip f) (flip T) (get_or lines j 0) c →
      (k : ℕ) × (t : ℕ) × (k < n) × Linked link j i k × Within r t (flip f) (flip T) (get_or lines j 0) (get_or cross k 0)
      × (((gap (get_or cross i 0) (get_or cross k 0) + t ≤ gap (get_or cross i 0) c + s) × (get_or cross k 0 ≤ c))
      ⊎ (gap (get_or cross i 0) (get_or cross k 0) + t < gap (get_or cross i 0) c + s))
  near-any r s i j c li lj sp wc =
      let x : ℕ = get_or cross i 0 in
      let y : ℕ = get_or lines j 0 in
      let N = near f (has_mark mx) w M T steady r s x y c (eq-eqb _ _ (C.sound i li)) sp wc in
      let b = M.below N.0 y (span-end f y x N.0 N.3) in
      let q = C.whole N.0 b (eqb-true _ _ N.2) in
      let to = links-any E j lj (collected-up C) i q.0 li q.1 (rw q.2 N.3) in
      (q.0, N.1, q.1, to, rw q.2 N.4, rw q.2 N.5)

  pub faithful : Faithful f T cross n lines m link
  faithful = record {
    joined = λ j a b lj. joined-any E j lj a b;
    links = λ j a b lj. links-any E j lj (collected-up C) a b;
    near = near-any;
    sorted = collected-up C;
  }
