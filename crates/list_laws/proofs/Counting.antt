-- How many elements of a list pass a test or one of several, and how many numbers some elements have.
use Prim.Native.Nat.{ℕ, zero, suc, ◌+◌, ◌≤◌, ◌<◌}
use native.Mathlib.Omega.{arith}
use native.Mathlib.Decide.{ℕ_discrete}
use mathlib.Core.Path.{◌≡◌, refl, sym, ap, ◌∙◌}
use mathlib.Core.Bool.{Bool, true, false, ◌||◌}
use mathlib.Core.List.{List, [], ◌∷◌}
use mathlib.Core.Logic.{inl, inr, by_cases}
use lib.Dec.{eqb}
use lib.ListN.{length}
use borrow.Author.Tests.{eq-eqb, ne_eqb}
use Rattle.foil_spec.specs.Lists.{range, keep, cons_if, any}
use Rattle.list_laws.proofs.Tests.{clash}
use Rattle.list_laws.proofs.Members.{In, of_range}

-- 1 where the test passed, else 0
one : Bool → ℕ
one true = 1
one false = 0

one-le : (a b : Bool) → (a ≡ true → b ≡ true) → one a ≤ one b
unfolding one
one-le true true h = omega arith
one-le true false h = clash (h refl) refl
one-le false true h = omega arith
one-le false false h = omega arith

one-lt : (a b : Bool) → a ≡ false → b ≡ true → one a < one b
unfolding one
one-lt a b ea eb = rw (ea, eb) (omega arith)

one-most : (a : Bool) → one a ≤ 1
unfolding one
one-most true = omega arith
one-most false = omega arith

module _ {A : Type 0} where
  -- how many elements pass the test
  pub count : (A → Bool) → List A → ℕ
  count p [] = 0
  count p (x ∷ xs) = one (p x) + count p xs

  -- a test that passes no less often counts no fewer
  count-le : (p q : A → Bool) (xs : List A) → ((x : A) → p x ≡ true → q x ≡ true) → count p xs ≤ count q xs
  unfolding count
  count-le p q [] h = omega arith
  count-le p q (x ∷ xs) h = omega (arith, one-le (p x) (q x) (h x), count-le p q xs h)

  -- and more, where it passes at an element at which the other fails
  pub count-lt : (p q : A → Bool) (x : A) (xs : List A) → ((x : A) → p x ≡ true → q x ≡ true)
      → In x xs → p x ≡ false → q x ≡ true → count p xs < count q xs
  unfolding count
  count-lt p q x [] h i ep eq = absurd i
  count-lt p q x (y ∷ ys) h (inl e) ep eq =
      omega (arith, one-lt (p y) (q y) (sym (ap p e) ∙ ep) (sym (ap q e) ∙ eq), count-le p q ys h)
  count-lt p q x (y ∷ ys) h (inr i) ep eq =
      omega (arith, one-le (p y) (q y) (h y), count-lt p q x ys h i ep eq)

  -- no more pass than there are
  pub count-length : (p : A → Bool) (xs : List A) → count p xs ≤ length xs
  unfolding count
  count-length p [] = omega arith
  count-length p (x ∷ xs) = omega (arith, one-most (p x), count-length p xs)

-- ---- what is kept by a test

module _ {A : Type 0} where
  keep-none : (p : A → Bool) (xs : List A) → ((x : A) → In x xs → p x ≡ false) → keep p xs ≡ []
  keep-none p [] h = refl
  keep-none p (x ∷ xs) h = rw (h x (inl refl)) (keep-none p xs (λ y k. h y (inr k)))

  keep_all : (p : A → Bool) (xs : List A) → ((x : A) → In x xs → p x ≡ true) → keep p xs ≡ xs
  keep_all p [] h = refl
  keep_all p (x ∷ xs) h = rw (h x (inl refl)) (ap (λ (ys : List A). x ∷ ys) (keep_all p xs (λ y k. h y (inr k))))

  keep-both : (a b : Bool) (x : A) (us vs ws : List A) → length us ≤ length vs + length ws
      → length (cons_if (a || b) x us) ≤ length (cons_if a x vs) + length (cons_if b x ws)
  keep-both true true x us vs ws l = omega arith
  keep-both true false x us vs ws l = omega arith
  keep-both false true x us vs ws l = omega arith
  keep-both false false x us vs ws l = l

  -- by either of two tests no more is kept than by both, one after the other
  keep-either : (p q : A → Bool) (xs : List A)
      → length (keep (λ (x : A). p x || q x) xs) ≤ length (keep p xs) + length (keep q xs)
  keep-either p q [] = omega arith
  keep-either p q (x ∷ xs) = keep-both (p x) (q x) x _ (keep p xs) (keep q xs) (keep-either p q xs)

-- tests each of which keeps one element at most
module _ {A B : Type 0} (t : B → A → Bool) (xs : List A) (once : (b : B) → length (keep (t b) xs) ≤ 1) where
  -- keep no more elements than they are many
  few-kept : (bs : List B) → length (keep (λ (x : A). any (λ (b : B). t b x) bs) xs) ≤ length bs
  few-kept [] = rw (keep-none (λ (x : A). false) xs (λ x h. refl)) (omega arith)
  few-kept (b ∷ bs) =
      omega (arith, keep-either (t b) (λ (x : A). any (λ (c : B). t c x) bs) xs, once b, few-kept bs)

  -- so where each element passes one of them, there are no more elements than tests
  pub few-elements : (bs : List B) → ((x : A) → In x xs → any (λ (b : B). t b x) bs ≡ true) → length xs ≤ length bs
  few-elements bs h = rw (keep_all (λ (x : A). any (λ (b : B). t b x) bs) xs h) at (few-kept bs)

-- a number stands at most once among those from a on
once : (k a n : ℕ) → length (keep (eqb k) (range a n)) ≤ 1
once k a zero = omega arith
once k a (suc n) =
    by_cases (ℕ_discrete k a)
    (λ e.
    let later = keep-none (eqb k) (range (suc a) n)
    (λ i h. ne_eqb k i (λ z. let r = of_range i (suc a) n h in omega arith)) in
    rw (eq-eqb k a e, later) (omega arith))
    (λ d. rw (ne_eqb k a d) (once k (suc a) n))

-- elements have no more numbers than they are many
pub few-numbers : {A : Type 0} (f : A → ℕ) (xs : List A) (a n : ℕ)
    → length (keep (λ (i : ℕ). any (λ (x : A). eqb (f x) i) xs) (range a n)) ≤ length xs
few-numbers {A} f xs a n = few-kept (λ (x : A). eqb (f x)) (range a n) (λ x. once (f x) a n) xs
