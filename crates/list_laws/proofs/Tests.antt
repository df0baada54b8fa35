-- Tests that are true or false.
use Prim.Native.Nat.{ℕ, ◌≤◌, ◌<◌}
use native.Mathlib.Omega.{arith}
use native.Mathlib.Decide.{dec_lt}
use mathlib.Core.Path.{◌≡◌, refl, sym, ap, ◌∙◌}
use mathlib.Core.Bool.{Bool, true, false, not, ◌&&◌, ◌||◌, true≢false, or_assoc}
use mathlib.Core.Logic.{◌⊎◌, inl, inr}
use mathlib.Core.List.{List, [], ◌∷◌, ◌++◌}
use Rattle.foil_spec.specs.Lists.{all, any, keep, cons_if}

pub clash : {A : Type 0} {b : Bool} → b ≡ true → b ≡ false → A
clash p q = absurd (true≢false (sym p ∙ q))

pub and_l : (a b : Bool) → (a && b) ≡ true → a ≡ true
and_l true b e = refl
and_l false b e = e

pub and_r : (a b : Bool) → (a && b) ≡ true → b ≡ true
and_r true b e = e
and_r false b e = clash e refl

pub and_i : {a b : Bool} → a ≡ true → b ≡ true → (a && b) ≡ true
and_i p q = rw (p, q) refl

pub or_l : (a b : Bool) → (a || b) ≡ false → a ≡ false
or_l true b e = e
or_l false b e = refl

pub or_r : (a b : Bool) → (a || b) ≡ false → b ≡ false
or_r true b e = clash refl e
or_r false b e = e

pub not_f : {a : Bool} → a ≡ false → not a ≡ true
not_f e = rw e refl

pub not_t : (a : Bool) → not a ≡ true → a ≡ false
not_t true e = sym e
not_t false e = refl

pub not-ff : (a : Bool) → not a ≡ false → a ≡ true
not-ff true e = refl
not-ff false e = sym e

pub or_cases : (a b : Bool) → (a || b) ≡ true → (a ≡ true) ⊎ (b ≡ true)
or_cases true b e = inl refl
or_cases false b e = inr e

pub or-il : {a : Bool} (b : Bool) → a ≡ true → (a || b) ≡ true
or-il b e = rw e refl

pub or-ir : (a : Bool) {b : Bool} → b ≡ true → (a || b) ≡ true
or-ir true e = refl
or-ir false e = e

pub true-or-false : (b : Bool) → (b ≡ true) ⊎ (b ≡ false)
true-or-false true = inl refl
true-or-false false = inr refl

-- a test by cases, with what is known in each
pub both : (b : Bool) {P : Type 0} → (b ≡ true → P) → (b ≡ false → P) → P
both true f g = f refl
both false f g = g refl

-- two tests that pass together are one
pub same_test : (a b : Bool) → (a ≡ true → b ≡ true) → (b ≡ true → a ≡ true) → a ≡ b
same_test true b f g = sym (f refl)
same_test false true f g = g refl
same_test false false f g = refl

pub and-no-r : (a b : Bool) → b ≡ false → (a && b) ≡ false
and-no-r true b e = e
and-no-r false b e = refl

-- takes any part out of a test that is a nest of &&, || and not
pub ruleset parts = (and_l, and_r, or_l, or_r, not_t, not-ff)

pub lt-or-le : (u v : ℕ) → (u < v) ⊎ (v ≤ u)
lt-or-le u v = go (dec_lt u v)
  where
    go : Dec (u < v) → (u < v) ⊎ (v ≤ u)
    go (yes l) = inl l
    go (no l) = inr (omega arith)

module _ {A : Type 0} (p : A → Bool) where
  pub all_append : (xs ys : List A) → all p xs ≡ true → all p ys ≡ true → all p (xs ++ ys) ≡ true
  all_append [] ys h k = k
  all_append (x ∷ xs) ys h k = and_i {a = p x} (and_l (p x) _ h) (all_append xs ys (and_r (p x) _ h) k)

  pub any_append : (xs ys : List A) → any p (xs ++ ys) ≡ (any p xs || any p ys)
  any_append [] ys = refl
  any_append (x ∷ xs) ys =
      ap (λ (t : Bool). p x || t) (any_append xs ys) ∙ sym (or_assoc (p x) (any p xs) (any p ys))

  all-cons_if : (b : Bool) (x : A) (xs : List A) → p x ≡ true → all p xs ≡ true → all p (cons_if b x xs) ≡ true
  all-cons_if true x xs h k = and_i {a = p x} h k
  all-cons_if false x xs h k = k

  pub all_keep : (q : A → Bool) (xs : List A) → all p xs ≡ true → all p (keep q xs) ≡ true
  all_keep q [] h = h
  all_keep q (x ∷ xs) h = all-cons_if (q x) x (keep q xs) (and_l (p x) _ h) (all_keep q xs (and_r (p x) _ h))
