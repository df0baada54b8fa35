-- The entries of a row tested one after the other, by their places.
use Rattle.std.proofs.Common.{◌≡◌, ℕ, zero, suc, map, Bool, ap, add-one, ◌&&◌, ◌||◌, refl}
use Rattle.std.specs.List.{range_with_len, list_all, list_any}
use Rattle.foil_spec.specs.Lists.{range, all, any}

module _ {A : Type 0} (p : A → Bool) (f : ℕ → A) where
  pub all-row : (a n : ℕ) → list_all (λ i. p (f i)) (range_with_len a n) ≡ all p (map f (range a n))
  all-row a zero = refl
  all-row a (suc n) = rw add-one (ap (λ (b : Bool). p (f a) && b) (all-row (suc a) n))

  pub any-row : (a n : ℕ) → list_any (λ i. p (f i)) (range_with_len a n) ≡ any p (map f (range a n))
  any-row a zero = refl
  any-row a (suc n) = rw add-one (ap (λ (b : Bool). p (f a) || b) (any-row (suc a) n))
