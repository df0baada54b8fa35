-- Members of lists, and lists in order.
use Rattle.std.specs.Prelude.{◌≡◌, Bool, true, List, [], ◌∷◌, ◌⊎◌}

module _ {A : Type 0} where
  -- x is in the list
  abbrev pub In : A → List A → Type 0
  In x [] = ⊥
  In x (y ∷ ys) = (x ≡ y) ⊎ In x ys

  -- a list in order: each element comes before all that follow
  abbrev pub Sorted : (A → A → Bool) → List A → Type 0
  Sorted r [] = Unit {0}
  Sorted r (x ∷ xs) = ((y : A) → In y xs → r x y ≡ true) × Sorted r xs
