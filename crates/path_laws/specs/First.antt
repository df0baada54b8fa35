-- The first path of fewest bends, in the words of documents 01 and 02.
use Rattle.std.specs.Prelude.{ℕ, ◌≤◌, ◌≡◌, Bool, true, List, ◌⊎◌}
use Rattle.foil_spec.specs.Foil.{Point}
use Rattle.foil_spec.specs.Paths.{is_path_to, bends, path_length, corners_before}

-- cs is a path from S to the target T; no path has fewer bends; of those with as many none is shorter; and of those
-- as short it comes first by its corners
pub record IsFirst (f : ℕ → ℕ → Bool) (S : Point) (T : Point → Bool) (cs : List Point) : Type 0 where
  pub path : is_path_to f S T cs ≡ true
  pub fewest : (ds : List Point) → is_path_to f S T ds ≡ true → bends cs ≤ bends ds
  pub shortest : (ds : List Point) → is_path_to f S T ds ≡ true → bends ds ≡ bends cs → path_length cs ≤ path_length ds
  pub first : (ds : List Point) → is_path_to f S T ds ≡ true → bends ds ≡ bends cs → path_length ds ≡ path_length cs
      → (cs ≡ ds) ⊎ (corners_before cs ds ≡ true)
