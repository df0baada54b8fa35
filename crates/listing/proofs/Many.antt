-- Too many nets for a list, or for the places of its answers.
use Prim.Native.Nat.{ℕ, ◌*◌, ◌/◌, ◌≤◌}
use native.Mathlib.Omega.{arith}
use mathlib.Core.Path.{◌≡◌}
use mathlib.Core.Bool.{false}
use mathlib.Core.List.{List}
use lib.ListN.{length}
use borrow.Author.Tests.{ltb-false}
use Rattle.foil_spec.specs.Wishes.{too_many}
use Rattle.list_laws.proofs.Tests.{parts}

-- a list that is not too many has places for its answers
pub places : (ws ans : List ℕ) → too_many ws (length ans / 3) ≡ false → length ws / 5 * 3 ≤ length ans
unfolding too_many
places ws ans e = let few = ltb-false (length ans / 3) (length ws / 5) (search parts) in omega arith
