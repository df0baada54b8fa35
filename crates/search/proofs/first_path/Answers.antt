-- The point is a target box.
use native.Mathlib.Omega.{arith}
use Rattle.zones.proofs.Free.{not_covered}
use Rattle.search.proofs.OneTarget.{one-aimed, one_found}
use Rattle.search.proofs.first_path.Goals as goal

pub overflow_add-point : goal.overflow_add-point
overflow_add-point c = omega (arith, not_covered _ _ _ _ _ _ c.requires.t-free, c.requires.boxes.width, c.requires.boxes.height)

pub overflow_add-point-2 : goal.overflow_add-point-2
overflow_add-point-2 c = omega (arith, not_covered _ _ _ _ _ _ c.requires.t-free, c.requires.boxes.width, c.requires.boxes.height)

pub first_path_to-requires : goal.first_path_to-requires
first_path_to-requires c = one-aimed c.requires

pub returns : goal.returns
returns c = one_found c.requires c.first_path_to.ensures
