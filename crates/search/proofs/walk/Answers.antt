-- The first corner, and then those of the walk.
use native.Mathlib.Omega.{arith}
use Rattle.search.proofs.Written.{corners-low, walk-written}
use Rattle.search.proofs.walk.Goals as goal

pub overflow_cast-first : goal.overflow_cast-first
overflow_cast-first c = let low = corners-low c.requires.ready in omega arith

pub returns : goal.returns
returns c = record {
  writes = λ cs ready.
      walk-written ready _ _ _ c.requires.room c.put_corner.ensures c.walk_on.ensures;
}
