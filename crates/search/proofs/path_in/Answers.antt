-- The labels, and what is written of them.
use mathlib.Core.Path.{refl}
use Rattle.search.proofs.Finding.{some-corners}
use Rattle.search.proofs.path_in.Goals as goal

pub write_path-requires : goal.write_path-requires
write_path-requires c = record { path = _; begins = c.in_ok-start.ensures.begins _ refl }

pub returns : goal.returns
returns c = some-corners (c.write_path.ensures.finds _ (c.in_ok-start.ensures.begins _ refl))
