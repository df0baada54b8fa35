-- A target is there already, or the search finds one.
use mathlib.Core.Path.{sym, ◌∙◌}
use Rattle.search.proofs.Here.{found_here}
use Rattle.search.proofs.first_path_to.Goals as goal

pub returns-then-is_boxed : goal.returns-then-is_boxed
returns-then-is_boxed c = found_here c.requires (sym c.is_boxed.ensures ∙ c.if-is_boxed.true) c.stay.ensures
