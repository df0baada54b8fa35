-- One of the boxes has it.
use native.Mathlib.Omega.{arith}
use mathlib.Core.Path.{refl, ◌∙◌}
use Rattle.std.proofs.Common.{rules, tests}
use Rattle.std.proofs.lemmas.Iterator.{YieldsList-from_range}
use Rattle.std.proofs.lemmas.Iterator.Search.{any_from_yields_List}
use Rattle.foil_spec.specs.Lent.{entry_at}
use Rattle.zones.specs.Boxes.{covers}
use Rattle.grid.specs.Extent.{turned}
use Rattle.sowing.specs.Seeds.{boxed}
use Rattle.sowing.proofs.Boxed.{any-row}
use Rattle.sowing.proofs.is_boxed.Goals as goal

pub returns : goal.returns
unfolding boxed
returns c =
    any_from_yields_List (λ k. turned c.args.upright (covers (entry_at c.args.boxes.now k)) c.args.x c.args.y) _ _ _ c.any.ensures.ran
    (YieldsList-from_range 0 c.args.n c.args.n refl (omega arith)) (λ x b q k. search (rules, tests))
    ∙ any-row (λ e. turned c.args.upright (covers e) c.args.x c.args.y) (entry_at c.args.boxes.now) 0 c.args.n
