-- Side after side.
use mathlib.Core.Path.{sym, ◌∙◌}
use Rattle.sowing.proofs.Boxed.{in-box, off-box}
use Rattle.sowing.proofs.box_has.Goals as goal

pub returns-then-within : goal.returns-then-within
returns-then-within c = c.within-then-within.ensures ∙ in-box _ _ c.args.x c.args.y c.extent_of.ensures
    c.extent_of-then-within.ensures (sym c.within.ensures ∙ c.if-within.true)

pub returns-else-within : goal.returns-else-within
returns-else-within c =
    c.if-within.false ∙ off-box _ _ c.args.x c.args.y c.extent_of.ensures (sym c.within.ensures ∙ c.if-within.false)
