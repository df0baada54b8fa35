-- Nothing is sown where a box has the crossing.
use mathlib.Core.Path.{sym, ◌∙◌}
use Rattle.sowing.proofs.Boxed.{not-clear, is-clear}
use Rattle.sowing.proofs.Seeds.{cell-clear, cell-blocked}
use Rattle.sowing.proofs.sow_clear.Goals as goal

pub returns-then-not-is_boxed : goal.returns-then-not-is_boxed
returns-then-not-is_boxed c =
    cell-clear _ _ (is-clear _ _ _ _ _ _ _ (sym c.if-not-is_boxed.true ∙ c.is_boxed.ensures)) c.sow.ensures

pub returns-else-not-is_boxed : goal.returns-else-not-is_boxed
returns-else-not-is_boxed c =
    cell-blocked _ _ (not-clear _ _ _ _ _ _ _ (sym c.if-not-is_boxed.false ∙ c.is_boxed.ensures))
