-- `saving::beginning_too_fine` meets its contract: the beginnings of fewer than k entries were fine.
use native.Mathlib.Omega.{arith}
use Rattle.saving.proofs.Beginnings.{table-front, fine-none, fine_more, fine-all, fine-not}
use Rattle.saving.proofs.beginning_too_fine.Goals as goal

pub loop-k-init : goal.loop-k-init
loop-k-init c = fine-none _ _ _ _ _

pub too_fine-requires : goal.too_fine-requires
too_fine-requires c = table-front _ (omega arith) c.requires

pub returns-then-too_fine : goal.returns-then-too_fine
returns-then-too_fine c = fine-not _ _ _ _ _ _ _ (omega arith) c.too_fine.ensures c.if-too_fine.true

pub loop-k-preserved : goal.loop-k-preserved
loop-k-preserved c = fine_more _ _ _ _ _ _ _ (omega arith) c.too_fine.ensures c.if-too_fine.false c.loop-k.invariant

pub returns-else-too_fine : goal.returns-else-too_fine
returns-else-too_fine c =
    fine-all _ _ _ _ _ _ (omega arith)
    (fine_more _ _ _ _ _ _ _ (omega arith) c.too_fine.ensures c.if-too_fine.false c.loop-k.invariant)
