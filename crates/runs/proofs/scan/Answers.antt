-- All crossings from lo up to k are joined, and none of them is such a stop.
use native.Mathlib.Omega.{arith}
use mathlib.Core.Path.{sym, ◌∙◌}
use borrow.Author.Count.{below_more}
use Rattle.runs.proofs.Line.{linked-refl, linked_up, blocked}
use Rattle.runs.proofs.scan.Goals as goal

pub loop-k-init : goal.loop-k-init
loop-k-init c = (linked-refl _ _ _, λ j q p. absurd (omega arith))

pub returns-then-link-line-ne1 : goal.returns-then-link-line-ne1
returns-then-link-line-ne1 c = blocked _ _ _ _ _ _ _ _ _ _ c.loop-k.k (omega arith) c.loop-k.invariant.1
    (sym c.is_stop.ensures ∙ c.if-is_stop.false) c.if-link-line-ne1.true

pub loop-k-preserved : goal.loop-k-preserved
loop-k-preserved c = (
  linked_up _ _ _ _ (omega arith) c.loop-k.invariant.0 c.if-link-line-ne1.false,
  below_more _ _ c.loop-k.invariant.1 (λ p. sym c.is_stop.ensures ∙ c.if-is_stop.false),
)
