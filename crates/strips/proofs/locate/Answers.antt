-- `strips::locate` meets its contract: none of the strips before place k holds the point, and once one begins past it
-- none of the rest does.
use mathlib.Core.Path.{sym, ap, ◌∙◌}
use borrow.Author.Count.{below_more}
use native.Mathlib.Omega.{arith}
use Rattle.foil_spec.specs.Strips.{Strip, holds}
use Rattle.strips.proofs.Placing.{place_at, place_none, place-past}
use Rattle.strips.proofs.locate.Goals as goal

pub loop-k-preserved : goal.loop-k-preserved
loop-k-preserved c = (
  omega arith,
  below_more _ _ c.loop-k.invariant.1 (sym (c.holds.ensures ∙ ap (holds _) c.strip_at-strip.ensures) ∙ c.if-holds.false),
)

pub returns-then-k-count : goal.returns-then-k-count
returns-then-k-count c = sym (place_none _ _ _ (rw c.if-k-count.true at c.loop-k.invariant.1))

pub returns-then-point-strip : goal.returns-then-point-strip
returns-then-point-strip c = sym (place-past _ _ _ _ c.loop-k.invariant.1
    (omega (arith, c.if-point-strip.true, ap (λ (s : Strip). s.y0) c.strip_at-strip.ensures))
    c.requires.by_row)

pub returns-then-holds : goal.returns-then-holds
returns-then-holds c = sym (place_at _ _ _ _ (omega arith) c.loop-k.invariant.1
    (sym (c.holds.ensures ∙ ap (holds _) c.strip_at-strip.ensures) ∙ c.if-holds.true))
