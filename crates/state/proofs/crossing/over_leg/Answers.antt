-- `state::crossing::over_leg` tries a patch with one entry after the other.
use Rattle.std.proofs.Common.{◌∙◌, refl, rules, tests, arith}
use Rattle.std.proofs.lemmas.Iterator.{YieldsList-from_range}
use Rattle.std.proofs.lemmas.Iterator.Search.{any_from_yields_List}
use borrow.Author.Tests.{ne_eqb}
use Rattle.foil_spec.specs.Foil.{crosses, over_leg}
use Rattle.foil_spec.specs.Lent.{entry_at}
use Rattle.state.proofs.Crossings.{leg-not-over}
use Rattle.state.proofs.Rows.{any-row}
use Rattle.state.proofs.crossing.over_leg.Goals as goal

pub returns-then-p-eq0 : goal.returns-then-p-eq0
unfolding over_leg
returns-then-p-eq0 c =
    any_from_yields_List (λ k. crosses c.args.m c.args.p (entry_at c.args.table.now k)) _ _ _ c.any.ensures.ran
    (YieldsList-from_range 0 c.args.n c.args.n refl (omega arith)) (λ x b q k. search (rules, tests))
    ∙ any-row (crosses c.args.m c.args.p) (entry_at c.args.table.now) 0 c.args.n

pub returns-else-p-eq0 : goal.returns-else-p-eq0
returns-else-p-eq0 c = ne_eqb _ 0 c.if-p-eq0.false ∙ leg-not-over _ _ _ c.if-p-eq0.false
