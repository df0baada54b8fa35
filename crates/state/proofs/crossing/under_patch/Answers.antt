-- `state::crossing::under_patch` tries one entry after the other.
use Rattle.std.proofs.Common.{◌∙◌, refl, rules, tests, arith}
use Rattle.std.proofs.lemmas.Iterator.{YieldsList-from_range}
use Rattle.std.proofs.lemmas.Iterator.Search.{any_from_yields_List}
use Rattle.foil_spec.specs.Foil.{Entry, crosses, under_patch}
use Rattle.foil_spec.specs.Lent.{entry_at}
use Rattle.state.proofs.Rows.{any-row}
use Rattle.state.proofs.crossing.under_patch.Goals as goal

pub returns : goal.returns
unfolding under_patch
returns c =
    any_from_yields_List (λ k. crosses c.args.m (entry_at c.args.table.now k) c.args.e) _ _ _ c.any.ensures.ran
    (YieldsList-from_range 0 c.args.n c.args.n refl (omega arith)) (λ x b q k. search (rules, tests))
    ∙ any-row (λ (p : Entry). crosses c.args.m p c.args.e) (entry_at c.args.table.now) 0 c.args.n
