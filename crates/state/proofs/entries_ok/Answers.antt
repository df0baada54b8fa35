-- `state::entries_ok` tests one entry after the other.
use Rattle.std.proofs.Common.{◌∙◌, refl, rules, tests, arith}
use Rattle.std.proofs.lemmas.Iterator.{YieldsList-from_range}
use Rattle.std.proofs.lemmas.Iterator.Search.{all_from_yields_List}
use Rattle.foil_spec.specs.Foil.{entry_ok}
use Rattle.foil_spec.specs.Lent.{entry_at}
use Rattle.state.proofs.Rows.{all-row}
use Rattle.state.proofs.entries_ok.Goals as goal

pub returns : goal.returns
returns c =
    all_from_yields_List (λ k. entry_ok c.args.w c.args.h (entry_at c.args.table.now k)) _ _ _ c.all.ensures.ran
    (YieldsList-from_range 0 c.args.n c.args.n refl (omega arith)) (λ x b q k. search (rules, tests))
    ∙ all-row (entry_ok c.args.w c.args.h) (entry_at c.args.table.now) 0 c.args.n
