-- `state::crossing::no_crossing` tries one entry after the other with the legs.
use Rattle.std.proofs.Common.{◌∙◌, refl, rules, tests, arith, not}
use Rattle.std.proofs.lemmas.Iterator.{YieldsList-from_range}
use Rattle.std.proofs.lemmas.Iterator.Search.{all_from_yields_List}
use Rattle.foil_spec.specs.Lent.{entry_at}
use Rattle.tables.proofs.Filling.{no_rows}
use Rattle.state.proofs.Crossings.{over, clear}
use Rattle.state.proofs.Rows.{all-row}
use Rattle.state.proofs.crossing.no_crossing.Goals as goal

pub without-count-requires : goal.without-count-requires
without-count-requires c = (omega arith, omega arith, no_rows)

pub returns : goal.returns
returns c =
    all_from_yields_List
    (λ k. not (over c.args.m c.args.table.now c.args.n c.without-count.new.rows c.without-count.result
    (entry_at c.args.table.now k)))
    _ _ _ c.all.ensures.ran (YieldsList-from_range 0 c.args.n c.args.n refl (omega arith))
    (λ x b q k. search (rules, tests))
    ∙ all-row _ (entry_at c.args.table.now) 0 c.args.n ∙ clear _ _ _ _ _ c.without-count.ensures
