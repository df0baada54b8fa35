-- `sheet_rows::limits::each_few` tests one number after the other.
use Rattle.std.proofs.Common.{◌∙◌, rules, tests}
use Rattle.std.proofs.lemmas.Iterator.{YieldsList-from_slice}
use Rattle.std.proofs.lemmas.Iterator.Search.{all_from_yields_List}
use lib.Dec.{leb}
use Rattle.foil_spec.specs.Limits.{max_entries}
use Rattle.foil_spec.specs.Sheet.{each_few}
use Rattle.sheet_rows.proofs.Counting.{all-tests}
use Rattle.sheet_rows.proofs.limits.each_few.Goals as goal

pub returns : goal.returns
unfolding each_few
returns c =
    all_from_yields_List (λ n. leb n max_entries) _ _ _ c.all.ensures.ran (YieldsList-from_slice c.args.counts (cc))
    (λ x b q k. search (rules, tests))
    ∙ all-tests (λ n. leb n max_entries) c.args.counts
