-- `sheet_rows::counts_of` takes the number of each record.
use Rattle.std.proofs.Common.{rules, tests}
use Rattle.sheet_rows.proofs.Records.{eight, counted}
use Rattle.foil_spec.specs.Sheet.{no_board}
use Rattle.sheet_rows.proofs.counts_of.Goals as goal

pub returns : goal.returns
returns c =
    counted _ _ (eight c.args.sheet c.well_formed.0) c.map.ensures.items.long
    (λ i l. let (p, q, h) = c.map.ensures.items.at i no_board 0 l in search (rules, tests))
