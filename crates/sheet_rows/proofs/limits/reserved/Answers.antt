-- `sheet_rows::limits::reserved` adds what is kept for each foil.
use Rattle.std.proofs.Common.{◌≡◌, ◌<◌, ◌^◌, ◌∙◌, rules, tests, arith, sum, map, max}
use Rattle.std.proofs.lemmas.Iterator.{YieldsList-from_slice, YieldsList-from_map}
use Rattle.std.proofs.lemmas.Iterator.Consumers.{fits_from_yields_list}
use Rattle.foil_spec.specs.Sheet.{reserved}
use Rattle.sheet_rows.proofs.Counting.{sum-total, reserved-most}
use Rattle.sheet_rows.proofs.limits.reserved.Goals as goal

pub sum-requires-clause-fits : goal.sum-requires-clause-fits
unfolding reserved
sum-requires-clause-fits c =
    let h : sum (map (max 32) c.args.counts) < 2 ^ 64 =
    omega (arith, sum-total (map (max 32) c.args.counts), reserved-most c.args.counts c.requires) in
    fits_from_yields_list _ (2 ^ 64)
    (YieldsList-from_map _ (max 32) (YieldsList-from_slice c.args.counts (cc)) c.map.ensures.closure
    (λ x r q k. search (rules, tests)))
    h

pub returns : goal.returns
unfolding reserved
returns c =
    let e : c.sum.result ≡ sum (map (max 32) c.args.counts) = search rules in
    e ∙ sum-total (map (max 32) c.args.counts)
