-- `sheet_rows::limits::start_of` adds the numbers of the foils before foil k.
use Rattle.std.proofs.Common.{◌≡◌, ◌<◌, ◌^◌, ◌∙◌, rules, arith, take, sum}
use Rattle.sheet_laws.specs.Places.{start_of}
use Rattle.sheet_rows.proofs.Counting.{sum-total, start_small}
use Rattle.sheet_rows.proofs.limits.start_of.Goals as goal

pub sum-requires-clause-fits : goal.sum-requires-clause-fits
unfolding start_of
sum-requires-clause-fits c =
    let h : sum (take c.args.k c.args.counts) < 2 ^ 64 =
    omega (arith, sum-total (take c.args.k c.args.counts), start_small c.args.counts c.args.k c.requires.1) in
    search rules

pub overflow_mul-result : goal.overflow_mul-result
unfolding start_of
overflow_mul-result c =
    let e : c.sum.result ≡ sum (take c.args.k c.args.counts) = search rules in
    omega (arith, e ∙ sum-total (take c.args.k c.args.counts), start_small c.args.counts c.args.k c.requires.1)

pub returns : goal.returns
unfolding start_of
returns c =
    let e : c.sum.result ≡ sum (take c.args.k c.args.counts) = search rules in
    omega (arith, e ∙ sum-total (take c.args.k c.args.counts))
