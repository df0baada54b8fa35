-- The labels of the line, each of which is 1 at most.
use Rattle.std.proofs.Common.{arith, rules}
use Rattle.labels.proofs.Marks.{sum-few, summed}
use Rattle.labels.proofs.sum_of.Goals as goal

pub sum-requires-clause-fits : goal.sum-requires-clause-fits
sum-requires-clause-fits c =
    let few = sum-few _ _ _ (omega (arith, c.requires.1, c.requires.2)) c.requires.3 in
    let n = c.requires.1 in
    search rules

pub returns : goal.returns
returns c = summed _ _ _ (omega (arith, c.requires.1, c.requires.2)) c.requires.3 (search rules)
