-- `cases_test::play` is safe and ends: no line begins behind the byte read.
use Rattle.std.proofs.Common.{◌≤◌}
use Rattle.cases_test.proofs.play.Given as goal

abbrev pub invariant-loop-at : goal.invariant-loop-at
invariant-loop-at l = (l.from ≤ l.at) × (l.at ≤ l.at-end)
