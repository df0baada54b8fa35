-- `replay_test::replay`: a record begins at 60,000 at most.
use Rattle.std.proofs.Common.{◌≤◌}
use Rattle.replay_test.proofs.replay.Given as goal

abbrev pub invariant-loop : goal.invariant-loop
invariant-loop l = l.at ≤ 60000
