-- `replay_test::jobs::records`: a record takes 31 bytes at most.
use Rattle.std.proofs.Common.{◌+◌, ◌*◌, ◌≤◌}
use Rattle.replay_test.proofs.jobs.records.Given as goal

abbrev pub invariant-loop : goal.invariant-loop
invariant-loop l = l.cursor.at ≤ 41 + 31 * l.counter
