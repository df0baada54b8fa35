-- A lift takes 3 bytes.
use Rattle.std.proofs.Common.{◌≡◌, ◌+◌, ◌*◌}
use Rattle.foil_test.proofs.file.lifts.Given as goal

abbrev pub invariant-loop : goal.invariant-loop
invariant-loop l = l.place ≡ l.at + 3 * l.counter
