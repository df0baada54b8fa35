-- `plain_foil::strike` is safe: no more entries or strips are put than there are places before.
use Rattle.std.proofs.Common.{◌≤◌}
use Rattle.plain_foil.proofs.strike.Given as goal

abbrev pub invariant-loop-i : goal.invariant-loop-i
invariant-loop-i l = l.left ≤ l.i
