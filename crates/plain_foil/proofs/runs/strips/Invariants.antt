-- `plain_foil::runs::strips` is safe: no more entries or strips are put than there are places before.
use Rattle.std.proofs.Common.{◌≤◌}
use Rattle.plain_foil.proofs.runs.strips.Given as goal

abbrev pub invariant-loop-p : goal.invariant-loop-p
invariant-loop-p l = l.count ≤ l.p
