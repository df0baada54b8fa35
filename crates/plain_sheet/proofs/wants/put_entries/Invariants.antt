-- `plain_sheet::wants::put_entries`: each record takes 11 bytes at most.
use Rattle.std.proofs.Common.{◌+◌, ◌*◌, ◌≤◌}
use Rattle.plain_sheet.proofs.wants.put_entries.Given as goal

abbrev pub invariant-loop-i : goal.invariant-loop-i
invariant-loop-i l = l.end ≤ 11 + 11 * l.i
