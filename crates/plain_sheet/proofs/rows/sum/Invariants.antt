-- `plain_sheet::rows::sum`: each foil adds at most 128.
use Rattle.std.proofs.Common.{◌*◌, ◌≤◌}
use Rattle.plain_sheet.proofs.rows.sum.Given as goal

abbrev pub invariant-loop-k : goal.invariant-loop-k
invariant-loop-k l = l.sum ≤ 128 * l.k
