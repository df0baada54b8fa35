-- `plain_sheet::rows::write_table`: the entries end in the table.
use Rattle.std.proofs.Common.{◌≤◌}
use Rattle.plain_sheet.proofs.rows.write_table.Given as goal

abbrev pub invariant-loop-k : goal.invariant-loop-k
invariant-loop-k l = l.at ≤ 2560
