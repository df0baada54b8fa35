-- What was read from the numbers that were loaded was read from the table.
use Rattle.host.proofs.Tables.{whole-ohms}
use Rattle.host.proofs.ohms.Goals as goal

pub returns : goal.returns
returns c =
    whole-ohms _ _ _ c.eight.ensures _ _ _ c.load-numbers.ensures c.numbers_lent-n.ensures _ _ _ c.ohms.ensures
