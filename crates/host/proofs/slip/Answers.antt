-- What was read from the numbers that were loaded was read from the table.
use Rattle.host.proofs.Tables.{whole-read}
use Rattle.host.proofs.slip.Goals as goal

pub returns : goal.returns
returns c =
    whole-read _ _ _ c.eight.ensures _ _ _ c.load-numbers.ensures c.numbers_lent-n.ensures _ _ _ _ c.slip.ensures
