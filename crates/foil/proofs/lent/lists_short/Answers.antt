-- `foil::lent::lists_short` tests the two lengths by their numbers.
use borrow.Author.Tests.{lt-ltb}
use Rattle.foil.proofs.Giving.{short-table, by-strips}
use Rattle.foil.proofs.lent.lists_short.Goals as goal

pub returns-then-table-lt-TABLE_SIZE : goal.returns-then-table-lt-TABLE_SIZE
returns-then-table-lt-TABLE_SIZE c =
    rw (lt-ltb _ _ c.if-table-lt-TABLE_SIZE.true) (short-table _ _ c.if-table-lt-TABLE_SIZE.true)

pub returns-else-table-lt-TABLE_SIZE : goal.returns-else-table-lt-TABLE_SIZE
returns-else-table-lt-TABLE_SIZE c = by-strips _ _ c.if-table-lt-TABLE_SIZE.false
