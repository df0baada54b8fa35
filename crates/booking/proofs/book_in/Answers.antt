-- `booking::book_in` tries the net, then the list, then the room, and books.
use Rattle.std.proofs.Common.{rules, ap, not, ◌≡◌, Some, None, Err}
use native.Mathlib.Omega.{arith}
use Rattle.ledger_laws.proofs.Sound.{of-sound}
use Rattle.foil.proofs.Limits.{held-limits, held-table}
use Rattle.tables.proofs.Taking.{stored-by, unchanged-by}
use Rattle.booking.proofs.Checking.{no-net, used, no_way, table-full, may-book, too_fine, booked-done}
use Rattle.booking.proofs.book_in.Goals as goal

pub returns-then-not-net_ok : goal.returns-then-not-net_ok
returns-then-not-net_ok c =
    rw c.into.ensures
    (no-net _ _ _ _ _ _ c.requires.limit_le_max_entries c.requires.strips_value _ c.net_ok.ensures
    (ap not c.if-not-net_ok.true))

pub in_use-requires : goal.in_use-requires
in_use-requires c = (held-table _ _ _ c.requires.strips_value).len

pub returns-then-in_use : goal.returns-then-in_use
returns-then-in_use c =
    rw c.into-then-in_use.ensures
    (used _ _ _ _ _ _ c.requires.limit_le_max_entries c.requires.strips_value _ c.net_ok.ensures
    (ap not c.if-not-net_ok.false) _ c.in_use.ensures c.if-in_use.true)

pub draws_way-requires : goal.draws_way-requires
draws_way-requires c = held-table _ _ _ c.requires.strips_value

pub returns-then-not-draws_way : goal.returns-then-not-draws_way
returns-then-not-draws_way c =
    rw c.into-then-not-draws_way.ensures
    (no_way _ _ _ _ _ _ c.requires.limit_le_max_entries c.requires.strips_value _ c.net_ok.ensures
    (ap not c.if-not-net_ok.false) _ c.in_use.ensures c.if-in_use.false _ c.draws_way.ensures
    (ap not c.if-not-draws_way.true))

pub overflow_add-board : goal.overflow_add-board
overflow_add-board c = omega (
  arith,
  c.leg_count.ensures,
  (held-limits _ _ _ (of-sound _ c.requires.strips_value)).few,
)

pub returns-then-limit-board : goal.returns-then-limit-board
returns-then-limit-board c =
    rw c.into-then-limit-board.ensures
    (table-full _ _ _ _ _ _ c.requires.limit_le_max_entries c.requires.strips_value _ c.net_ok.ensures
    (ap not c.if-not-net_ok.false) _ c.in_use.ensures c.if-in_use.false _ c.draws_way.ensures
    (ap not c.if-not-draws_way.false) _ c.leg_count.ensures c.if-limit-board.true)

pub book_path-requires : goal.book_path-requires
book_path-requires c =
    may-book _ _ _ _ _ _ c.requires.limit_le_max_entries c.requires.strips_value _ c.net_ok.ensures
    (ap not c.if-not-net_ok.false) _ c.in_use.ensures c.if-in_use.false _ c.draws_way.ensures
    (ap not c.if-not-draws_way.false) _ c.leg_count.ensures c.if-limit-board.false

pub returns-in_err-board : goal.returns-in_err-board
returns-in_err-board c =
    let none : c.book_path.result ≡ None = search rules in
    let told : c.from_residual.result ≡ Err 11 = search rules in
    rw told
    (too_fine _ _ _ _ _ _ c.requires.limit_le_max_entries c.requires.strips_value _ c.net_ok.ensures
    (ap not c.if-not-net_ok.false) _ c.in_use.ensures c.if-in_use.false _ c.draws_way.ensures
    (ap not c.if-not-draws_way.false) _ c.leg_count.ensures c.if-limit-board.false _ _
    (unchanged-by _ c.book_path.ensures none))

pub returns : goal.returns
returns c =
    let some : c.book_path.result ≡ Some c.in_ok-board.field-0 = search rules in
    booked-done _ _ _ _ _ _ c.requires.limit_le_max_entries c.requires.strips_value _ c.net_ok.ensures
    (ap not c.if-not-net_ok.false) _ c.in_use.ensures c.if-in_use.false _ c.draws_way.ensures
    (ap not c.if-not-draws_way.false) _ c.leg_count.ensures c.if-limit-board.false _ _ _ _ c.bend_count.ensures
    (stored-by _ c.book_path.ensures _ some)
