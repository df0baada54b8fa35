-- `booking::tracks::book_found` tries the refusals in their order, books the path, and then writes its corners.
use native.Mathlib.Omega.{arith}
use Prim.Native.Nat.{ℕ, ◌*◌}
use mathlib.Core.Path.{ap}
use mathlib.Core.List.{List, ◌++◌}
use lib.ListN.{drop}
use Rattle.std.proofs.Common.{rules, ◌≡◌, Some, None, Err}
use Rattle.ledger_laws.proofs.Sound.{of-sound}
use Rattle.foil.proofs.Limits.{held-limits}
use Rattle.tables.proofs.Taking.{stored-by, unchanged-by}
use Rattle.booking.proofs.Tracking.{may-book, no-path, few-corners, table-full, too_fine, laid_done}
use Rattle.booking.proofs.tracks.book_found.Goals as goal

pub returns-in_err-k : goal.returns-in_err-k
returns-in_err-k c =
    let none : c.args.found ≡ None = search rules in
    let told : c.from_residual.result ≡ Err 9 = search rules in
    λ o p.
    rw told (no-path _ _ _ c.args.corners.now _ _ c.requires.limit_le_max_entries _ _ c.requires.may_track o
    (p.nowhere none))

pub returns-then-corners-k : goal.returns-then-corners-k
returns-then-corners-k c =
    let some : c.args.found ≡ Some c.in_ok-k.k = search rules in
    λ o p.
    rw c.into.ensures
    (few-corners _ _ _ c.args.corners.now _ _ c.requires.limit_le_max_entries _ _ c.requires.may_track _ some o
    (p.corners _ some)
    c.if-corners-k.true)

pub overflow_add-n : goal.overflow_add-n
overflow_add-n c = omega (
  arith,
  c.leg_count.ensures,
  c.if-corners-k.false,
  (held-limits _ _ _ (of-sound _ c.requires.may_track.fine)).few,
)

pub returns-then-limit-n : goal.returns-then-limit-n
returns-then-limit-n c =
    let some : c.args.found ≡ Some c.in_ok-k.k = search rules in
    λ o p.
    rw c.into-then-limit-n.ensures
    (table-full _ _ _ c.args.corners.now _ _ c.requires.limit_le_max_entries _ _ c.requires.may_track _ some o
    (p.corners _ some)
    c.if-corners-k.false _ c.leg_count.ensures c.if-limit-n.true)

pub book_path-requires : goal.book_path-requires
book_path-requires c =
    let some : c.args.found ≡ Some c.in_ok-k.k = search rules in
    may-book _ _ _ c.args.corners.now _ _ c.requires.limit_le_max_entries _ _ c.requires.may_track _ some _
    c.leg_count.ensures c.if-limit-n.false

pub returns-in_err-board : goal.returns-in_err-board
returns-in_err-board c =
    let some : c.args.found ≡ Some c.in_ok-k.k = search rules in
    let none : c.book_path.result ≡ None = search rules in
    let told : c.from_residual-in_err-board.result ≡ Err 11 = search rules in
    λ o p.
    rw told
    (too_fine _ _ _ c.args.corners.now _ _ c.requires.limit_le_max_entries _ _ c.requires.may_track _ some o
    (p.corners _ some)
    c.if-corners-k.false _ c.leg_count.ensures c.if-limit-n.false _ _
    (unchanged-by _ c.book_path.ensures none))

pub returns : goal.returns
returns c =
    let some : c.args.found ≡ Some c.in_ok-k.k = search rules in
    let after : c.book_path.result ≡ Some c.in_ok-board.field-0 = search rules in
    λ o p.
    laid_done _ _ _ c.args.corners.now _ _ c.requires.limit_le_max_entries _ _ c.requires.may_track _ some o
    (p.corners _ some)
    c.if-corners-k.false _ c.leg_count.ensures c.if-limit-n.false _ _ _ _ _ c.bend_count.ensures
    (stored-by _ c.book_path.ensures _ after)
    (ap (λ (x : List ℕ). x ++ drop (c.in_ok-k.k * 2) c.args.corners.now) c.copy.ensures)
