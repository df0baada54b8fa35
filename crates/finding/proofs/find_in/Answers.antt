-- `finding::find_in` tests the ends, then searches into the lent list.
use native.Mathlib.Omega.{arith}
use Rattle.std.proofs.Common.{rules, ◌≡◌, Some, None, Err}
use Rattle.finding.proofs.Finding.{posed, ends-refused, no-path, few-places, found-done}
use Rattle.finding.proofs.find_in.Goals as goal

pub returns-in_err-points_refusal : goal.returns-in_err-points_refusal
returns-in_err-points_refusal c =
    let told : c.from_residual.result ≡ Err c.in_err-points_refusal.field-0.0 = search rules in
    rw told (ends-refused _ _ _ _ _ _ c.requires _ c.in_err-points_refusal.ensures)

pub path_between-requires : goal.path_between-requires
path_between-requires c = posed _ _ _ _ _ c.requires _ c.in_ok-points_refusal.ensures

pub returns-in_err-k : goal.returns-in_err-k
returns-in_err-k c =
    let none : c.path_between.result ≡ None = search rules in
    let told : c.from_residual-in_err-k.result ≡ Err 9 = search rules in
    rw told
    (no-path _ _ _ _ _ _ c.requires _ c.in_ok-points_refusal.ensures _ _ c.path_between.ensures none)

pub returns-then-corners-k : goal.returns-then-corners-k
returns-then-corners-k c =
    let some : c.path_between.result ≡ Some c.in_ok-k.k = search rules in
    rw c.into.ensures
    (few-places _ _ _ _ _ _ c.requires _ c.in_ok-points_refusal.ensures _ _ c.path_between.ensures _ some
    (omega (arith, c.if-corners-k.true, c.path_between.auto.out)))

pub returns : goal.returns
returns c =
    let some : c.path_between.result ≡ Some c.in_ok-k.k = search rules in
    found-done _ _ _ _ _ _ c.requires _ c.in_ok-points_refusal.ensures _ _ c.path_between.ensures _ some
    (omega (arith, c.if-corners-k.false, c.path_between.auto.out)) _ c.bend_count.ensures
