-- `strips::row_joining::join_row` meets its contract: the row is joined up to column x.
use Prim.Native.Nat.{ℕ}
use mathlib.Core.Path.{◌≡◌, refl, ap, subst, ◌∙◌}
use native.Mathlib.Omega.{arith}
use lib.ListN.{get_or, set}
use Rattle.strips.specs.Joining.{Opened}
use Rattle.strips.proofs.Listing.{strip-put}
use Rattle.strips.proofs.JoiningRow.{row-start, row_old, row_new, row-full, row-none}
use Rattle.strips.proofs.row_joining.join_row.Goals as goal

pub loop-next-init : goal.loop-next-init
loop-next-init c =
    row-start _ _ _ _ _ _ _ _ _ _ _ (omega (arith, c.requires.y_lt_h)) c.requires.change
    (omega (arith, c.requires.y_lt_h))

pub returns-then-count-eq-MAX_STRIPS : goal.returns-then-count-eq-MAX_STRIPS
returns-then-count-eq-MAX_STRIPS c =
    let place : c.from-k.result ≡ get_or c.loop-next.last c.in-Some.next.from 0 =
    c.from-k.ensures ∙ ap (λ (u : ℕ). get_or c.loop-next.last u 0) c.from-from.ensures in
    let closed : Opened c.loop-next.out (get_or c.loop-next.last c.in-Some.next.from 0) c.loop-next.count c.in-Some.next.from c.in-Some.next.to c.args.y → ⊥ =
    subst (λ (k : ℕ). Opened c.loop-next.out k c.loop-next.count c.in-Some.next.from c.in-Some.next.to c.args.y → ⊥) place
    c.if-is_open.ensures in
    row-full _ _ _ _ _ _ _ _ _ _ _ (omega (arith, c.requires.y_lt_h)) c.requires.change _ _ _ _ _
    c.loop-next.invariant _ _ _ _ c.in-Some.ensures closed c.if-count-eq-MAX_STRIPS.true

pub loop-next-preserved-then-is_open : goal.loop-next-preserved-then-is_open
loop-next-preserved-then-is_open c =
    let place : c.from-k.result ≡ get_or c.loop-next.last c.in-Some.next.from 0 =
    c.from-k.ensures ∙ ap (λ (u : ℕ). get_or c.loop-next.last u 0) c.from-from.ensures in
    row_old _ _ _ _ _ _ _ _ _ _ _ (omega (arith, c.requires.y_lt_h)) c.requires.change _ _ _ _ _
    c.loop-next.invariant _ _ _ _ c.in-Some.ensures _ place c.if-is_open.ensures _ refl

pub loop-next-preserved : goal.loop-next-preserved
loop-next-preserved c =
    let place : c.from-k.result ≡ get_or c.loop-next.last c.in-Some.next.from 0 =
    c.from-k.ensures ∙ ap (λ (u : ℕ). get_or c.loop-next.last u 0) c.from-from.ensures in
    let closed : Opened c.loop-next.out (get_or c.loop-next.last c.in-Some.next.from 0) c.loop-next.count c.in-Some.next.from c.in-Some.next.to c.args.y → ⊥ =
    subst (λ (k : ℕ). Opened c.loop-next.out k c.loop-next.count c.in-Some.next.from c.in-Some.next.to c.args.y → ⊥) place
    c.if-is_open.ensures in
    row_new _ _ _ _ _ _ _ _ _ _ _ (omega (arith, c.requires.y_lt_h)) c.requires.change _ _ _ _ _
    c.loop-next.invariant _ _ _ _ c.in-Some.ensures closed
    (omega (arith, c.if-count-eq-MAX_STRIPS.false, c.loop-next.invariant.small)) _ _
    c.put_strip.auto.list
    (c.put_strip.ensures
    ∙ strip-put _ _ _
    (omega (
      arith,
      c.if-count-eq-MAX_STRIPS.false,
      c.loop-next.invariant.small,
      c.loop-next.invariant.same_out,
      c.requires.y_lt_h,
    )))
    (ap (λ (u : ℕ). set c.loop-next.last u c.loop-next.count) c.from-from.ensures)

pub returns : goal.returns
returns c =
    row-none _ _ _ _ _ _ _ _ _ _ _ (omega (arith, c.requires.y_lt_h)) c.requires.change _ _ _ _ _
    c.loop-next.invariant c.in_default.ensures
