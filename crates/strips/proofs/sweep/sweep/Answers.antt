-- `strips::sweep::sweep` meets its contract: the columns from x up to `at` are blocked, and the boxes from place j of
-- the row's list on have none from `at` on. The inner loop leaves `at` as it is until a box goes on past it.
use Prim.Native.Nat.{◌-◌, ◌<◌, ◌≤◌}
use native.Mathlib.Omega.{arith}
use mathlib.Core.Path.{◌≡◌, ap}
use mathlib.Core.Logic.{inl, inr}
use Rattle.foil_spec.specs.Foil.{Entry}
use Rattle.strips.specs.RowBoxes.{listed_box}
use Rattle.strips.proofs.Standing.{fits}
use Rattle.strips.proofs.Sweeping.{sweeping-on, sweep-run}
use Rattle.strips.proofs.Sweeping.{LeftAt, left-run, left-none}
use Rattle.strips.proofs.sweep.sweep.Goals.{else-scan-test, then-scan-test+then-j-eq0}
use Rattle.strips.proofs.sweep.sweep.Goals as goal

pub offset_bounds-row-j : goal.offset_bounds-row-j
offset_bounds-row-j c = omega (arith, (fits _ _ _ _ _ _ _ c.requires.on_row).0, c.requires.boxes.few, c.loop-j.invariant.2.jm, c.if-j-eq0.false)

pub bounds-row-j : goal.bounds-row-j
bounds-row-j c = omega (arith, (fits _ _ _ _ _ _ _ c.requires.on_row).0, c.requires.boxes.few, c.loop-j.invariant.2.jm, c.if-j-eq0.false)

pub returns-then-at-zone : goal.returns-then-at-zone
returns-then-at-zone c = let pos : 0 < c.loop-j.j = omega (arith, c.if-j-eq0.false) in
    let in-width : c.loop-j.at < c.args.w = omega (arith, c.loop-j.invariant.0, c.scan-test.true) in
    let box : Entry = listed_box c.args.boxes.now c.args.row.now.places
    (c.loop-j.j - 1) in
    let x0-is : c.entry_at-zone.result.x0 ≡ box.x0 = ap (λ (e : Entry). e.x0) c.entry_at-zone.ensures in
    let x1-is : c.entry_at-zone.result.x1 ≡ box.x1 = ap (λ (e : Entry). e.x1) c.entry_at-zone.ensures in
    sweep-run _ _ _ _ _ _ _ _ c.requires.boxes c.requires.on_row _ _ c.loop-j.invariant.2 c.requires.x_le_w.1 in-width pos _ _
    x0-is x1-is c.if-at-zone.true

pub scan-preserved : goal.scan-preserved
scan-preserved c = let pos : 0 < c.loop-j.j = omega (arith, c.if-j-eq0.false) in
    let box : Entry = listed_box c.args.boxes.now c.args.row.now.places
    (c.loop-j.j - 1) in
    let x1-is : c.entry_at-zone.result.x1 ≡ box.x1 = ap (λ (e : Entry). e.x1) c.entry_at-zone.ensures in
    let x0-is : c.entry_at-zone.result.x0 ≡ box.x0 = ap (λ (e : Entry). e.x0) c.entry_at-zone.ensures in
    let begun : box.x0 ≤ c.loop-j.at = omega (arith, c.if-at-zone.false, x0-is) in
    sweeping-on _ _ _ _ _ _ _ _ c.requires.boxes c.requires.on_row _ _ c.loop-j.invariant.2 pos begun _
    (omega (arith, c.if-at-zone-2.true, x1-is))

pub loop-j-preserved : goal.loop-j-preserved
loop-j-preserved c = let pos : 0 < c.loop-j.j = omega (arith, c.if-j-eq0.false) in
    let box : Entry = listed_box c.args.boxes.now c.args.row.now.places
    (c.loop-j.j - 1) in
    let x1-is : c.entry_at-zone.result.x1 ≡ box.x1 = ap (λ (e : Entry). e.x1) c.entry_at-zone.ensures in
    let x0-is : c.entry_at-zone.result.x0 ≡ box.x0 = ap (λ (e : Entry). e.x0) c.entry_at-zone.ensures in
    let begun : box.x0 ≤ c.loop-j.at = omega (arith, c.if-at-zone.false, x0-is) in (
      c.loop-j.invariant.0,
      omega (arith, c.loop-j.invariant.1),
      sweeping-on _ _ _ _ _ _ _ _ c.requires.boxes c.requires.on_row _ _ c.loop-j.invariant.2 pos begun _
          (omega (arith, c.if-at-zone-2.false, x1-is)),
    )

pub returns-then-at-w : goal.returns-then-at-w
returns-then-at-w c =
    let left_at : LeftAt c.args.boxes.now c.args.row.now.places c.args.n c.args.row.now.count c.args.w c.args.y c.args.x c.scan-test.at =
    elim c.scan-test.branch [
      | else-scan-test w ↦ record { j = c.scan.j; sweeping = rw w.at-is c.scan.invariant; why = inl (rw w.at-is w.scan-test.false) }
      | then-scan-test+then-j-eq0 w ↦ record { j = w.loop-j.j; sweeping = rw w.at-is w.loop-j.invariant.2; why = inr w.if-j-eq0.true }
    ] in
    left-run _ _ _ _ _ _ _ _ _ c.requires.boxes c.requires.on_row c.requires.x_le_w.1 left_at c.if-at-w.true

pub returns : goal.returns
returns c =
    let left_at : LeftAt c.args.boxes.now c.args.row.now.places c.args.n c.args.row.now.count c.args.w c.args.y c.args.x c.scan-test.at =
    elim c.scan-test.branch [
      | else-scan-test w ↦ record { j = c.scan.j; sweeping = rw w.at-is c.scan.invariant; why = inl (rw w.at-is w.scan-test.false) }
      | then-scan-test+then-j-eq0 w ↦ record { j = w.loop-j.j; sweeping = rw w.at-is w.loop-j.invariant.2; why = inr w.if-j-eq0.true }
    ] in
    left-none _ _ _ _ _ _ _ _ _ c.requires.boxes c.requires.on_row c.requires.x_le_w.1 left_at c.if-at-w.false
