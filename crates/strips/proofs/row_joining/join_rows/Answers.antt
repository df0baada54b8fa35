-- `strips::row_joining::join_rows` meets its contract: the strips that begin before row y are joined up to that row.
use Prim.Native.Nat.{ℕ}
use native.Mathlib.Omega.{arith}
use mathlib.Core.Path.{refl, ◌∙◌}
use mathlib.Core.Bool.{Bool}
use Rattle.zones.specs.Boxes.{box_free}
use Rattle.strips.specs.Rows.{Change}
use Rattle.strips.proofs.Changing.{next-begins, next-ends, marks-change}
use Rattle.strips.proofs.Standing.{standing-start, row_before}
use Rattle.strips.proofs.RowToRow.{joined-start, joined-toward, joined-next, joined_end}
use Rattle.strips.proofs.row_joining.join_rows.Goals as goal

pub loop-y-init : goal.loop-y-init
loop-y-init c = (
  omega arith,
  refl,
  standing-start _ _ _ c.requires.boxes.few (omega (arith, c.requires.boxes.few)),
  joined-start _ _ _ _ _ (omega (arith, c.requires.boxes.width, c.requires.strips_size_in_bounds)),
)

pub join_row-requires : goal.join_row-requires
join_row-requires c = record {
  boxes = c.requires.boxes;
  on_row = c.move_to.ensures;
  y_lt_h = omega (arith, c.requires.strips_size_in_bounds, c.loop-y-test.true, c.loop-y.invariant.1, c.loop-y.invariant.3.small, c.loop-y.invariant.3.same);
  change = marks-change _ _ _ _ _ _ c.requires.marked.0 c.next_change-z.ensures _;
}

pub loop-y-preserved : goal.loop-y-preserved
loop-y-preserved c = let f : ℕ → ℕ → Bool = box_free c.args.w c.args.h c.args.n c.args.boxes.now in
    let change : Change f c.args.h c.loop-y.y
    c.next_change-z.result = marks-change _ _ _ _ _ _ c.requires.marked.0 c.next_change-z.ensures _ in (
      change.le,
      c.join_row.auto.last ∙ c.loop-y.invariant.1,
      row_before _ _ _ c.requires.boxes.few _ _ _ change.gt
          (next-begins _ _ _ _ _ _ c.requires.marked.0 c.next_change-z.ensures)
          (next-ends _ _ _ _ _ _ c.requires.marked.0 c.next_change-z.ensures) c.move_to.ensures,
      joined-next _ _ _ _ _ _ _ _ _
          (c.in_ok-count.ensures _ (joined-toward _ _ _ _ _ _ _ _ _ c.loop-y.invariant.3)),
    )

pub returns : goal.returns
returns c = joined_end _ _ _ _ _ _ _ _ c.loop-y-test.false c.loop-y.invariant.0 c.loop-y.invariant.3

pub returns-in_err-count : goal.returns-in_err-count
returns-in_err-count c =
    rw c.from_residual.ensures (c.in_err-count.ensures _ (joined-toward _ _ _ _ _ _ _ _ _ c.loop-y.invariant.3))
