-- `strips::row_joining::join_row` meets its contract: the row is joined up to column x.
use Prim.Native.Nat.{◌-◌}
use Rattle.strips.proofs.JoiningRow.{JoiningRow}
use Rattle.strips.proofs.row_joining.join_row.Given as goal

abbrev pub invariant-loop-next : goal.invariant-loop-next
invariant-loop-next l =
    JoiningRow l.boxes l.row.places l.n l.row.count l.w l.h l.y l.z l.c l.initial.out l.initial.last l.out l.last l.x
    l.left l.count

abbrev pub decreases-loop-next : goal.decreases-loop-next
decreases-loop-next l = l.w - l.x
