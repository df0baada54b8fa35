-- `strips::row_joining::join_rows` meets its contract: the strips that begin before row y are joined up to that row.
use Prim.Native.Nat.{◌-◌, ◌≤◌}
use mathlib.Core.Path.{◌≡◌}
use lib.ListN.{length}
use Rattle.foil_spec.specs.Strips.{strips_from}
use Rattle.zones.specs.Boxes.{box_free}
use Rattle.strips.specs.RowBoxes.{Before}
use Rattle.strips.specs.Joining.{Joined}
use Rattle.strips.proofs.row_joining.join_rows.Given as goal

abbrev pub invariant-loop-y : goal.invariant-loop-y
invariant-loop-y l =
    (l.y ≤ l.h) × (length l.last ≡ length l.initial.last) × Before l.boxes l.row.places l.n l.row.count l.y
    × Joined (box_free l.w l.h l.n l.boxes) l.w l.h l.initial.out l.out l.last l.count l.y l.y 0
    (strips_from (box_free l.w l.h l.n l.boxes) l.w l.h l.y)

abbrev pub decreases-loop-y : goal.decreases-loop-y
decreases-loop-y l = l.h - l.y
