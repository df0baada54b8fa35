-- `lines::put::put_corners` meets its contract: the loop has put the first k corners.
use Prim.Native.Nat.{◌+◌, ◌*◌, ◌≤◌}
use Rattle.foil_spec.specs.Lists.{each}
use Rattle.foil_spec.specs.Corners.{corners_in}
use Rattle.lines.specs.Lines.{corner_item}
use Rattle.putting.specs.Put.{Put}
use Rattle.lines.proofs.put.put_corners.Given as goal

abbrev pub invariant-loop-k : goal.invariant-loop-k
invariant-loop-k l =
    Put l.initial.out l.at (each corner_item (corners_in l.corners l.k)) l.out l.a × (l.a ≤ l.at + 12 * l.k)
