-- `plain::walk::walk` is safe and ends: the segments left fall, and p is a point.
use Prim.Native.Nat.{◌<◌}
use Rattle.plain.proofs.walk.walk.Given as goal

abbrev pub invariant-loop-i : goal.invariant-loop-i
invariant-loop-i l =
    l.p < 4096
