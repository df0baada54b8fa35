-- `plain::walk::is_way` is safe and ends: the loop counts up to the last corner, and p is a point.
use Prim.Native.Nat.{◌<◌}
use Rattle.plain.proofs.walk.is_way.Given as goal

abbrev pub invariant-loop-i : goal.invariant-loop-i
invariant-loop-i l = l.p < 4096
