-- `plain::walk::all_free` is safe and ends: each turn brings p nearer to b.
use Prim.Native.Nat.{◌-◌, ◌+◌}
use Rattle.plain.proofs.walk.all_free.Given as goal

abbrev pub invariant-loop-p : goal.invariant-loop-p
invariant-loop-p l = Unit {0}

abbrev pub decreases-loop-p : goal.decreases-loop-p
decreases-loop-p l = l.b + 1 - l.p
