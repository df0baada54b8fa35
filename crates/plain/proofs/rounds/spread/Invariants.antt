-- `plain::rounds::spread` is safe and ends: the loop counts up to 64.
use Prim.Native.Nat.{◌<◌}
use Rattle.plain.proofs.rounds.spread.Given as goal

abbrev pub invariant-loop-i : goal.invariant-loop-i
invariant-loop-i l = l.p < 4096
