-- After each net the lines up to it are written; and after net 999 all are.
use Rattle.ohms_main.specs.Printed.{WrittenTo}
use Rattle.ohms_main.proofs.write_nets.Given as goal

abbrev pub invariant-loop-k : goal.invariant-loop-k
invariant-loop-k l = WrittenTo l.given l.bytes l.written l.k
