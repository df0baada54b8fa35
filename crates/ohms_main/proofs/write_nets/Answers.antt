-- After each net the lines up to it are written; and after net 999 all are.
use native.Mathlib.Omega.{arith}
use Rattle.ohms_main.proofs.Printing.{none_written, all-written, net-next, net-written}
use Rattle.ohms_main.proofs.write_nets.Goals as goal

pub loop-k-init : goal.loop-k-init
loop-k-init c = rw c.requires.written_value (none_written _ _)

pub write_front-requires : goal.write_front-requires
write_front-requires c =
    net-next _ _ _ _ _ c.requires.reached _ _ c.loop-k.invariant _ c.ink_of.ensures c.put_ohms_of-n.ensures.put
    c.put_ohms_of-n.ensures.upper_bound (omega arith)

pub loop-k-preserved : goal.loop-k-preserved
loop-k-preserved c =
    net-written _ _ _ _ _ c.requires.reached _ _ c.loop-k.invariant _ c.ink_of.ensures c.put_ohms_of-n.ensures.put
    c.put_ohms_of-n.ensures.upper_bound _ c.write_front.ensures

pub returns : goal.returns
returns c = all-written _ _ _ _ _ c.requires.reached _ _ c.loop-k.invariant (omega arith) (omega arith)
