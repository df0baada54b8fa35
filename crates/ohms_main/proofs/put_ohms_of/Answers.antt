-- A net that is on the foil has its line, and any other has none.
use native.Mathlib.Omega.{arith}
use Rattle.ohms_main.proofs.Printing.{ohms-are, has-bits, not_there, is_there}
use Rattle.ohms_main.proofs.put_ohms_of.Goals as goal

pub returns-then-not-in_use : goal.returns-then-not-in_use
returns-then-not-in_use c = record {
  put = not_there _ _ _ _ _ _ c.in_use.ensures c.if-not-in_use.true _;
  upper_bound = omega arith;
}

pub put_net-requires : goal.put_net-requires
put_net-requires c = record {
  in_bounds = omega arith;
  has_bits = has-bits _ _ _ _ _ _
      (ohms-are _ _ _ _ _ _ c.only_foil_0.ensures (omega arith) (omega arith) _ c.ohms-answer.ensures);
}

pub returns : goal.returns
returns c = record {
  put = is_there _ _ _ _ _ _ c.in_use.ensures c.if-not-in_use.false _
      (ohms-are _ _ _ _ _ _ c.only_foil_0.ensures (omega arith) (omega arith) _ c.ohms-answer.ensures) c.put_net.ensures.put;
  upper_bound = c.put_net.ensures.upper_bound;
}
