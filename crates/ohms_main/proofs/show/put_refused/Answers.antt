-- The head, the number and the line feed, one after the other.
use native.Mathlib.Omega.{arith}
use Rattle.putting.proofs.Putting.{put_then}
use Rattle.lines.specs.Lines.{item}
use Rattle.ohms_main.specs.Printed.{net_line}
use Rattle.ohms_main.proofs.show.put_refused.Goals as goal

pub returns : goal.returns
unfolding net_line item
returns c = record {
  put = put_then
      (put_then c.put_head-a.ensures.put
      (put_then c.put_bytes-b.ensures (rw c.from.ensures at c.put_number-c.ensures.put)))
      c.put_bytes.ensures;
  upper_bound = omega (
    arith,
    c.put_head-a.ensures.upper_bound,
    c.put_bytes-b.ensures.next,
    c.put_number-c.ensures.upper_bound,
    c.put_bytes.ensures.next,
  );
}
