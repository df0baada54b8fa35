-- `lines::number_line` meets its contract: the word, the number and the line feed, one after the other.
use native.Mathlib.Omega.{arith}
use Rattle.putting.proofs.Putting.{put_then}
use Rattle.lines.proofs.number_line.Goals as goal

pub returns : goal.returns
returns c = record {
  put = rw c.from.ensures at (put_then (put_then c.put_bytes-a.ensures c.put_item-b.ensures.put)
      c.put_bytes.ensures);
  upper_bound = omega arith;
}
