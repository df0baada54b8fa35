-- `lines::track_laid` meets its contract: the word, its items and the line feed, one after the other.
use native.Mathlib.Omega.{arith}
use Rattle.lines.specs.Lines.{track_laid, item}
use Rattle.putting.proofs.Putting.{put_then}
use Rattle.lines.proofs.track_laid.Goals as goal

pub returns : goal.returns
unfolding track_laid item
returns c = record {
  put = put_then
      (put_then
      (put_then
      (put_then (put_then c.put_bytes-a.ensures c.put_item-b.ensures.put)
      c.put_item-c.ensures.put)
      (put_then c.put_bytes-d.ensures c.put_number-e.ensures.put))
      c.put_corners-f.ensures.put)
      c.put_bytes.ensures;
  upper_bound = omega arith;
}
