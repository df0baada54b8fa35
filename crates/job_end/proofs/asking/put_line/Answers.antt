-- The word, a blank, the number and the line feed, one after the other.
use Rattle.lines.specs.Lines.{item}
use Rattle.putting.proofs.Putting.{put_then}
use Rattle.job_end.proofs.asking.put_line.Goals as goal

pub returns : goal.returns
unfolding item
returns c = put_then
    (put_then c.put_bytes-a.ensures
    (put_then c.put_bytes-b.ensures (rw c.from.ensures at c.put_number-c.ensures.put)))
    c.put_bytes.ensures
