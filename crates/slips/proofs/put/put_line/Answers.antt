-- `slips::put::put_line` meets its contract: the five numbers, the last blanks and the line feed.
use native.Mathlib.Omega.{arith}
use Rattle.foil_spec.specs.Slip.{slip_line}
use Rattle.putting.proofs.Putting.{put-length, put_then}
use Rattle.slips.proofs.put.put_line.Goals as goal

pub put_bytes-requires : goal.put_bytes-requires
put_bytes-requires c = omega (
  arith,
  c.requires.1,
  c.put_right-a.ensures.upper_bound,
  put-length c.put_right-a.ensures.put,
  c.put_column-b.ensures.upper_bound,
  put-length c.put_column-b.ensures.put,
  c.put_column-c.ensures.upper_bound,
  put-length c.put_column-c.ensures.put,
  c.put_column-d.ensures.upper_bound,
  put-length c.put_column-d.ensures.put,
  c.put_column-e.ensures.upper_bound,
  put-length c.put_column-e.ensures.put,
)

pub returns : goal.returns
unfolding slip_line
returns c = rw (c.from.ensures, c.from-2.ensures, c.from-3.ensures) at
    (put_then
    (put_then
    (put_then
    (put_then (put_then c.put_right-a.ensures.put c.put_column-b.ensures.put) c.put_column-c.ensures.put)
    c.put_column-d.ensures.put)
    c.put_column-e.ensures.put)
    c.put_bytes.ensures)
