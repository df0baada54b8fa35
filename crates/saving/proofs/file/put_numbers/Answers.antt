-- `saving::file::put_numbers` meets its contract: the loop has put the first numbers.
use native.Mathlib.Omega.{arith}
use Rattle.putting.proofs.Putting.{put-none, put-length}
use Rattle.saving.proofs.Records.{two-next, numbers_more, numbers-all}
use Rattle.saving.proofs.file.put_numbers.Goals as goal

pub loop-n-init : goal.loop-n-init
loop-n-init c = record { put = put-none _ _ (omega arith); place = omega arith }

pub put_two_bytes-a-requires : goal.put_two_bytes-a-requires
put_two_bytes-a-requires c = omega (arith, put-length c.loop-n.invariant.put, c.loop-n.invariant.place)

pub loop-n-preserved : goal.loop-n-preserved
loop-n-preserved c = record {
  put = numbers_more c.args.numbers.now _ c.loop-n.invariant.put (omega arith) c.put_two_bytes-a.ensures;
  place = omega (arith, c.loop-n.invariant.place, two-next _ c.put_two_bytes-a.ensures);
}

pub returns : goal.returns
returns c = numbers-all c.args.numbers.now _ c.loop-n.invariant.put (omega arith)
