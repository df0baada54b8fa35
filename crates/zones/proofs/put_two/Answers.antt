-- `zones::put_two` meets its contract: the second box leaves the first as it is.
use native.Mathlib.Omega.{arith}
use Rattle.zones.proofs.Zoning.{box-put, two-put}
use Rattle.zones.proofs.put_two.Goals as goal

pub returns : goal.returns
returns c = two-put _ _ _ _ _ _ (box-put _ _ _ _ (omega arith) c.put_entry.ensures)
    (box-put _ _ _ _ (omega (arith, c.put_entry.auto.table)) c.put_entry-2.ensures)
