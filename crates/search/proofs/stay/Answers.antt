-- One corner, where there is room for it.
use Rattle.search.proofs.Here.{stay-put}
use Rattle.search.proofs.stay.Goals as goal

pub returns-then-out-ge2 : goal.returns-then-out-ge2
returns-then-out-ge2 c = stay-put _ _ _ c.if-out-ge2.true c.put_corner.ensures
