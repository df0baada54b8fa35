-- A part after the other, each nearer to the target.
use Rattle.labels.proofs.Walk.{Walking}
use Rattle.labels.proofs.walk_on.Given as goal

abbrev pub invariant-loop-w : goal.invariant-loop-w
invariant-loop-w l =
    Walking l.level l.upright l.il l.iu l.kl l.ku l.cols l.rows l.nc l.nr l.initial.w l.initial.out l.w l.out

abbrev pub decreases-loop-w : goal.decreases-loop-w
decreases-loop-w l = l.w.label
