-- The marks are right before each round, and a round that goes on leaves fewer crossings without a label.
use Prim.Native.Nat.{◌+◌, ◌*◌}
use mathlib.Core.Path.{◌≡◌}
use lib.ListN.{length}
use Rattle.grid.specs.Size.{stride}
use Rattle.labels.specs.Pass.{zeros}
use Rattle.labels.proofs.Going.{Going}
use Rattle.labels.proofs.rounds.Given as goal

abbrev pub invariant-loop-ahead : goal.invariant-loop-ahead
invariant-loop-ahead l =
    (length l.level ≡ length l.initial.level) × (length l.upright ≡ length l.initial.upright) × (length l.il ≡ length l.initial.il)
    × (length l.iu ≡ length l.initial.iu) × (length l.ml ≡ 2 * stride) × (length l.mu ≡ 2 * stride) × (length l.ahead ≡ stride)
    × (length l.behind ≡ stride)
    × Going l.kl l.ku l.cols l.rows l.nc l.nr l.initial.level l.initial.upright l.initial.il l.initial.iu l.v l.level l.upright l.il l.iu l.ml l.mu

abbrev pub decreases-loop-ahead : goal.decreases-loop-ahead
decreases-loop-ahead l =
    zeros l.level + zeros l.upright
