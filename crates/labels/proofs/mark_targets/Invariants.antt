-- Line after line.
use mathlib.Core.Path.{◌≡◌}
use lib.ListN.{length}
use Rattle.labels.specs.Pass.{Marked}
use Rattle.labels.proofs.mark_targets.Given as goal

abbrev pub invariant-loop-line : goal.invariant-loop-line
invariant-loop-line l =
    (length l.marks ≡ length l.initial.marks) × Marked l.marks l.line l.n l.labels 1
