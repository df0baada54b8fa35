-- Line after line of the other direction, and on it crossing after crossing with the label v.
use Prim.Native.Nat.{◌+◌, ◌-◌, ◌*◌, ◌≤◌, ◌<◌}
use mathlib.Core.Path.{◌≡◌}
use lib.ListN.{length}
use Rattle.grid.specs.Size.{stride}
use Rattle.runs.specs.Line.{along}
use Rattle.labels.specs.Pass.{PassTo}
use Rattle.labels.proofs.Pass.{PassOn}
use Rattle.labels.proofs.label_pass.Given as goal

abbrev pub invariant-loop-k : goal.invariant-loop-k
invariant-loop-k l =
    (length l.marks ≡ length l.initial.marks) × (length l.ahead ≡ length l.initial.ahead) × (length l.behind ≡ length
    l.initial.behind)
    × PassTo l.other l.inks l.link l.cross l.m l.n l.v (l.k * stride) l.initial.labels l.labels l.initial.own l.own
    l.marks l.new

abbrev pub invariant-loop-line : goal.invariant-loop-line
invariant-loop-line l =
    (l.line ≤ l.end) × (l.line < l.end → along l.other l.k l.line ≡ l.v) × (length l.marks ≡ length l.initial.marks)
    × (length l.ahead ≡ length l.initial.ahead) × (length l.behind ≡ length l.initial.behind)
    × PassOn l.other l.inks l.link l.cross l.m l.n l.v (l.k * stride + l.initial.line) (l.k * stride + l.line)
    l.initial.labels l.labels l.initial.own l.own l.initial.marks l.marks
    l.initial.new l.new

abbrev pub decreases-loop-line : goal.decreases-loop-line
decreases-loop-line l = l.end - l.line
