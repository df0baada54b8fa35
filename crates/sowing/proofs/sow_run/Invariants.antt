-- Crossing after crossing.
use Prim.Native.Nat.{◌+◌}
use mathlib.Core.Path.{◌≡◌}
use lib.ListN.{length}
use Rattle.sowing.specs.Seeds.{BlockSown, clear_at}
use Rattle.sowing.proofs.sow_run.Given as goal

abbrev pub invariant-loop-k : goal.invariant-loop-k
invariant-loop-k l =
    (length l.labels ≡ length l.initial.labels) × (length l.inks ≡ length l.initial.inks)
    × BlockSown l.line (l.line + 1) l.lo l.k (clear_at l.n l.boxes l.upright l.lines l.cross) l.initial.labels l.initial.inks l.labels l.inks
