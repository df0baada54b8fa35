-- Line after line.
use mathlib.Core.Path.{◌≡◌}
use lib.ListN.{length}
use Rattle.sowing.specs.Seeds.{BlockSown, clear_at}
use Rattle.sowing.proofs.sow_block.Given as goal

abbrev pub invariant-loop-line : goal.invariant-loop-line
invariant-loop-line l =
    (length l.labels ≡ length l.initial.labels) × (length l.inks ≡ length l.initial.inks)
    × BlockSown l.a l.line l.lo l.hi (clear_at l.n l.boxes l.upright l.lines l.cross) l.initial.labels l.initial.inks l.labels l.inks
