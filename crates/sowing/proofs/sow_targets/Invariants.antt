-- Target box after target box.
use mathlib.Core.Path.{◌≡◌}
use lib.ListN.{length}
use Rattle.sowing.specs.Seeds.{Sown, aimed_at}
use Rattle.sowing.proofs.sow_targets.Given as goal

abbrev pub invariant-loop-e : goal.invariant-loop-e
invariant-loop-e l =
    (length l.labels ≡ length l.initial.labels) × (length l.inks ≡ length l.initial.inks)
    × Sown (aimed_at l.n l.boxes l.e l.targets l.upright l.lines l.cross) l.m l.c l.labels l.inks
