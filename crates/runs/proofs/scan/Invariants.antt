-- All crossings from lo up to k are joined, and none of them is such a stop.
use Prim.Native.Nat.{ℕ, ◌≤◌, ◌<◌}
use mathlib.Core.Path.{◌≡◌}
use mathlib.Core.Bool.{false}
use Rattle.runs.specs.Line.{Linked, is_stop}
use Rattle.runs.proofs.scan.Given as goal

abbrev pub invariant-loop-k : goal.invariant-loop-k
invariant-loop-k l =
    Linked l.link l.line l.lo l.k
    × ((j : ℕ) → j < l.k → l.lo ≤ j → is_stop l.other l.inks l.cross l.line l.x l.v l.s j ≡ false)
