-- `plain::is_free` meets its contract: the edge does not block the point, and none of the entries up to i does.
use Prim.Native.Nat.{ℕ, ◌<◌}
use mathlib.Core.Path.{◌≡◌}
use mathlib.Core.Bool.{false}
use Rattle.foil_spec.specs.Lent.{entry_at}
use Rattle.plain.specs.Free.{blocked_by}
use Rattle.plain.proofs.is_free.Given as goal

abbrev pub invariant-loop-i : goal.invariant-loop-i
invariant-loop-i l = (k : ℕ) → k < l.i → blocked_by l.pen (entry_at l.table k) l.x l.y ≡ false
