-- `tables::legs::append_legs` meets its contract: after j turns the rows have the first j legs.
use native.Mathlib.Omega.{arith}
use Prim.Native.Nat.{◌+◌, ◌-◌}
use mathlib.Core.Path.{◌≡◌}
use Rattle.tables.proofs.Appending.{going_more, going-all, single}
use Rattle.tables.proofs.legs.append_legs.Goals as goal

pub returns-then-k-eq1 : goal.returns-then-k-eq1
returns-then-k-eq1 c = single _ _ _ _ _ _ c.if-k-eq1.true (omega arith)
    c.append_leg.ensures

pub append_leg-requires-in-loop-j : goal.append_leg-requires-in-loop-j
append_leg-requires-in-loop-j c = record {
  n_lt_max_entries = (omega arith, c.loop-j.invariant.1.long);
  i_in_bounds = (omega (arith, c.requires.corners.long), omega (arith, c.requires.corners.long));
  i_bound = (c.requires.corners.small-x _ (omega arith), c.requires.corners.small-y _ (omega arith));
  j_bound = (c.requires.corners.small-x _ (omega arith), c.requires.corners.small-y _ (omega arith));
}

pub loop-j-preserved : goal.loop-j-preserved
loop-j-preserved c = (
  omega (arith, c.append_leg-in-loop-j.auto.rows, c.loop-j.invariant.0),
  going_more _ _ _ _ _ _ _ _ (omega arith) c.loop-j.invariant.1
      c.append_leg-in-loop-j.ensures,
)

pub returns : goal.returns
returns c =
    let e : c.args.n + c.args.k - 1 ≡ c.args.n + c.loop-j.j = omega arith in
    rw e (going-all _ _ _ _ _ _ _ (omega arith) (omega arith) (omega arith) c.loop-j.invariant.1)
