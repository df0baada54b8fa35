-- After the nets before i, what they have left is what the definitions give for them.
use native.Mathlib.Omega.{arith}
use mathlib.Core.Path.{refl}
use Rattle.listing.proofs.Listing.{laid_none, may-lay, next-net, list_done}
use Rattle.listing.proofs.lay_list_in.Goals as goal

pub loop-i-init : goal.loop-i-init
loop-i-init c = record {
  table = refl;
  strips = refl;
  corners = refl;
  answers = refl;
  used = omega arith;
  laid = laid_none _ c.args.wishes.now _ _ _ _ _;
}

pub lay_next-so_far-requires : goal.lay_next-so_far-requires
lay_next-so_far-requires c =
    may-lay _ _ _ _ _ c.requires.strips_value _ _ _ _ _ _ _ c.loop-i.invariant.laid c.requires.limit_le_max_entries
    c.loop-i.invariant.used (omega arith) (omega (arith, c.requires.wishes_in_bounds, c.loop-i.invariant.answers))

pub loop-i-preserved : goal.loop-i-preserved
loop-i-preserved c = record {
  table = omega (arith, c.lay_next-so_far.auto.table, c.loop-i.invariant.table);
  strips = omega (arith, c.lay_next-so_far.auto.strips, c.loop-i.invariant.strips);
  corners = omega (arith, c.lay_next-so_far.auto.corners, c.loop-i.invariant.corners);
  answers = omega (arith, c.lay_next-so_far.auto.answers, c.loop-i.invariant.answers);
  used = omega (arith, c.lay_next-so_far.auto.corners, c.lay_next-so_far.ensures.used_in_bounds);
  laid =
      next-net _ _ _ _ _ c.requires.strips_value _ _ _ _ _ _ _ c.loop-i.invariant.laid _ _ _ _ _ _
      c.lay_next-so_far.ensures.goes_on c.loop-i.invariant.corners;
}

pub returns : goal.returns
returns c =
    list_done _ _ _ _ _ c.requires.strips_value _ _ _ _ _ _ _ c.loop-i.invariant.laid (omega arith)
