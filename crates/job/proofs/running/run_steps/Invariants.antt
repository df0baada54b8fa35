-- After the bits below k, what they have left is what the definitions give for them.
use Rattle.std.proofs.Common.{◌≡◌, length}
use Rattle.foil_spec.specs.Lent.{lent, room_in}
use Rattle.job.specs.Parts.{RanTo}
use Rattle.job.proofs.running.run_steps.Given as goal

abbrev pub invariant-loop-k : goal.invariant-loop-k
invariant-loop-k l = record {
  table : length l.table ≡ length l.initial.table;
  strips : length l.strips ≡ length l.initial.strips;
  corners : length l.corners ≡ length l.initial.corners;
  ran : RanTo (room_in l.limit (lent l.initial.board l.initial.table l.initial.strips) (length l.initial.corners)) l.bytes
      l.at l.k (lent l.initial.board l.initial.table l.initial.strips) l.initial.corners l.so_far l.board l.table l.strips
      l.corners;
}
