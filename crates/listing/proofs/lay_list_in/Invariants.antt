-- After the nets before i, what they have left is what the definitions give for them.
use Rattle.std.proofs.Common.{◌≡◌, ◌≤◌, length}
use Rattle.foil_spec.specs.Lent.{lent, room_in}
use Rattle.listing.specs.Parts.{laid_to, LaidBy}
use Rattle.listing.proofs.lay_list_in.Given as goal

abbrev pub invariant-loop-i : goal.invariant-loop-i
invariant-loop-i l = record {
  table : length l.table ≡ length l.initial.table;
  strips : length l.strips ≡ length l.initial.strips;
  corners : length l.corners ≡ length l.initial.corners;
  answers : length l.answers ≡ length l.initial.answers;
  used : l.so_far.used ≤ length l.corners;
  laid : LaidBy
      (laid_to (room_in l.limit (lent l.initial.board l.initial.table l.initial.strips) (length l.initial.corners)) l.wishes
      l.i (lent l.initial.board l.initial.table l.initial.strips))
      l.initial.corners l.initial.answers l.so_far l.board l.table l.strips l.corners l.answers;
}
