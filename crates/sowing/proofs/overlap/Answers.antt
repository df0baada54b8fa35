-- Side after side.
use Rattle.std.proofs.Common.{rules, tests}
use Rattle.sowing.specs.Seeds.{overlap}
use Rattle.sowing.proofs.overlap.Goals.{then-a-b, else-a-b, then-b-a, else-b-a}
use Rattle.sowing.proofs.overlap.Goals as goal

pub returns-then-a-b-2 : goal.returns-then-a-b-2
unfolding overlap
returns-then-a-b-2 c = search (rules, tests)

pub returns-else-a-b-2 : goal.returns-else-a-b-2
unfolding overlap
returns-else-a-b-2 c = elim c.if-b-a.branch [
  | then-b-a w ↦ rw w.t-4-is (search (rules, tests))
  | else-b-a w ↦ elim c.if-a-b.branch [
    | then-a-b v ↦ rw (w.t-4-is, v.t-5-is) (search (rules, tests))
    | else-a-b v ↦ rw (w.t-4-is, v.t-5-is) (search (rules, tests))
  ]
]
