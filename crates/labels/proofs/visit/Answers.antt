-- The run of the crossing gets its inks from the two sweeps, and labels, from its start to its end.
use Rattle.labels.specs.Pass.{Visit}
use Rattle.labels.proofs.Pass.{visit-passed, blank-run}
use Rattle.labels.proofs.visit.Goals as goal
use Rattle.labels.proofs.visit.Goals.{then-low-labels-via-then-low-labels}
use Rattle.labels.proofs.visit.Goals.{then-low-labels-via-else-low-labels+then-is_left}

pub returns-then-low-labels : goal.returns-then-low-labels
returns-then-low-labels c = elim c.then-low-labels.branch [
  | then-low-labels-via-then-low-labels w ↦ visit-passed c.requires.2.low-is w.if-low-labels.true
  | then-low-labels-via-else-low-labels+then-is_left w ↦ Visit.left (w.is_left.ensures w.if-is_left.true)
]

pub ink_run-requires-clause-has_line : goal.ink_run-requires-clause-has_line
ink_run-requires-clause-has_line c = (
  c.requires.1.own-inks,
  c.requires.1.labels,
  blank-run c.requires.2 c.if-low-labels.false c.run_start-lo.ensures
      c.run_end-hi.ensures,
)

pub fill_run-new-requires-clause-blank : goal.fill_run-new-requires-clause-blank
fill_run-new-requires-clause-blank c =
    blank-run c.requires.2 c.if-low-labels.false c.run_start-lo.ensures c.run_end-hi.ensures

pub returns : goal.returns
returns c = Visit.ran c.run_start-lo.ensures c.run_end-hi.ensures c.ink_run.ensures
    c.fill_run-new.ensures
