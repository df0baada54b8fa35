-- A crossing has a label, or gets one.
use Rattle.labels.specs.Pass.{CellFilled}
use Rattle.labels.proofs.fill_cell.Goals as goal

pub returns-then-has_label : goal.returns-then-has_label
returns-then-has_label c = CellFilled.stays (c.has_label.ensures.0 c.if-has_label.true)

pub returns : goal.returns
returns c = CellFilled.puts (c.has_label.ensures.1 c.if-has_label.false)
