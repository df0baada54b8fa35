-- The label decides.
use Rattle.runs.specs.Ink.{InkPut}
use Rattle.runs.proofs.put_ink.Goals as goal

pub returns-then-not-has_label : goal.returns-then-not-has_label
returns-then-not-has_label c = InkPut.puts (c.has_label.ensures.1 c.if-not-has_label.true)

pub returns-else-not-has_label : goal.returns-else-not-has_label
returns-else-not-has_label c = InkPut.stays (c.has_label.ensures.0 c.if-not-has_label.false)
