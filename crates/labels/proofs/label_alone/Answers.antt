-- The crossing's own label, else the first stop of its run, else none.
use Rattle.labels.specs.Pass.{had, gets, misses}
use Rattle.labels.proofs.Part.{run-misses, run-least}
use Rattle.labels.proofs.label_alone.Goals as goal

pub returns-then-labels-line-ne0 : goal.returns-then-labels-line-ne0
returns-then-labels-line-ne0 c = had c.if-labels-line-ne0.true

pub returns-then-h-hi : goal.returns-then-h-hi
returns-then-h-hi c = misses c.if-labels-line-ne0.false
    (run-misses c.requires.2 c.run_start-lo.ensures c.run_end-hi.ensures
    c.first_stop-h.ensures c.if-h-hi.true)

pub returns : goal.returns
returns c = gets _ c.if-labels-line-ne0.false
    (run-least c.requires.2 c.run_start-lo.ensures c.run_end-hi.ensures
    c.first_stop-h.ensures c.ink_at.ensures)
