-- The scan begins at the start of the run.
use Rattle.runs.proofs.Line.{stop-of}
use Rattle.runs.proofs.next_stop.Goals as goal

pub returns : goal.returns
returns c = stop-of c.run_start.ensures c.scan.ensures
