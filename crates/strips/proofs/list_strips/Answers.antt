-- `strips::list_strips` meets its contract.
use Rattle.strips.proofs.list_strips.Goals as goal

pub returns : goal.returns
returns c = c.join_rows.ensures
