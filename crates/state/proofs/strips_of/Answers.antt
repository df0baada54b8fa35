-- `state::strips_of` meets its contract: the strips that the zones leave are those by the rule.
use Rattle.foil_spec.specs.Sound.{strips_by}
use Rattle.state.proofs.strips_of.Goals as goal

pub returns : goal.returns
unfolding strips_by
returns c = rw c.zones-count.ensures.0.same at c.rebuild.ensures
