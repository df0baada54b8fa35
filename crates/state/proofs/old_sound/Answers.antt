-- `state::old_sound` meets its contract: the reach is tested, then the rules by document 01's rule.
use mathlib.Core.Path.{sym, ◌∙◌}
use Rattle.foil_spec.specs.Foil.{reach_rule}
use Rattle.zones.proofs.Tables.{reach-small}
use Rattle.state.proofs.Checking.{bad-reach, old-rule}
use Rattle.state.proofs.old_sound.Goals as goal

pub keeps_rule-requires : goal.keeps_rule-requires
unfolding reach_rule
keeps_rule-requires c = reach-small _ (sym c.reach_ok.ensures ∙ c.if-reach_ok.true)

pub returns-then-reach_ok : goal.returns-then-reach_ok
unfolding reach_rule
returns-then-reach_ok c = old-rule _ _ _ _ c.reach_ok.ensures c.if-reach_ok.true _ c.keeps_rule.ensures

pub returns-else-reach_ok : goal.returns-else-reach_ok
returns-else-reach_ok c = c.if-reach_ok.false ∙ bad-reach _ _ _ _ c.reach_ok.ensures c.if-reach_ok.false
