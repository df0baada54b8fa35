-- `state::is_sound` meets its contract: the pen is tested, then the rules by its rule, then the patches across legs.
use mathlib.Core.Path.{sym, ◌∙◌}
use Rattle.zones.proofs.Tables.{pen-small}
use Rattle.state.proofs.Checking.{right-fits, bad-pen, rule-broken, rule-kept}
use Rattle.state.proofs.is_sound.Goals as goal

pub returns-then-not-pen_ok : goal.returns-then-not-pen_ok
returns-then-not-pen_ok c = bad-pen _ _ _ _ c.pen_ok.ensures c.if-not-pen_ok.true

pub pen_rule-rule-requires : goal.pen_rule-rule-requires
pen_rule-rule-requires c = pen-small _ (sym c.pen_ok.ensures ∙ c.if-not-pen_ok.false)

pub keeps_rule-requires : goal.keeps_rule-requires
keeps_rule-requires c = rw c.pen_rule-rule.ensures (pen-small _ (sym c.pen_ok.ensures ∙ c.if-not-pen_ok.false))

pub no_crossing-requires : goal.no_crossing-requires
no_crossing-requires c = right-fits _ _ _ _ _ _ _ _ c.keeps_rule.ensures c.if-keeps_rule.true

pub returns-then-keeps_rule : goal.returns-then-keeps_rule
returns-then-keeps_rule c =
    rule-kept _ _ _ (sym c.pen_ok.ensures ∙ c.if-not-pen_ok.false) _ c.pen_rule-rule.ensures _ c.keeps_rule.ensures
    c.if-keeps_rule.true _ c.no_crossing.ensures

pub returns-else-keeps_rule : goal.returns-else-keeps_rule
returns-else-keeps_rule c =
    c.if-keeps_rule.false
    ∙ rule-broken _ _ _ (sym c.pen_ok.ensures ∙ c.if-not-pen_ok.false) _ c.pen_rule-rule.ensures _ c.keeps_rule.ensures
    c.if-keeps_rule.false
