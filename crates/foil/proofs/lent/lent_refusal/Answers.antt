-- `foil::lent::lent_refusal` answers 12, then 13, then that the state keeps the rules.
use Rattle.foil.proofs.Giving.{too_short, broken}
use Rattle.foil.proofs.lent.lent_refusal.Goals as goal

pub returns-then-lists_short : goal.returns-then-lists_short
returns-then-lists_short c =
    rw c.into.ensures (too_short _ _ _ _ c.lists_short.ensures c.if-lists_short.true)

pub returns-then-not-is_sound : goal.returns-then-not-is_sound
returns-then-not-is_sound c =
    rw c.into-then-not-is_sound.ensures
    (broken _ _ _ _ c.lists_short.ensures c.if-lists_short.false _ c.is_sound.ensures c.if-not-is_sound.true)
