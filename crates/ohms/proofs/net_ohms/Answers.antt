-- 4, 6, 22, and else the formula of the steps and of the legs less one.
use Rattle.ohms.proofs.Answering.{no-net, not_there, no-ink, ohms-are, has-leg}
use Rattle.ohms.proofs.net_ohms.Goals as goal

pub returns-then-not-net_ok : goal.returns-then-not-net_ok
returns-then-not-net_ok c = rw (c.into.ensures, c.from.ensures) (no-net _ _ _ _ _ c.net_ok.ensures c.if-not-net_ok.true)

pub in_use-requires : goal.in_use-requires
in_use-requires c = c.requires.len

pub returns-then-not-in_use : goal.returns-then-not-in_use
returns-then-not-in_use c = rw (c.into-then-not-in_use.ensures, c.from-then-not-in_use.ensures)
    (not_there _ _ _ _ _ c.net_ok.ensures c.if-not-net_ok.false _ c.in_use.ensures c.if-not-in_use.true)

pub returns-then-not-ink_ok : goal.returns-then-not-ink_ok
returns-then-not-ink_ok c = rw (c.into-then-not-ink_ok.ensures, c.from-then-not-ink_ok.ensures)
    (no-ink _ _ _ _ _ c.net_ok.ensures c.if-not-net_ok.false _ c.in_use.ensures c.if-not-in_use.false _ c.ink_ok.ensures
    c.if-not-ink_ok.true)

pub measure-track-requires : goal.measure-track-requires
measure-track-requires c = c.requires

pub overflow_sub-track : goal.overflow_sub-track
overflow_sub-track c = has-leg _ _ _ _ c.in_use.ensures c.if-not-in_use.false _ c.measure-track.ensures

pub returns : goal.returns
returns c = ohms-are _ _ _ _ _ c.net_ok.ensures c.if-not-net_ok.false _ c.in_use.ensures
    c.if-not-in_use.false _ c.ink_ok.ensures c.if-not-ink_ok.false _ c.measure-track.ensures _
    c.formula.ensures
