-- The entry is skipped, or appended.
use native.Mathlib.Omega.{arith}
use Rattle.joining.proofs.Own.{own-skip, own-more, own-long}
use Rattle.tables.proofs.Filling.{appended}
use Rattle.joining.proofs.keep_own.Goals as goal

pub returns-then-e-net : goal.returns-then-e-net
returns-then-e-net c = own-skip _ _ _ _ c.entry_at-e.ensures _ _ c.requires.2 c.if-e-net.true

pub put_entry-requires : goal.put_entry-requires
put_entry-requires c = omega (arith, c.requires.2.few, own-long _ _ _ _ _ (omega arith) c.requires.2)

pub returns : goal.returns
returns c = own-more _ _ _ _ c.entry_at-e.ensures _ _ c.requires.2 _ c.if-e-net.false
    (appended _ _ _ _ (omega (arith, c.requires.2.few)) (own-long _ _ _ _ _ (omega arith) c.requires.2)
    c.put_entry.ensures)
