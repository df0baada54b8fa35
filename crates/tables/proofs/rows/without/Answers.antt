-- `tables::rows::without` meets its contract: the rows have the entries of other nets, of those before place k.
use mathlib.Core.Path.{refl, ◌∙◌}
use native.Mathlib.Omega.{arith}
use Rattle.tables.proofs.Filling.{appended, kept-none, kept-skip, kept_more, kept-long, kept-done}
use Rattle.tables.proofs.rows.without.Goals.{then-e-net, else-e-net}
use Rattle.tables.proofs.rows.without.Goals as goal

pub loop-k-init : goal.loop-k-init
loop-k-init c = (kept-none _ _ _ c.requires.2, refl)

pub put_entry-requires : goal.put_entry-requires
put_entry-requires c =
    omega (arith, c.loop-k.invariant.0.few, kept-long _ _ _ _ _ (omega arith) c.loop-k.invariant.0)

pub loop-k-preserved : goal.loop-k-preserved
loop-k-preserved c =
    elim c.if-e-net.branch [
      | then-e-net w ↦
          rw (w.rows-is, w.j-is) (
            kept_more _ _ _ _ c.entry_at-e.ensures _ _ c.loop-k.invariant.0 _ w.if-e-net.true
                (appended _ _ _ _ (omega (arith, c.loop-k.invariant.0.few))
                (kept-long _ _ _ _ _ (omega arith) c.loop-k.invariant.0) w.put_entry.ensures),
            w.put_entry.auto.table ∙ c.loop-k.invariant.1,
          )
      | else-e-net w ↦
          rw (w.rows-is, w.j-is)
          (kept-skip _ _ _ _ c.entry_at-e.ensures _ _ c.loop-k.invariant.0 w.if-e-net.false, c.loop-k.invariant.1)
    ]

pub returns : goal.returns
returns c = kept-done _ _ _ _ _ _ (omega arith) (omega arith) c.loop-k.invariant.0
