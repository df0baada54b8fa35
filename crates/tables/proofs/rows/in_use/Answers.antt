-- `tables::rows::in_use` meets its contract.
use Prim.Native.Nat.{ℕ}
use native.Mathlib.Omega.{arith}
use mathlib.Core.Path.{refl}
use Rattle.std.proofs.Common.{rules, tests}
use Rattle.std.proofs.lemmas.Iterator.{cases_from_any, YieldsList-from_range}
use Rattle.tables.proofs.Nets.{Of, used-by}
use Rattle.tables.proofs.rows.in_use.Goals as goal

pub returns : goal.returns
returns c =
    used-by c.args.table.now c.args.n c.args.net _
    (cases_from_any _ _ _ (Of c.args.table.now c.args.n c.args.net)
    (λ (k : ℕ). Of c.args.table.now c.args.n c.args.net k → ⊥) c.any.ensures.ran
    (YieldsList-from_range 0 c.args.n c.args.n refl (omega arith)) (λ x q k. search (rules, tests))
    (λ x q k. search (rules, tests)))
