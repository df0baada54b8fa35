-- `plain::away` meets its contract: net 0 is a patch.
use native.Mathlib.Omega.{arith}
use mathlib.Core.Path.{refl}
use borrow.Author.Tests.{eq-eqb, ne_eqb}
use Rattle.foil_spec.specs.Foil.{pen_rule, margin}
use Rattle.foil_spec.specs.Lent.{entry_at}
use Rattle.plain.proofs.away.Goals as goal

pub returns-then-table-i-eq0 : goal.returns-then-table-i-eq0
unfolding pen_rule margin entry_at
returns-then-table-i-eq0 c = (omega arith, rw (eq-eqb _ 0 c.if-table-i-eq0.true) (omega (arith, c.from-half.ensures, c.from-gap.ensures)))

pub returns-else-table-i-eq0 : goal.returns-else-table-i-eq0
unfolding pen_rule margin entry_at
returns-else-table-i-eq0 c = (omega arith, rw (ne_eqb _ 0 c.if-table-i-eq0.false) (omega (arith, c.from-half.ensures, c.from-gap.ensures)))
