-- One entry more: it is of another net and nothing changes, or it is one leg more and its steps.
use native.Mathlib.Omega.{arith}
use mathlib.Core.Path.{sym, ap, ◌∙◌, subst}
use Rattle.foil_spec.specs.Foil.{Entry}
use Rattle.foil_spec.specs.Nets.{leg_steps}
use Rattle.nets.specs.Measured.{Box}
use Rattle.nets.proofs.Measuring.{steps-most, measured-skip, measured-more}
use Rattle.nets.proofs.with_entry.Goals as goal

pub returns-then-leg-net : goal.returns-then-leg-net
returns-then-leg-net c = measured-skip _ _ _ _ c.requires.measured
    (λ e. omega (arith, c.if-leg-net.true, ap (λ (x : Entry). x.net) c.entry_at-leg.ensures, e))

pub leg_steps-requires : goal.leg_steps-requires
leg_steps-requires c = subst Box (sym c.entry_at-leg.ensures) c.requires.fact

pub overflow_add-result-2 : goal.overflow_add-result-2
overflow_add-result-2 c = omega (
  arith,
  c.requires.k_lt_max_entries.0,
  c.requires.measured.short,
  c.leg_steps.ensures,
  ap leg_steps c.entry_at-leg.ensures,
  steps-most _ c.requires.fact,
)

pub returns : goal.returns
returns c = measured-more _ _ _ _ c.requires.measured _
    (omega (arith, c.if-leg-net.false, ap (λ (x : Entry). x.net) c.entry_at-leg.ensures))
    c.requires.fact
    (c.leg_steps.ensures ∙ ap leg_steps c.entry_at-leg.ensures)
