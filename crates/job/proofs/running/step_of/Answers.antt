-- Each arm reads the fields of its bit and does its step.
use native.Mathlib.Omega.{arith}
use mathlib.Core.Path.{◌≡◌}
use Rattle.foil_spec.specs.Job.{field_count}
use Rattle.job.proofs.Places.{field-ready}
use Rattle.job.proofs.Bits.{board-set, ready-sound, does-board, does-patch, does-track, does-lift, does-leg}
use Rattle.job.proofs.running.step_of.Goals as goal

pub field-w-requires : goal.field-w-requires
unfolding field_count
field-w-requires c = field-ready _ _ c.requires.bit_ready 0 0 c.in-0.is (omega arith)

pub field-h-requires : goal.field-h-requires
unfolding field_count
field-h-requires c = field-ready _ _ c.requires.bit_ready 0 1 c.in-0.is
    (omega arith)

pub clearance_of-requires : goal.clearance_of-requires
clearance_of-requires c = (c.requires.bit_ready.whole, board-set c.requires.bit_ready c.in-0.is)

pub returns-in-0 : goal.returns-in-0
returns-in-0 c = does-board _ _ _ _ _ _ _ _ _ _ c.in-0.is _ _ _ c.field-w.ensures
    c.field-h.ensures c.clearance_of.ensures
    c.new_foil_in.ensures

pub field-x0-requires : goal.field-x0-requires
unfolding field_count
field-x0-requires c = field-ready _ _ c.requires.bit_ready 1 0 c.in-1.is (omega arith)

pub field-y0-requires : goal.field-y0-requires
unfolding field_count
field-y0-requires c = field-ready _ _ c.requires.bit_ready 1 1 c.in-1.is
    (omega arith)

pub field-x1-requires : goal.field-x1-requires
unfolding field_count
field-x1-requires c = field-ready _ _ c.requires.bit_ready 1 2
    c.in-1.is (omega arith)

pub field-y1-requires : goal.field-y1-requires
unfolding field_count
field-y1-requires c = field-ready _ _ c.requires.bit_ready 1 3
    c.in-1.is (omega arith)

pub draw_in-requires-clause-strips_value : goal.draw_in-requires-clause-strips_value
draw_in-requires-clause-strips_value c = ready-sound c.requires.bit_ready (λ z. omega arith)

pub returns-in-1 : goal.returns-in-1
returns-in-1 c = does-patch _ _ _ _ _ _ _ _ _ _ c.in-1.is _ _ _ _
    c.field-x0.ensures c.field-y0.ensures
    c.field-x1.ensures c.field-y1.ensures c.draw_in.ensures

pub field-net-requires : goal.field-net-requires
unfolding field_count
field-net-requires c = field-ready _ _ c.requires.bit_ready 2 0 c.in-2.is (omega arith)

pub point_of-from-requires : goal.point_of-from-requires
unfolding field_count
point_of-from-requires c = field-ready _ _ c.requires.bit_ready 2 2 c.in-2.is (omega arith)

pub point_of-to-requires : goal.point_of-to-requires
unfolding field_count
point_of-to-requires c = field-ready _ _ c.requires.bit_ready 2 4 c.in-2.is (omega arith)

pub lay_in-requires-clause-strips_value : goal.lay_in-requires-clause-strips_value
lay_in-requires-clause-strips_value c = ready-sound c.requires.bit_ready (λ z. omega arith)

pub returns-in-2 : goal.returns-in-2
returns-in-2 c = does-track _ _ _ _ _ _ _ _ _ _ _ c.in-2.is _ _ _
    c.field-net.ensures c.point_of-from.ensures c.point_of-to.ensures c.lay_in.ensures

pub field-requires : goal.field-requires
unfolding field_count
field-requires c = field-ready _ _ c.requires.bit_ready 3 0 c.in-3.is
    (omega arith)

pub lift_in-requires : goal.lift_in-requires
lift_in-requires c = ready-sound c.requires.bit_ready (λ z. omega arith)

pub returns-in-3 : goal.returns-in-3
returns-in-3 c = does-lift _ _ _ _ _ _ _ _ _ _ c.in-3.is _ c.field.ensures
    c.lift_in.ensures

pub leg_of-requires : goal.leg_of-requires
unfolding field_count
leg_of-requires c = let last_bit : c.args.k ≡ 4 = omega (arith, c.requires.bit_ready.bit) in
    field-ready _ _ c.requires.bit_ready 4 4 last_bit (omega arith)

pub put_leg_in-requires-clause-strips_value : goal.put_leg_in-requires-clause-strips_value
put_leg_in-requires-clause-strips_value c = ready-sound c.requires.bit_ready (λ z. omega arith)

pub returns-in_default : goal.returns-in_default
returns-in_default c = let last_bit : c.args.k ≡ 4 = omega (arith, c.requires.bit_ready.bit) in
    does-leg _ _ _ _ _ _ _ _ _ _ last_bit _ c.leg_of.ensures
    c.put_leg_in.ensures
