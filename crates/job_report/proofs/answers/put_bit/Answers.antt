-- No line where the step was not run; else each arm writes the line of its bit.
use native.Mathlib.Omega.{arith}
use mathlib.Core.Path.{◌≡◌, refl}
use Rattle.foil_spec.specs.Job.{field_count}
use Rattle.job_report.specs.Told.{bytes_below}
use Rattle.job_report.proofs.Telling.{net-given, bytes-rise, line-room, line-end}
use Rattle.job_report.proofs.Telling.{no_line, line-board, line-patch, line-track, line-lift, line-leg}
use Rattle.job_report.proofs.answers.put_bit.Goals as goal

pub returns-in_default : goal.returns-in_default
returns-in_default c = let rise = bytes-rise c.args.k c.requires.k_lt_step_bits.0 in record {
  put = no_line _ _ _ _ c.in_default.is
      (omega (arith, rise.0, rise.1, c.requires.k_lt_step_bits.1, c.requires.k_lt_step_bits.2));
  upper_bound = omega (arith, rise.0, c.requires.k_lt_step_bits.1);
}

pub board_line-requires : goal.board_line-requires
unfolding bytes_below
board_line-requires c = line-room c.requires.k_lt_step_bits 0 64 c.if-k-eq0.true refl

pub returns-then-k-eq0 : goal.returns-then-k-eq0
unfolding bytes_below
returns-then-k-eq0 c = record {
  put =
      line-board _ _ _ _ _ c.in-Some.is c.if-k-eq0.true _
      c.number_of.ensures c.board_line.ensures.put;
  upper_bound = line-end c.requires.k_lt_step_bits 0 64 c.if-k-eq0.true refl c.board_line.ensures.upper_bound;
}

pub patch_line-requires : goal.patch_line-requires
unfolding bytes_below
patch_line-requires c = line-room c.requires.k_lt_step_bits 1 64 c.if-k-eq1.true refl

pub returns-then-k-eq1 : goal.returns-then-k-eq1
unfolding bytes_below
returns-then-k-eq1 c = record {
  put =
      line-patch _ _ _ _ _ c.in-Some.is c.if-k-eq1.true _
      c.number_of-then-k-eq1.ensures c.patch_line.ensures.put;
  upper_bound = line-end c.requires.k_lt_step_bits 1 64 c.if-k-eq1.true refl c.patch_line.ensures.upper_bound;
}

pub net_of-requires : goal.net_of-requires
unfolding field_count
net_of-requires c = net-given _ c.in-Some.is c.requires.from_bit 2 c.if-k-eq2.true (omega arith)
    (omega arith)

pub put_track-requires : goal.put_track-requires
unfolding bytes_below
put_track-requires c = record { at_in_bounds = line-room c.requires.k_lt_step_bits 2 98368 c.if-k-eq2.true refl; in_list = c.requires.from_bit.corners _ c.in-Some.is }

pub returns-then-k-eq2 : goal.returns-then-k-eq2
unfolding bytes_below
returns-then-k-eq2 c = record {
  put =
      line-track _ _ _ _ _ c.in-Some.is c.if-k-eq2.true _
      c.net_of.ensures c.put_track.ensures.put;
  upper_bound = line-end c.requires.k_lt_step_bits 2 98368 c.if-k-eq2.true refl c.put_track.ensures.upper_bound;
}

pub net_of-requires-then-k-eq3 : goal.net_of-requires-then-k-eq3
unfolding field_count
net_of-requires-then-k-eq3 c = net-given _ c.in-Some.is c.requires.from_bit 3 c.if-k-eq3.true (omega arith)
    (omega arith)

pub lift_line-requires : goal.lift_line-requires
unfolding bytes_below
lift_line-requires c = line-room c.requires.k_lt_step_bits 3 64 c.if-k-eq3.true refl

pub returns-then-k-eq3 : goal.returns-then-k-eq3
unfolding bytes_below
returns-then-k-eq3 c = record {
  put =
      line-lift _ _ _ _ _ c.in-Some.is c.if-k-eq3.true _
      c.net_of-then-k-eq3.ensures _ c.number_of-then-k-eq3.ensures
      c.lift_line.ensures.put;
  upper_bound = line-end c.requires.k_lt_step_bits 3 64 c.if-k-eq3.true refl c.lift_line.ensures.upper_bound;
}

pub net_of-requires-2 : goal.net_of-requires-2
unfolding field_count
net_of-requires-2 c = let is-leg : c.args.k ≡ 4 = omega (
  arith,
  c.requires.k_lt_step_bits.0,
  c.if-k-eq0.false,
  c.if-k-eq1.false,
  c.if-k-eq2.false,
  c.if-k-eq3.false,
) in
    net-given _ c.in-Some.is c.requires.from_bit 4 is-leg (omega arith)
    (omega arith)

pub leg_line-requires : goal.leg_line-requires
unfolding bytes_below
leg_line-requires c = let is-leg : c.args.k ≡ 4 = omega (
  arith,
  c.requires.k_lt_step_bits.0,
  c.if-k-eq0.false,
  c.if-k-eq1.false,
  c.if-k-eq2.false,
  c.if-k-eq3.false,
) in
    line-room c.requires.k_lt_step_bits 4 64 is-leg refl

pub returns : goal.returns
unfolding bytes_below
returns c = let is-leg : c.args.k ≡ 4 = omega (
  arith,
  c.requires.k_lt_step_bits.0,
  c.if-k-eq0.false,
  c.if-k-eq1.false,
  c.if-k-eq2.false,
  c.if-k-eq3.false,
) in record {
  put = line-leg _ _ _ _ _ c.in-Some.is is-leg _
      c.net_of-2.ensures _ c.number_of-2.ensures
      c.leg_line.ensures.put;
  upper_bound = line-end c.requires.k_lt_step_bits 4 64 is-leg refl c.leg_line.ensures.upper_bound;
}
