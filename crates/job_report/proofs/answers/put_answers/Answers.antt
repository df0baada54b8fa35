-- The lines of the five bits are put one after the other.
use native.Mathlib.Omega.{arith}
use mathlib.Core.Path.{refl}
use Rattle.job.specs.Contract.{told_by_bits}
use Rattle.job_report.proofs.Telling.{lines_none, lines_more}
use Rattle.job_report.proofs.answers.put_answers.Goals as goal

pub put_bit-a-requires : goal.put_bit-a-requires
unfolding told_by_bits
put_bit-a-requires c =
    record { k_lt_step_bits = (omega arith, omega arith, omega arith); from_bit = c.requires.from_bits.bit 0 (omega arith) }

pub put_bit-b-requires : goal.put_bit-b-requires
unfolding told_by_bits
put_bit-b-requires c = record {
  k_lt_step_bits = (omega arith, c.put_bit-a.ensures.upper_bound, omega arith);
  from_bit = c.requires.from_bits.bit 1 (omega arith);
}

pub put_bit-c-requires : goal.put_bit-c-requires
unfolding told_by_bits
put_bit-c-requires c = record {
  k_lt_step_bits = (omega arith, c.put_bit-b.ensures.upper_bound, omega arith);
  from_bit = c.requires.from_bits.bit 2 (omega arith);
}

pub put_bit-d-requires : goal.put_bit-d-requires
unfolding told_by_bits
put_bit-d-requires c = record {
  k_lt_step_bits = (omega arith, c.put_bit-c.ensures.upper_bound, omega arith);
  from_bit = c.requires.from_bits.bit 3 (omega arith);
}

pub put_bit-requires : goal.put_bit-requires
unfolding told_by_bits
put_bit-requires c = record {
  k_lt_step_bits = (omega arith, c.put_bit-d.ensures.upper_bound, omega arith);
  from_bit = c.requires.from_bits.bit 4 (omega arith);
}

pub returns : goal.returns
unfolding told_by_bits
returns c =
    let two = lines_more _ _ _ _ 0 _ refl (lines_none _ _ _ _) c.put_bit-a.ensures.put in
    let three = lines_more _ _ _ _ 1 _ refl two c.put_bit-b.ensures.put in
    let four = lines_more _ _ _ _ 2 _ refl three c.put_bit-c.ensures.put in
    let five = lines_more _ _ _ _ 3 _ refl four c.put_bit-d.ensures.put in
    lines_more _ _ _ _ 4 _ refl five c.put_bit.ensures.put
