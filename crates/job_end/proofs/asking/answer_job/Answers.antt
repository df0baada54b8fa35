-- What is put is all that is to be written, and nothing is written before it.
use native.Mathlib.Omega.{arith}
use mathlib.Core.Path.{◌∙◌}
use Rattle.job_end.proofs.Answering.{all-next, all-written, fd-kept}
use Rattle.job_end.proofs.asking.answer_job.Goals as goal

pub write_front-requires : goal.write_front-requires
write_front-requires c = record {
  fd_value = fd-kept _ _ _ _ _ c.put_said-fd.ensures ∙ c.put_said-fd.ensures.to;
  next_of = all-next _ _ _ _ c.put_said-fd.ensures (omega arith);
}

pub returns : goal.returns
returns c = omega (arith, c.write_front.ensures, all-written _ _ _ _ c.put_said-fd.ensures)
