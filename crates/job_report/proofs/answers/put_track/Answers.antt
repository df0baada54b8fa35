-- The track is laid, or the lay has the line of a refusal.
use native.Mathlib.Omega.{arith}
use mathlib.Core.Path.{ap, ◌∙◌}
use Rattle.std.specs.Prelude.{Ok}
use Rattle.job_report.proofs.Telling.{laid-line, refused-line, unlaid-line}
use Rattle.job_report.proofs.answers.put_track.Goals as goal

pub returns-in_default : goal.returns-in_default
returns-in_default c = record {
  put = refused-line _ _ _ c.in_default.not-Ok c.number_of.ensures c.track_refused.ensures.put;
  upper_bound = omega (arith, c.track_refused.ensures.upper_bound);
}

pub returns-in_default-accepted : goal.returns-in_default-accepted
returns-in_default-accepted c = record {
  put = unlaid-line _ _ _ c.in-Ok.is c.in_default-accepted.not-Laid c.track_refused-in_default-accepted.ensures.put;
  upper_bound = omega (arith, c.track_refused-in_default-accepted.ensures.upper_bound);
}

pub track_laid-requires : goal.track_laid-requires
track_laid-requires c =
    let is = c.in-Ok.is ∙ ap Ok c.in-Laid.is in record {
      count_in_bounds = omega (arith, c.requires.in_list.few _ _ is);
      count_in_bounds_2 = c.requires.in_list.there _ _ is;
    }

pub returns : goal.returns
returns c =
    let is = c.in-Ok.is ∙ ap Ok c.in-Laid.is in record {
      put = laid-line _ _ is c.track_laid.ensures.put;
      upper_bound = omega (arith, c.requires.in_list.few _ _ is, c.track_laid.ensures.upper_bound);
    }
