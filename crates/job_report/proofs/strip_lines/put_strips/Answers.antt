-- The lines of the first k strips are put.
use native.Mathlib.Omega.{arith}
use mathlib.Core.Path.{◌≡◌}
use Rattle.foil_spec.specs.Lent.{listed_strip, listed_strips}
use Rattle.putting.proofs.Putting.{put-length, put-none, row_more}
use Rattle.lines.specs.Lines.{strip_line}
use Rattle.job_report.proofs.strip_lines.put_strips.Goals as goal

pub loop-k-init : goal.loop-k-init
unfolding listed_strips
loop-k-init c = (put-none _ _ (omega arith), omega arith)

pub strip_line-a-requires : goal.strip_line-a-requires
strip_line-a-requires c = omega (arith, put-length c.loop-k.invariant.0)

pub loop-k-preserved : goal.loop-k-preserved
unfolding listed_strips
loop-k-preserved c = (
  row_more strip_line (listed_strip _) _ c.loop-k.invariant.0
      (rw c.strip_at.ensures at c.strip_line-a.ensures.put),
  omega arith,
)

pub shape_of-out : goal.shape_of-out
shape_of-out c = put-length c.loop-k.invariant.0

pub returns : goal.returns
returns c = let all : c.loop-k.k ≡ c.args.count = omega arith in record { put = rw (← all) c.loop-k.invariant.0; upper_bound = omega arith }
