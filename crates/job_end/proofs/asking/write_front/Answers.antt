-- The part that is written lies in the list.
use mathlib.Core.Path.{sym}
use lib.Seq.{length-take-le}
use Rattle.job_end.proofs.asking.write_front.Goals as goal

pub slice_bounds-write_all-end : goal.slice_bounds-write_all-end
slice_bounds-write_all-end c = sym (length-take-le _ _ c.requires.next_of.there)
