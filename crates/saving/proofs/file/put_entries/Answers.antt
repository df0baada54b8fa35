-- `saving::file::put_entries` meets its contract: the loop has put the first k entries.
use native.Mathlib.Omega.{arith}
use mathlib.Core.Path.{◌≡◌}
use Rattle.foil_spec.specs.Lent.{entry_at}
use Rattle.foil_spec.specs.Saving.{entry_bytes}
use Rattle.putting.proofs.Putting.{put-length, put-none, row_more}
use Rattle.saving.proofs.Records.{entries_next}
use Rattle.saving.proofs.file.put_entries.Goals as goal

pub loop-k-init : goal.loop-k-init
loop-k-init c = put-none _ _ (omega arith)

pub put_entry-a-requires : goal.put_entry-a-requires
put_entry-a-requires c = omega (
  arith,
  put-length c.loop-k.invariant,
  entries_next c.args.table.now c.loop-k.k c.loop-k.invariant,
)

pub loop-k-preserved : goal.loop-k-preserved
loop-k-preserved c =
    row_more entry_bytes (entry_at c.args.table.now) c.loop-k.k c.loop-k.invariant
    (rw c.entry_at.ensures at c.put_entry-a.ensures)

pub shape_of-out : goal.shape_of-out
shape_of-out c = put-length c.loop-k.invariant

pub returns : goal.returns
returns c = let all : c.loop-k.k ≡ c.args.n = omega arith in
    rw (← all) c.loop-k.invariant
