-- `saving::save_in` meets its contract: 11 by the beginnings, 12 by the size of the file, and else the file in front.
use native.Mathlib.Omega.{arith}
use mathlib.Core.Path.{sym}
use Rattle.foil.proofs.Limits.{held-table}
use Rattle.putting.proofs.Putting.{front_long}
use Rattle.saving.proofs.Saves.{begins-too-fine, no_room, saved}
use Rattle.saving.proofs.save_in.Goals as goal

pub beginning_too_fine-requires : goal.beginning_too_fine-requires
beginning_too_fine-requires c = held-table _ _ _ c.requires

pub returns-then-beginning_too_fine : goal.returns-then-beginning_too_fine
returns-then-beginning_too_fine c = rw c.into.ensures
    (begins-too-fine _ _ _ _ c.requires _ c.beginning_too_fine.ensures c.if-beginning_too_fine.true)

pub write_file-size-requires : goal.write_file-size-requires
write_file-size-requires c = let table = held-table _ _ _ c.requires in
    record { file_size_in_bounds = omega arith; entries_le_max_entries = (table.few, table.len) }

pub returns-then-out-size : goal.returns-then-out-size
returns-then-out-size c =
    rw c.into-then-out-size.ensures
    (no_room _ _ _ _ c.requires _ c.beginning_too_fine.ensures c.if-beginning_too_fine.false c.write_file-size.ensures
    (omega (arith, c.if-out-size.true)))

pub slice_bounds-put_bytes-end : goal.slice_bounds-put_bytes-end
slice_bounds-put_bytes-end c = sym (front_long c.write_file-size.ensures)

pub put_bytes-requires : goal.put_bytes-requires
put_bytes-requires c = omega (arith, front_long c.write_file-size.ensures, c.if-out-size.false)

pub returns : goal.returns
returns c = saved _ _ _ _ c.requires _ c.beginning_too_fine.ensures c.if-beginning_too_fine.false
    c.write_file-size.ensures (omega (arith, c.if-out-size.false)) c.put_bytes.ensures
