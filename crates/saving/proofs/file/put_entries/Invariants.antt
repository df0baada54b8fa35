-- `saving::file::put_entries` meets its contract: the loop has put the first k entries.
use mathlib.Core.List.{map}
use Rattle.foil_spec.specs.Lists.{range, each}
use Rattle.foil_spec.specs.Lent.{entry_at}
use Rattle.foil_spec.specs.Saving.{entry_bytes}
use Rattle.putting.specs.Put.{Put}
use Rattle.saving.proofs.file.put_entries.Given as goal

abbrev pub invariant-loop-k : goal.invariant-loop-k
invariant-loop-k l = Put l.initial.out l.at (each entry_bytes (map (entry_at l.table) (range 0 l.k))) l.out l.a
