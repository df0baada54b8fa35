-- `saving::file::put_numbers` meets its contract: the loop has put the first numbers.
use Rattle.std.proofs.Common.{◌≡◌, ◌+◌, ◌*◌, take}
use Rattle.foil_spec.specs.Lists.{each}
use Rattle.foil_spec.specs.Saving.{two_bytes}
use Rattle.putting.specs.Put.{Put}
use Rattle.saving.proofs.file.put_numbers.Given as goal

abbrev pub invariant-loop-n : goal.invariant-loop-n
invariant-loop-n l = record {
  put : Put l.initial.out l.at (each two_bytes (take l.n-index l.numbers)) l.out l.a;
  place : l.a ≡ l.at + 2 * l.n-index;
}
