-- What carrying a foil over has done over structs: the same as on numbers.
use Rattle.std.specs.Prelude.{ℕ, List}
use Rattle.foil_spec.specs.Lists.{each}
use Rattle.foil_spec.specs.Foil.{Entry, entry_numbers}
use Rattle.foil_spec.specs.Carrying.{Old, old}
use Rattle.foil_spec.specs.Lent.{lent}
use Rattle.foil_spec.specs.declared.Board.{Board}
use Rattle.foil_spec.specs.declared.OldBoard.{OldBoard}
use Rattle.foil.specs.Contract.{Answer}
use Rattle.carrying.specs.Carried.{CarryDone}

-- an old state whose table is the entries es
abbrev pub old_of : OldBoard → List Entry → List ℕ → Old
old_of b es s = old b (each entry_numbers es) s

-- a carry of the old state o: record, table, strips and report were b, es, s and out; it answered a and left b', es',
-- s' and out'
abbrev pub HostCarried : Old → Board → List Entry → List ℕ → List ℕ → Answer → Board → List Entry → List ℕ → List ℕ
    → Type 0
HostCarried o b es s out a b' es' s' out' =
    CarryDone o (lent b (each entry_numbers es) s) out a b' (each entry_numbers es') s' out'
