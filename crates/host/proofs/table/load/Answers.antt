-- After i turns the numbers are those of the first i places.
use Prim.Native.Nat.{◌*◌}
use mathlib.Core.Path.{ap, ◌∙◌}
use lib.ListN.{get_or}
use lib.Seq.{sets}
use Rattle.foil_spec.specs.Foil.{entry_numbers}
use Rattle.host.specs.Flats.{no_entry}
use Rattle.host.proofs.Flats.{load-more, load-none}
use Rattle.host.proofs.table.load.Goals as goal

pub loop-i-init : goal.loop-i-init
loop-i-init c = load-none _

pub loop-i-preserved : goal.loop-i-preserved
loop-i-preserved c =
    c.put_entry.ensures
    ∙ ap (λ a. sets a (c.loop-i.i * 5) (entry_numbers (get_or c.args.table.now c.loop-i.i no_entry))) c.loop-i.invariant
    ∙ load-more c.args.table.now c.loop-i.i
