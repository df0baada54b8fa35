-- The lines of the first k strips are put.
use Prim.Native.Nat.{◌*◌, ◌≤◌}
use Rattle.foil_spec.specs.Lists.{each}
use Rattle.foil_spec.specs.Lent.{listed_strips}
use Rattle.putting.specs.Put.{Put}
use Rattle.lines.specs.Lines.{strip_line}
use Rattle.job_report.proofs.strip_lines.put_strips.Given as goal

abbrev pub invariant-loop-k : goal.invariant-loop-k
invariant-loop-k l =
    Put l.initial.out 0 (each strip_line (listed_strips l.list l.k)) l.out l.a × (l.a ≤ 30 * l.k)
