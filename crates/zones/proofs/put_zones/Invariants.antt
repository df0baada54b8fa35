-- `zones::put_zones` meets its contract: the loop has written the zones of the entries before k.
use Rattle.zones.proofs.Zoning.{Zoning}
use Rattle.zones.proofs.put_zones.Given as goal

abbrev pub invariant-loop-k : goal.invariant-loop-k
invariant-loop-k l = Zoning l.table l.n l.rule l.w l.h l.initial.out l.out l.k
