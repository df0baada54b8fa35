-- `state::strips_ok` meets its contract: the strips by the rule are built anew and compared.
use Rattle.std.proofs.Common.{rules, replicate}
use Rattle.foil_spec.specs.Limits.{strips_size}
use Rattle.state.proofs.Checking.{compared}
use Rattle.state.proofs.strips_ok.Goals as goal

pub returns-then-eq : goal.returns-then-eq
returns-then-eq c =
    compared _ _ _ c.strips_of.new.out (replicate strips_size 0) c.strips_of.result _ c.strips_of.ensures (search rules) c.same_front.ensures
