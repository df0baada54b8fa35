-- `state::keeps_rule` meets its contract: a test that fails shows that a rule is broken, all together that none is.
use Rattle.std.proofs.Common.{arith, ◌∙◌}
use Rattle.state.proofs.Checking.{table_of_tests, short-table, short-strips, bad-sizes, bad-entries, bad-rest}
use Rattle.state.proofs.Checking.{told, all_right}
use Rattle.state.proofs.keeps_rule.Goals as goal
use Rattle.state.proofs.keeps_rule.Goals.{then-entries_ok, else-entries_ok}

pub strips_ok-requires-clause-table : goal.strips_ok-requires-clause-table
strips_ok-requires-clause-table c = table_of_tests _ _ _ _ _ c.requires (grind arith) (grind arith) (grind arith)

pub returns-then-zeros : goal.returns-then-zeros
returns-then-zeros c =
    elim c.if-entries_ok.branch [
      | then-entries_ok w ↦
          all_right _ _ _ _ _ _ _ c.strips_ok.result
          (record {
            long = grind arith;
            sizes = grind arith;
            entries = grind arith;
            rest = told _ w.zeros.result w.zeros.ensures (cc);
          })
          c.strips_ok.ensures
      | else-entries_ok w ↦ absurd (cc)
    ]

pub returns-else-zeros : goal.returns-else-zeros
returns-else-zeros c =
    elim c.if-entries_ok.branch [
      | then-entries_ok w ↦ c.if-zeros.false ∙ bad-rest _ _ _ _ _ _ _ w.zeros.result w.zeros.ensures (cc)
      | else-entries_ok w ↦ grind (arith, short-table, short-strips, bad-sizes, bad-entries)
    ]
