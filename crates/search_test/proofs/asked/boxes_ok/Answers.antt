-- Each of the entries is not empty and on the board.
use native.Mathlib.Nat.{zero-add}
use Rattle.std.proofs.Common.{ℕ, refl, subst, ◌∙◌, rules, tests, arith}
use Rattle.std.proofs.lemmas.Bool.{MatchBool-at_true}
use Rattle.std.proofs.lemmas.Iterator.{cases_from_all, YieldsList-from_range}
use Rattle.std.proofs.lemmas.List.FromFn.{length-range_with_len, get_or-range_with_len}
use Rattle.foil_spec.specs.Lent.{entry_at}
use Rattle.search_test.specs.Box.{Box}
use Rattle.search_test.proofs.asked.boxes_ok.Goals as goal

pub returns : goal.returns
returns c = λ told k l.
    subst (λ (j : ℕ). Box c.args.w c.args.h (entry_at c.args.table.now j))
    (get_or-range_with_len 0 c.args.n k 0 l ∙ zero-add k)
    (MatchBool-at_true _ _ told
    (cases_from_all _ _ _ (λ (j : ℕ). Box c.args.w c.args.h (entry_at c.args.table.now j)) (λ (j : ℕ). Unit {0}) c.all.ensures.ran
    (YieldsList-from_range 0 c.args.n c.args.n refl (omega arith)) (λ x q m. search (rules, tests)) (λ x q m. tt))
    k 0 (omega arith) (omega (arith, length-range_with_len 0 c.args.n)))
