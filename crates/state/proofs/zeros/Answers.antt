-- `state::zeros` tests one number after the other.
use Rattle.std.proofs.Common.{◌≡◌, ◌≢◌, rules, tests}
use Rattle.std.proofs.lemmas.Iterator.{YieldsList-from_slice, cases_from_all}
use Rattle.state.proofs.Fronts.{told-zeros}
use Rattle.state.proofs.zeros.Goals as goal

pub returns : goal.returns
returns c =
    told-zeros _ _ _ c.requires.0 c.requires.1 _
    (cases_from_all _ _ _ (λ x. x ≡ 0) (λ x. x ≢ 0) c.all.ensures.ran (YieldsList-from_slice _ (cc))
    (λ x q k. search (rules, tests)) (λ x q k. search (rules, tests)))
