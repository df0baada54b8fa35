-- The answers that end the job are the refusals by 1, 2 and 20.
use Prim.Native.Nat.{ℕ}
use mathlib.Core.Path.{◌≡◌, refl, sym, ◌∙◌}
use mathlib.Core.Bool.{Bool, false, ◌||◌}
use lib.Dec.{eqb}
use Rattle.std.specs.Prelude.{Ok, Err}
use Rattle.foil_spec.specs.Ledger.{Answer as Outcome, refused, accepted, laid, found, wrote, booked}
use Rattle.foil_spec.specs.Calls.{ends_job}
use Rattle.foil.specs.Contract.{Answer, answer_of}
use Rattle.foil.specs.declared.Accepted.{Accepted}
use Rattle.job.specs.Parts.{Ends}

not-ok : (o : Outcome) (x : Accepted) → answer_of o ≡ Ok x → false ≡ ends_job o
unfolding answer_of ends_job
not-ok (refused n) x h = cc
not-ok accepted x h = refl
not-ok (laid cs n) x h = refl
not-ok (found n) x h = refl
not-ok (wrote bs) x h = refl
not-ok (booked k n) x h = refl

by-number : (o : Outcome) (n : ℕ) → answer_of o ≡ Err n → (eqb n 1 || eqb n 2 || eqb n 20) ≡ ends_job o
unfolding answer_of ends_job
by-number (refused k) n h = let same : k ≡ n = cc in rw same refl
by-number accepted n h = cc
by-number (laid cs k) n h = cc
by-number (found k) n h = cc
by-number (wrote bs) n h = cc
by-number (booked k j) n h = cc

pub ends-other : (a : Answer) (x : Accepted) → a ≡ Ok x → Ends a false
ends-other a x q = record { is = λ o e. not-ok o x (sym e ∙ q) }

pub ends-number : (a : Answer) (n : ℕ) (r : Bool) → a ≡ Err n → r ≡ (eqb n 1 || eqb n 2 || eqb n 20) → Ends a r
ends-number a n r q e = record { is = λ o f. e ∙ by-number o n (sym f ∙ q) }
