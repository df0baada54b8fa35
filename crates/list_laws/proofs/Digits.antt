-- The digits of a number in decimal, and how many they are.
use Prim.Native.Nat.{ℕ, zero, suc, ◌+◌, ◌*◌, ◌/◌, ◌%◌, ◌^◌, ◌≤◌, ◌<◌}
use native.Mathlib.Omega.{arith}
use native.Mathlib.Nat.{pow-suc}
use mathlib.Core.Path.{◌≡◌}
use mathlib.Core.List.{[], ◌∷◌, ◌++◌}
use mathlib.Core.Logic.{⊎_elim}
use lib.ListN.{length, length-append}
use borrow.Author.Tests.{lt-ltb, le-ltb}
use Rattle.foil_spec.specs.Text.{digits_in, decimal}
use Rattle.list_laws.proofs.Tests.{lt-or-le}

-- one digit
pub digits-one : (most n : ℕ) → n < 10 → digits_in (suc most) n ≡ (48 + n) ∷ []
unfolding digits_in
digits-one most n l = rw (lt-ltb n 10 l, digits_in)

-- the last digit after the others
pub digits_more : (most n : ℕ) → 10 ≤ n → digits_in (suc most) n ≡ digits_in most (n / 10) ++ ((48 + n % 10) ∷ [])
unfolding digits_in
digits_more most n l = rw (le-ltb n 10 l, digits_in)

-- how long it is
one-short : (k most n : ℕ) → n < 10 → length (digits_in (suc most) n) ≤ suc k
one-short k most n h = rw (digits-one most n h) (omega arith)

digits-short : (k most n : ℕ) → n < 10 ^ suc k → length (digits_in most n) ≤ suc k
unfolding digits_in
digits-short zero zero n l = omega arith
digits-short zero (suc most) n l = one-short 0 most n l
digits-short (suc k) zero n l = omega arith
digits-short (suc k) (suc most) n l =
    let p : 10 ^ suc (suc k) ≡ 10 ^ suc k * 10 = pow-suc 10 (suc k) in
    let less : length (digits_in most (n / 10)) ≤ suc k = digits-short k most (n / 10) (omega arith) in
    ⊎_elim
    (λ (h : n < 10). one-short (suc k) most n h)
    (λ (h : 10 ≤ n). rw (digits_more most n h) (simp length-append (omega arith)))
    (lt-or-le n 10)

-- a number below 10 to the power of k has at most k digits
pub decimal-fits : (k n : ℕ) → 1 ≤ k → n < 10 ^ k → length (decimal n) ≤ k
unfolding decimal
decimal-fits zero n p l = absurd (omega arith)
decimal-fits (suc k) n p l = digits-short k (suc n) n l

-- so one of 16 bits has at most five
pub decimal-short : (n : ℕ) → n < 65536 → length (decimal n) ≤ 5
decimal-short n l = decimal-fits 5 n (omega arith) (omega arith)
