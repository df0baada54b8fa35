-- A number in decimal is the fewest digits that hold it.
use Prim.Native.Nat.{ℕ, zero, suc, ◌+◌, ◌-◌, ◌*◌, ◌/◌, ◌%◌, ◌^◌, ◌≤◌, ◌<◌}
use native.Mathlib.Omega.{arith}
use native.Mathlib.Nat.{mod-eq_of_lt, pow-suc, pow-le-pow_right, one-le-pow}
use mathlib.Core.Path.{◌≡◌, sym, ap, ap₂, ◌∙◌, subst}
use mathlib.Core.List.{List, [], ◌∷◌, ◌++◌}
use mathlib.Core.Logic.{⊎_elim}
use borrow.Author.Tests.{lt-ltb}
use Rattle.io.specs.Digits.{hex_digit_ascii, last_digits, IsDigitCount}
use Rattle.foil_spec.specs.Text.{digits_in, decimal}
use Rattle.list_laws.proofs.Tests.{lt-or-le}
use Rattle.list_laws.proofs.Digits.{digits-one, digits_more}
use Rattle.putting.specs.Put.{Put}

glyph-digit : (d : ℕ) → d < 10 → hex_digit_ascii d ≡ 48 + d
glyph-digit d l = rw (lt-ltb d 10 l)

-- without its last digit a number has one digit less
fewest-less : (k n : ℕ) → IsDigitCount 10 1 n (suc (suc k)) → (10 ≤ n) × IsDigitCount 10 1 (n / 10) (suc k)
fewest-less k n f =
    let e : suc (suc k) - 1 ≡ suc k = omega arith in
    let low : 10 ^ suc k ≤ n = rw e at (f.2 (omega arith)) in
    let high : n < 10 ^ suc (suc k) = f.1 in
    let p : 10 ^ suc k ≡ 10 ^ k * 10 = pow-suc 10 k in
    let q : 10 ^ suc (suc k) ≡ 10 ^ suc k * 10 = pow-suc 10 (suc k) in
    let one : 1 ≤ 10 ^ k = one-le-pow k 10 (omega arith) in
    let d : suc k - 1 ≡ k = omega arith in
    (omega arith, (omega arith, omega arith, λ h. rw d (omega arith)))

fewest-digits : (k most n : ℕ) → n < most → IsDigitCount 10 1 n k → last_digits 10 k n ≡ digits_in most n
fewest-digits zero most n l f = absurd (omega arith)
fewest-digits (suc zero) zero n l f = absurd (omega arith)
fewest-digits (suc zero) (suc most) n l f =
    let h : n < 10 = f.1 in
    ap (λ (d : ℕ). d ∷ []) (ap hex_digit_ascii (mod-eq_of_lt h) ∙ glyph-digit n h) ∙ sym (digits-one most n h)
fewest-digits (suc (suc k)) zero n l f = absurd (omega arith)
fewest-digits (suc (suc k)) (suc most) n l f =
    let less = fewest-less k n f in
    let h : 10 ≤ n = less.0 in
    ap₂ (λ (ds : List ℕ) (d : ℕ). ds ++ (d ∷ []))
    (fewest-digits (suc k) most (n / 10) (omega arith) less.1)
    (glyph-digit (n % 10) (omega arith))
    ∙ sym (digits_more most n h)

-- the fewest digits are the number in decimal
pub decimal-is : (k n : ℕ) → IsDigitCount 10 1 n k → last_digits 10 k n ≡ decimal n
unfolding decimal
decimal-is k n f = fewest-digits k (suc n) n (omega arith) f

-- a number below 10 to the power of w has at most w digits
pub fewest-fits : (k w n : ℕ) → 1 ≤ w → n < 10 ^ w → IsDigitCount 10 1 n k → k ≤ w
fewest-fits k w n one l f = ⊎_elim (λ (h : w < k). absurd (long h)) (λ (h : k ≤ w). h) (lt-or-le w k)
  where
    long : w < k → ⊥
    long h =
        let low : 10 ^ (k - 1) ≤ n = f.2 (omega arith) in
        let more : w ≤ k - 1 = omega arith in
        let p : 10 ^ w ≤ 10 ^ (k - 1) = pow-le-pow_right {n = 10} (omega arith) more in
        omega arith

-- so one of 64 bits has at most 20
pub fewest-short : (k n : ℕ) → n < 2 ^ 64 → IsDigitCount 10 1 n k → k ≤ 20
fewest-short k n l f = fewest-fits k 20 n (omega arith) (omega arith) f

-- digits that were put are the number in decimal
pub number_put : {o bs o' : List ℕ} {at r : ℕ} (k n : ℕ) → IsDigitCount 10 1 n k → bs ≡ last_digits 10 k n → Put o at bs o' r
    → Put o at (decimal n) o' r
number_put {o} {bs} {o'} {at} {r} k n f e p = subst (λ (ds : List ℕ). Put o at ds o' r) (e ∙ decimal-is k n f) p
