-- The parts of a net's line: 16 digits, and the line by what was answered.
use Prim.Native.Nat.{ℕ, ◌-◌, ◌^◌, ◌≤◌, ◌<◌, min, max}
use native.Mathlib.Omega.{arith}
use native.Mathlib.Nat.{pow-le-pow_right}
use mathlib.Core.Path.{◌≡◌, sym, ap, ◌∙◌, subst}
use mathlib.Core.List.{List}
use mathlib.Core.Logic.{⊎_elim}
use Rattle.io.specs.Digits.{last_digits, IsDigitCount}
use Rattle.list_laws.proofs.Tests.{lt-or-le}
use Rattle.ohms.specs.declared.Resistance.{Resistance}
use Rattle.putting.specs.Put.{Put}
use Rattle.ohms_main.specs.Printed.{net_line}

-- a number of 64 bits has 16 hexadecimal digits, where it has 16 at least
pub sixteen : (k n : ℕ) → n < 2 ^ 64 → IsDigitCount 16 (min (max 16 1) 16) n k → k ≡ 16
sixteen k n l f = ⊎_elim (λ (h : 16 < k). absurd (long h)) (λ (h : k ≤ 16). omega (arith, f.0)) (lt-or-le 16 k)
  where
    long : 16 < k → ⊥
    long h =
        let low : 16 ^ (k - 1) ≤ n = f.2 h in
        let more : 16 ≤ k - 1 = omega arith in
        let p : 16 ^ 16 ≤ 16 ^ (k - 1) = pow-le-pow_right {n = 16} (omega arith) more in
        omega arith

pub hex-put : {o bs o' : List ℕ} {at r : ℕ} (k n : ℕ) → k ≡ 16 → bs ≡ last_digits 16 k n → Put o at bs o' r
    → Put o at (last_digits 16 16 n) o' r
hex-put {o} {bs} {o'} {at} {r} k n all e p =
    subst (λ (ds : List ℕ). Put o at ds o' r) (e ∙ ap (λ (j : ℕ). last_digits 16 j n) all) p

pub as-told : {o o' : List ℕ} {n : ℕ} (net : ℕ) (r told : Resistance) → r ≡ told → Put o 0 (net_line net told) o' n
    → Put o 0 (net_line net r) o' n
as-told {o} {o'} {n} net r told e p = subst (λ (x : Resistance). Put o 0 (net_line net x) o' n) (sym e) p
