-- A number set right, as it is put: blanks, then its fewest digits.
use Prim.Native.Nat.{ℕ, zero, suc, ◌-◌, ◌/◌, ◌%◌, ◌≤◌}
use native.Mathlib.Omega.{arith}
use mathlib.Core.Path.{◌≡◌, refl, sym, ap, ap₂, ◌∙◌, subst}
use mathlib.Core.List.{List, [], ◌∷◌, ◌++◌}
use lib.ListN.{length, take, replicate, length-append}
use lib.Seq.{length-take-le}
use Rattle.io.specs.Digits.{hex_digit_ascii, last_digits, IsDigitCount}
use Rattle.foil_spec.specs.Text.{decimal}
use Rattle.foil_spec.specs.Slip.{set_right}
use Rattle.putting.specs.Put.{Put}
use Rattle.putting.proofs.Decimals.{decimal-is}
use Rattle.putting.proofs.Putting.{put_then}

length_digits : (k n : ℕ) → length (last_digits 10 k n) ≡ k
length_digits zero n = refl
length_digits (suc k) n =
    length-append (last_digits 10 k (n / 10)) (hex_digit_ascii (n % 10) ∷ []) ∙ omega (arith, length_digits k (n / 10))

take-blanks : (m n : ℕ) → m ≤ n → take {A = ℕ} m (replicate n 32) ≡ replicate m 32
take-blanks zero n l = refl
take-blanks (suc m) zero l = absurd (omega arith)
take-blanks (suc m) (suc n) l = ap (λ (xs : List ℕ). 32 ∷ xs) (take-blanks m n (omega arith))

pub right-put : {o o₁ o₂ bs : List ℕ} {at a r : ℕ} (k w n : ℕ) → IsDigitCount 10 1 n k → w - k ≤ 6
    → Put o at (take (w - k) (replicate 6 32)) o₁ a → bs ≡ last_digits 10 k n → Put o₁ a bs o₂ r
    → Put o at (set_right w n) o₂ r
unfolding set_right
right-put {o} {o₁} {o₂} {bs} {at} {a} {r} k w n f few p e q =
    let is : last_digits 10 k n ≡ decimal n = decimal-is k n f in
    let long : k ≡ length (decimal n) = sym (length_digits k n) ∙ ap (λ (ds : List ℕ). length ds) is in
    subst (λ (bytes : List ℕ). Put o at bytes o₂ r)
    (ap₂ (λ (x y : List ℕ). x ++ y)
    (take-blanks (w - k) 6 few ∙ ap (λ (j : ℕ). replicate (w - j) 32) long)
    (e ∙ is))
    (put_then p q)

-- the blanks that are put are so many
pub blanks-long : (m : ℕ) → m ≤ 6 → length (take {A = ℕ} m (replicate 6 32)) ≡ m
blanks-long m l = length-take-le m (replicate 6 32) l
