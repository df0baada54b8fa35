-- The bytes of a number in decimal are digits, and the number is read back from them.
use Prim.Native.Nat.{ℕ, zero, suc, ◌+◌, ◌-◌, ◌*◌, ◌/◌, ◌%◌, ◌≤◌, ◌<◌}
use native.Mathlib.Omega.{arith}
use mathlib.Core.Path.{◌≡◌, refl, sym, ap, ◌∙◌}
use mathlib.Core.Bool.{Bool, true, false, ◌&&◌}
use mathlib.Core.List.{List, [], ◌∷◌, ◌++◌}
use lib.Dec.{leb, ltb}
use borrow.Author.Tests.{le-leb, leb-true, lt-ltb, ltb-true, ltb-false}
use Rattle.foil_spec.specs.Lists.{all, any}
use Rattle.list_laws.proofs.Tests.{parts, all_append}
use Rattle.list_laws.proofs.Members.{of-all, none_of}
use Rattle.foil_spec.specs.Text.{digits_in, decimal}

digit : ℕ → Bool
digit b = leb 48 b && ltb b 58

digits-all : (most n : ℕ) → all digit (digits_in most n) ≡ true
unfolding digits_in digit
digits-all zero n = refl
digits-all (suc most) n = go (ltb n 10) refl (digits-all most (n / 10))
  where
    go : (t : Bool) → ltb n 10 ≡ t → all digit (digits_in most (n / 10)) ≡ true
        → all digit (elim t [ true ↦ (48 + n) ∷ [] | false ↦ digits_in most (n / 10) ++ ((48 + n % 10) ∷ []) ]) ≡ true
    go true e h =
        let l = ltb-true n 10 e in
        simp (le-leb 48 (48 + n) (omega arith), lt-ltb (48 + n) 58 (omega arith))
    go false e h =
        all_append digit (digits_in most (n / 10)) _ h
        (simp (le-leb 48 (48 + n % 10) (omega arith), lt-ltb (48 + n % 10) 58 (omega arith)))

-- no byte of a number in decimal is of a kind that no digit is
pub without : (p : ℕ → Bool) → ((b : ℕ) → 48 ≤ b → b < 58 → p b ≡ false) → (n : ℕ) → any p (decimal n) ≡ false
unfolding decimal digit
without p h n =
    none_of p (decimal n)
    (λ b i.
    let d : digit b ≡ true = of-all digit b (decimal n) (digits-all (suc n) n) i in
    let lo : leb 48 b ≡ true = search parts in
    let hi : ltb b 58 ≡ true = search parts in
    h b (leb-true 48 b lo) (ltb-true b 58 hi))

-- the number whose digits these are, after those that gave a
read_from : ℕ → List ℕ → ℕ
read_from a [] = a
read_from a (d ∷ ds) = read_from (a * 10 + (d - 48)) ds

read-last : (a : ℕ) (ds : List ℕ) (d : ℕ) → read_from a (ds ++ (d ∷ [])) ≡ read_from a ds * 10 + (d - 48)
unfolding read_from
read-last a [] d = refl
read-last a (c ∷ ds) d = read-last (a * 10 + (c - 48)) ds d

read-digits : (most n : ℕ) → n < most → read_from 0 (digits_in most n) ≡ n
unfolding digits_in read_from
read-digits zero n l = absurd (omega arith)
read-digits (suc most) n l = go (ltb n 10) refl (read-digits most (n / 10))
  where
    go : (t : Bool) → ltb n 10 ≡ t → (n / 10 < most → read_from 0 (digits_in most (n / 10)) ≡ n / 10)
        → read_from 0 (elim t [ true ↦ (48 + n) ∷ [] | false ↦ digits_in most (n / 10) ++ ((48 + n % 10) ∷ []) ]) ≡ n
    go true e h = omega arith
    go false e h =
        let ten : 10 ≤ n = ltb-false n 10 e in
        let r = h (omega arith) in
        omega (arith, read-last 0 (digits_in most (n / 10)) (48 + n % 10), r)

-- numbers that are written alike are the same
pub decimal-same : (k n : ℕ) → decimal k ≡ decimal n → k ≡ n
unfolding decimal
decimal-same k n e =
    sym (read-digits (suc k) k (omega arith)) ∙ ap (read_from 0) e ∙ read-digits (suc n) n (omega arith)
