-- Ohms that are answered are finite: each of the four operations gets figures that are bounded and not below 0, and
-- gives such a one.
use Prim.Native.Nat.{ℕ, suc, ◌+◌, ◌-◌, ◌*◌, ◌^◌, ◌≤◌, ◌<◌}
use native.Mathlib.Omega.{arith}
use native.Mathlib.Nat.{mul_assoc, mul_comm, mul_right_comm, mul-mul-mul_comm, mul-one, zero-mul, mul-zero, add-mul}
use native.Mathlib.Nat.{mul-pos, mul-le-mul, mul-le-mul_right, le_of_mul-le-mul_right}
use mathlib.Core.Path.{◌≡◌, refl, sym, ap, ◌∙◌, subst}
use mathlib.Core.Bool.{Bool, true, false, ◌&&◌, ◌||◌, cond, beq, true≢false, false≢true}
use lib.Dec.{T, ltb, eqb, ltb→lt, eqb→eq}
use lib.IntN.{ℤ, pos}
use lib.Ieee.{Float, nan, inf, fin, binary64, prec, emax, low, up, down, odd, units, round, sum}
use lib.Ieee.{unlike, of_int, add, mul, div, le}
use lib.Ieee.Exact.{HasValue, odd_sign}
use lib.Ieee.Fits.{round_is, up_pos, down_pos}
use lib.Ieee.Scale.{round_same, finite}
use lib.Ieee.Order.{round_mono}
use lib.Ieee.Positive.{above_of_le, le→cross, first_pos}
use lib.Ieee.Back.{round_whole}
use borrow.Author.Tests.{ne_eqb}
use Rattle.foil_spec.specs.Ledger.{Room}
use Rattle.foil_spec.specs.Lent.{Lent, held}
use Rattle.foil_spec.specs.Nets.{net_length, net_bends}
use Rattle.foil_spec.specs.Ohms.{whole, resistance_ok, width_ok, bend_ok, ink_ok, formula, ohms_of}
use Rattle.foil_spec.specs.declared.Ink.{Ink}
use Rattle.list_laws.proofs.Tests.{clash, parts, and_l}
use Rattle.ohms.specs.Finite.{FiniteOhms}
use Rattle.ohms.proofs.Figures.{whole-value, sheet-sign, bend-sign}
use Rattle.ohms.proofs.Accepted.{Unrefused, answered-so, ink, length_most, bends-most}

-- finite, n at most, and below 0 as −0 only
abbrev UpTo : Float → ℕ → Type 0
UpTo nan n = ⊥
UpTo (inf s) n = ⊥
UpTo (fin s m e) n = (m * up e ≤ n * down e) × (s ≡ true → m * up e ≡ 0)

-- all whole numbers up to this one are f64s
abbrev most : ℕ
most = 9007199254740992

-- ---- what is no more than a whole number

le-or-eq : (a b : ℕ) (c : Bool) → T (ltb a b || (eqb a b && c)) → a ≤ b
le-or-eq a b c = go (ltb a b) (eqb a b) (ltb→lt a b) (eqb→eq a b)
  where
    go : (p q : Bool) → (T p → a < b) → (T q → a ≡ b) → T (p || (q && c)) → a ≤ b
    go true q l e t = let k = l tt in omega arith
    go false true l e t = let k = e tt in omega arith
    go false false l e t = absurd t

-- M / E is k / d at most, which is n
under : (M E k d n : ℕ) → 0 < d → k * 1 ≡ n * d → M * d ≤ k * E → M ≤ n * E
under M E k d n D is l =
    le_of_mul-le-mul_right
    (subst (λ (x : ℕ). M * d ≤ x)
    (ap (λ (x : ℕ). x * E) (sym (mul-one k) ∙ is) ∙ mul_right_comm n d E) l)
    D

below : (x y : Float) (n : ℕ) → HasValue y false n 1 → T (finite x) → T (le x y)
    → ((s : Bool) (a c : ℕ) → HasValue x s a c → s ≡ true → a ≡ 0) → UpTo x n
unfolding le
below nan y n v f l z = f
below (inf s) y n v f l z = f
below (fin s m e) nan n v f l z = absurd v
below (fin s m e) (inf t) n v f l z = absurd v
below (fin s m e) (fin true k d) n v f l z = absurd (true≢false v.0)
below (fin true m e) (fin false k d) n v f l z =
    let o : m * up e ≡ 0 = z true (m * up e) (down e) (refl, refl) refl in
    (omega arith, λ q. o)
below (fin false m e) (fin false k d) n v f l z = (
  under (m * up e) (down e) (k * up d) (down d) n (down_pos d) v.1
      (le-or-eq (m * up e * down d) (k * up d * down e) true l),
  z false (m * up e) (down e) (refl, refl),
)

-- ---- what is rounded

plain : (x : Float) (a c : ℕ) → HasValue x false a c
    → (s : Bool) (b d : ℕ) → HasValue x s b d → s ≡ true → b ≡ 0
plain nan a c v s b d w q = absurd v
plain (inf t) a c v s b d w q = absurd v
plain (fin t m e) a c v s b d w q = absurd (false≢true (sym v.0 ∙ w.0 ∙ q))

no-infinity : (y : Float) (n : ℕ) → HasValue y false n 1 → T (le (inf false) y) → ⊥
unfolding le
no-infinity nan n v l = v
no-infinity (inf t) n v l = v
no-infinity (fin t k d) n v l = l

of-value : (x : Float) (a c : ℕ) → HasValue x false a c → T (finite x)
of-value nan a c v = v
of-value (inf s) a c v = v
of-value (fin s m e) a c v = tt

module _ (q k n : ℕ) (y : Float) (v : HasValue y false n 1) where
  units-up : T (le (units binary64 false q k) y) → UpTo (units binary64 false q k) n
  unfolding units
  units-up = go (ltb (q * 2 ^ k) (2 ^ (low binary64 + suc (emax binary64))))
    where
      number : Float
      number = odd (suc (prec binary64)) false q k (low binary64)

      value : HasValue number false (q * 2 ^ k) (2 ^ low binary64)
      value = odd_sign (suc (prec binary64)) false q k (low binary64)

      go : (b : Bool) → T (le (cond b number (inf false)) y) → UpTo (cond b number (inf false)) n
      go true l = below number y n v (of-value number _ _ value) l (plain number _ _ value)
      go false l = absurd (no-infinity y n v l)

module _ (a c n : ℕ) (c_pos : 0 < c) (few : n ≤ most) where
  round_up : a ≤ n * c → UpTo (round binary64 false a c) n
  round_up l =
      subst (λ (x : Float). UpTo x n) (sym (round_is binary64 false a c))
      (units-up _ _ n (round binary64 false n 1) (round_whole binary64 false n few)
      (subst (λ (x : Float). T (le x (round binary64 false n 1))) (round_is binary64 false a c)
      (round_mono binary64 a c n 1 c_pos (omega arith) (subst (λ (x : ℕ). x ≤ n * c) (sym (mul-one a)) l))))

  -- −0, where the sign is −
  signed : (s : Bool) → a ≤ n * c → (s ≡ true → a ≡ 0) → UpTo (round binary64 s a c) n
  signed false l z = round_up l
  signed true l z =
      subst (λ (x : Float). UpTo x n)
      (sym
      (ap (λ (k : ℕ). round binary64 true k c) (z refl)
      ∙ round_same binary64 true 0 c 0 1 c_pos (omega arith) (sym (zero-mul c))))
      (nothing (round binary64 true 0 1) (round_whole binary64 true 0 (omega arith)))
    where
      nothing : (x : Float) → HasValue x true 0 1 → UpTo x n
      nothing nan v = v
      nothing (inf t) v = v
      nothing (fin t m e) v =
          let o : m * up e ≡ 0 = sym (mul-one (m * up e)) ∙ v.1 ∙ zero-mul (down e) in
          (omega arith, λ q. o)

-- ---- the operations

-- one of two factors is 0
one-nothing : (s t : Bool) (A B : ℕ) → (s ≡ true → A ≡ 0) → (t ≡ true → B ≡ 0) → unlike s t ≡ true → A * B ≡ 0
one-nothing true t A B p q u = ap (λ (k : ℕ). k * B) (p refl) ∙ zero-mul B
one-nothing false true A B p q u = ap (λ (k : ℕ). A * k) (q refl) ∙ mul-zero A
one-nothing false false A B p q u = absurd (false≢true u)

mul-up : (x y : Float) (m n : ℕ) → m * n ≤ most → UpTo x m → UpTo y n → UpTo (mul binary64 x y) (m * n)
unfolding mul
mul-up nan y m n few p q = p
mul-up (inf s) y m n few p q = absurd p
mul-up (fin s a e) nan m n few p q = q
mul-up (fin s a e) (inf t) m n few p q = absurd q
mul-up (fin s a e) (fin t b d) m n few p q =
    signed (a * up e * (b * up d)) (down e * down d) (m * n) (mul-pos (down_pos e) (down_pos d)) few (unlike s t)
    (subst (λ (k : ℕ). a * up e * (b * up d) ≤ k) (mul-mul-mul_comm m (down e) n (down d)) (mul-le-mul p.0 q.0))
    (one-nothing s t (a * up e) (b * up d) p.1 q.1)

alike : (s t : Bool) → beq s t ≡ true → s ≡ true → t ≡ true
alike true true e q = refl
alike true false e q = e
alike false t e q = absurd (false≢true q)

module _ (s t : Bool) (A B c m n : ℕ) (c_pos : 0 < c) (few : m + n ≤ most) (l : A ≤ m * c) (k : B ≤ n * c)
    (p : s ≡ true → A ≡ 0) (q : t ≡ true → B ≡ 0) where
  bound : A + B ≤ (m + n) * c
  bound = omega (arith, add-mul m n c)

  sum-up : UpTo (sum binary64 s A t B c) (m + n)
  unfolding sum
  sum-up = go (beq s t) refl (ltb A B)
    where
      go : (same : Bool) → beq s t ≡ same → (less : Bool)
          → UpTo
          (cond same (round binary64 s (A + B) c)
          (cond less (round binary64 t (B - A) c) (round binary64 (s && ltb B A) (A - B) c))) (m + n)
      go true is less =
          signed (A + B) c (m + n) c_pos few s bound (λ z. omega (arith, p z, q (alike s t is z)))
      go false is true =
          signed (B - A) c (m + n) c_pos few t (omega (arith, bound)) (λ z. omega (arith, q z))
      go false is false =
          signed (A - B) c (m + n) c_pos few (s && ltb B A) (omega (arith, bound))
          (λ z. omega (arith, p (and_l s (ltb B A) z)))

add-up : (x y : Float) (m n : ℕ) → m + n ≤ most → UpTo x m → UpTo y n → UpTo (add binary64 x y) (m + n)
unfolding add
add-up nan y m n few p q = p
add-up (inf s) y m n few p q = absurd p
add-up (fin s a e) nan m n few p q = q
add-up (fin s a e) (inf t) m n few p q = q
add-up (fin s a e) (fin t b d) m n few p q =
    sum-up s t (a * up e * down d) (b * up d * down e) (down e * down d) m n (mul-pos (down_pos e) (down_pos d)) few
    (subst (λ (k : ℕ). a * up e * down d ≤ k) (mul_assoc m (down e) (down d)) (mul-le-mul_right (down d) p.0))
    (subst (λ (k : ℕ). b * up d * down e ≤ k)
    (mul_assoc n (down d) (down e) ∙ ap (λ (k : ℕ). n * k) (mul_comm (down d) (down e)))
    (mul-le-mul_right (down e) q.0))
    (λ z. ap (λ (k : ℕ). k * down d) (p.1 z) ∙ zero-mul (down d))
    (λ z. ap (λ (k : ℕ). k * down e) (q.1 z) ∙ zero-mul (down e))

-- by 1 at least
module _ (b : ℕ) (d : ℤ) (one : down d ≤ b * up d) where
  b-pos : 0 < b
  b-pos = first_pos b (up d) (let k = down_pos d in omega (arith, one))

  div-up : (x : Float) (m : ℕ) → m ≤ most → UpTo x m → UpTo (div binary64 x (fin false b d)) m
  unfolding div
  div-up nan m few p = p
  div-up (inf s) m few p = absurd p
  div-up (fin s a e) m few p =
      rw (ne_eqb b 0 (let k = b-pos in omega arith))
      (signed (a * up e * down d) (b * up d * down e) m (mul-pos (mul-pos b-pos (up_pos d)) (down_pos e)) few
      (unlike s false)
      (subst (λ (k : ℕ). a * up e * down d ≤ k)
      (mul_assoc m (down e) (b * up d) ∙ ap (λ (k : ℕ). m * k) (mul_comm (down e) (b * up d)))
      (mul-le-mul p.0 one))
      (λ z. ap (λ (k : ℕ). k * down d) (p.1 (alike-not s z)) ∙ zero-mul (down d)))
    where
      alike-not : (s : Bool) → unlike s false ≡ true → s ≡ true
      alike-not true u = refl
      alike-not false u = u

-- ---- the three figures

whole-up : (n : ℕ) → n ≤ most → UpTo (whole n) n
unfolding whole of_int
whole-up n l = round_up n 1 n (omega arith) l (omega arith)

sheet-up : (y : Float) → resistance_ok y ≡ true → UpTo y 1000
unfolding resistance_ok
sheet-up y o =
    let f : finite y ≡ true = search parts in
    let l : le y (whole 1000) ≡ true = search parts in
    below y (whole 1000) 1000 (whole-value 1000 (omega arith)) (subst T (sym f) tt) (subst T (sym l) tt)
    (λ s a c h q. absurd (true≢false (sym q ∙ sheet-sign y s a c o h)))

bend-up : (y : Float) → bend_ok y ≡ true → UpTo y 4
unfolding bend_ok
bend-up y o =
    let f : finite y ≡ true = search parts in
    let l : le y (whole 4) ≡ true = search parts in
    below y (whole 4) 4 (whole-value 4 (omega arith)) (subst T (sym f) tt) (subst T (sym l) tt)
    (λ s a c h q. bend-sign y s a c o h q)

by_width : (x y : Float) (m : ℕ) → m ≤ most → width_ok y ≡ true → UpTo x m → UpTo (div binary64 x y) m
unfolding width_ok whole of_int
by_width x nan m few o p = clash o refl
by_width x (inf s) m few o p = clash o refl
by_width x (fin s b d) m few o p =
    let h : le (fin false 1 (pos 0)) (fin s b d) ≡ true = search parts in
    go s (subst T (sym h) tt)
  where
    go : (t : Bool) → T (le (fin false 1 (pos 0)) (fin t b d)) → UpTo (div binary64 x (fin t b d)) m
    go true l = absurd (above_of_le (fin false 1 (pos 0)) (fin true b d) tt l)
    go false l =
        let positive = above_of_le (fin false 1 (pos 0)) (fin false b d) tt l in
        let k : 1 * down d ≤ b * up d * 1 = le→cross (fin false 1 (pos 0)) (fin false b d) tt positive l in
        div-up b d (omega (arith, k)) x m few p

-- ---- the answer

formula-up : (L B : ℕ) (i : Ink) → ink_ok i ≡ true → L ≤ 1048320 → B ≤ 127 → UpTo (formula L B i) ((L + 4 * B) * 1000)
unfolding formula ink_ok
formula-up L B i o l few =
    let r : resistance_ok i.sheet ≡ true = search parts in
    let w : width_ok i.width ≡ true = search parts in
    let c : bend_ok i.bend ≡ true = search parts in
    let quotient : Float = div binary64 (whole L) i.width in
    let product : Float = mul binary64 i.bend (whole B) in
    mul-up (add binary64 quotient product) i.sheet (L + 4 * B) 1000 (omega arith)
    (add-up quotient product L (4 * B) (omega arith)
    (by_width (whole L) i.width L (omega arith) w (whole-up L (omega arith)))
    (mul-up i.bend (whole B) 4 B (omega arith) (bend-up i.bend c) (whole-up B (omega arith))))
    (sheet-up i.sheet r)

is_finite : (x : Float) (n : ℕ) → UpTo x n → finite x ≡ true
is_finite nan n u = absurd u
is_finite (inf s) n u = absurd u
is_finite (fin s m e) n u = refl

pub finite-unrefused : (r : Room) (net : ℕ) (i : Ink) (m : Lent) → Unrefused r net i m
    → finite (ohms_of net i (held m)) ≡ true
unfolding ohms_of
finite-unrefused r net i m u =
    let L = net_length net (held m) in
    let B = net_bends net (held m) in
    is_finite (formula L B i) ((L + 4 * B) * 1000)
    (formula-up L B i (ink r net i m u) (length_most r net i m u) (bends-most r net i m u))

pub finite-ohms : FiniteOhms
finite-ohms r net i m x e =
    let a = answered-so r net i m x e in
    subst (λ (y : Float). finite y ≡ true) a.1 (finite-unrefused r net i m a.0)
