-- For the named figures no operation rounds: the ohms are the whole-number sum in units of 1 / 65,536.
use Prim.Native.Nat.{ℕ, ◌+◌, ◌*◌, ◌/◌, ◌≤◌, ◌<◌}
use native.Mathlib.Omega.{arith}
use native.Mathlib.Nat.{mul_assoc, mul-one, one-mul, mul-le-mul, zero-mul, div-eq_of_eq-mul_left}
use mathlib.Core.Path.{◌≡◌, refl, sym, ap, ◌∙◌, subst}
use mathlib.Core.Bool.{Bool, true, false, ◌&&◌}
use lib.Dec.{eqb, leb, ltb}
use lib.Ieee.{Float, binary64, unlike, round, add, mul, div}
use lib.Ieee.Exact.{HasValue}
use lib.Ieee.Scale.{round_same}
use borrow.Author.Tests.{eqb-true, ltb-true, leb-true}
use Rattle.foil_spec.specs.Lists.{any}
use Rattle.foil_spec.specs.Ledger.{Room}
use Rattle.foil_spec.specs.Lent.{Lent, held}
use Rattle.list_laws.proofs.Tests.{parts}
use Rattle.list_laws.proofs.Members.{of-any, of-all}
use Rattle.foil_spec.specs.Nets.{net_length, net_bends}
use Rattle.foil_spec.specs.Ohms.{whole, resistance_ok, bend_ok, ink_ok, formula, ohms_of}
use Rattle.foil_spec.specs.Calls.{ohms, measured, call_on}
use Rattle.ohms.specs.Exact.{widths, Named, squares, ExactOhms}
use Rattle.foil_spec.specs.declared.Ink.{Ink}
use Rattle.ohms.proofs.Floats.{mul_at, div-at, add_at, exact}
use Rattle.ohms.proofs.Figures.{whole-value, sheet-sign, bend-sign}
use Rattle.ohms.proofs.Accepted.{Unrefused, answered-so, ink, length_most, bends-most}

-- ---- the four operations

-- n / 256 and n / 65,536 are f64s
over-256 : (s : Bool) (n : ℕ) → n < 9007199254740992 → HasValue (round binary64 s n 256) s n 256
over-256 s n l = exact binary64 s n 8 l (omega arith)

over-65536 : (n : ℕ) → n < 9007199254740992 → HasValue (round binary64 false n 65536) false n 65536
over-65536 n l = exact binary64 false n 16 l (omega arith)

like : (s : Bool) → unlike s false ≡ s
like true = refl
like false = refl

module _ (L B w v a b : ℕ) (i : Ink) (s : Bool) (split : v * w ≡ 256) (w-pos : 0 < w) (v-most : v ≤ 256)
    (L-most : L ≤ 1048320) (B-most : B ≤ 127) (a-most : a ≤ 256) (b-most : b ≤ 4096) (zero : s ≡ true → a ≡ 0)
    (width : HasValue i.width false w 1) (bend : HasValue i.bend s a 256)
    (sheet : HasValue i.sheet false b 256) where
  quotient_is : div binary64 (whole L) i.width ≡ round binary64 false (L * v) 256
  quotient_is =
      div-at binary64 (whole L) i.width false false L 1 w 1 (omega arith) w-pos (whole-value L (omega arith)) width
      ∙ round_same binary64 false (L * 1) (1 * w) (L * v) 256 (omega arith) (omega arith)
      (ap (λ (x : ℕ). x * 256) (mul-one L) ∙ ap (λ (x : ℕ). L * x) (sym split) ∙ sym (mul_assoc L v w)
      ∙ ap (λ (x : ℕ). L * v * x) (sym (one-mul w)))

  Lv-most : L * v ≤ 268369920
  Lv-most = mul-le-mul L-most v-most

  a_b-most : a * B ≤ 32512
  a_b-most = mul-le-mul a-most B-most

  all_most : (L * v + a * B) * b ≤ 1099376361472
  all_most = mul-le-mul (let r : L * v + a * B ≤ 268402432 = omega (arith, Lv-most, a_b-most) in r) b-most

  quotient : HasValue (div binary64 (whole L) i.width) false (L * v) 256
  quotient =
      subst (λ (x : Float). HasValue x false (L * v) 256) (sym quotient_is)
      (over-256 false (L * v) (omega (arith, Lv-most)))

  product : HasValue (mul binary64 i.bend (whole B)) s (a * B) 256
  product =
      subst (λ (x : Float). HasValue x s (a * B) 256)
      (sym
      (mul_at binary64 i.bend (whole B) s false a 256 B 1 (omega arith) (omega arith) bend
      (whole-value B (omega arith))
      ∙ ap (λ (t : Bool). round binary64 t (a * B) 256) (like s)))
      (over-256 s (a * B) (omega (arith, a_b-most)))

  squares-of : HasValue (add binary64 (div binary64 (whole L) i.width) (mul binary64 i.bend (whole B))) false
      (L * v + a * B) 256
  squares-of =
      subst (λ (x : Float). HasValue x false (L * v + a * B) 256)
      (sym
      (add_at binary64 (div binary64 (whole L) i.width) (mul binary64 i.bend (whole B)) s (L * v) (a * B) 256
      (omega arith) (λ t. ap (λ (x : ℕ). x * B) (zero t) ∙ zero-mul B) quotient product))
      (over-256 false (L * v + a * B) (omega (arith, Lv-most, a_b-most)))

  pub formula-exact : HasValue (formula L B i) false ((L * v + a * B) * b) 65536
  unfolding formula
  formula-exact =
      subst (λ (x : Float). HasValue x false ((L * v + a * B) * b) 65536)
      (sym
      (mul_at binary64 (add binary64 (div binary64 (whole L) i.width) (mul binary64 i.bend (whole B)))
      i.sheet false false (L * v + a * B) 256 b 256 (omega arith) (omega arith) squares-of sheet))
      (over-65536 ((L * v + a * B) * b) (omega (arith, all_most)))

-- ---- w is 1, 2, 4 or 8

record Power (w : ℕ) : Type 0 where
  v : ℕ
  split : v * w ≡ 256
  positive : 0 < w
  most : v ≤ 256

-- 256 is a multiple of it
divides : ℕ → Bool
divides w = eqb (256 / w * w) 256 && ltb 0 w && leb (256 / w) 256

power-of : (w : ℕ) → divides w ≡ true → Power w
unfolding divides
power-of w h =
    let a : eqb (256 / w * w) 256 ≡ true = search parts in
    let b : ltb 0 w ≡ true = search parts in
    let c : leb (256 / w) 256 ≡ true = search parts in
    record {
      v = 256 / w;
      split = eqb-true (256 / w * w) 256 a;
      positive = ltb-true 0 w b;
      most = leb-true (256 / w) 256 c;
    }

by-power : (w : ℕ) → any (eqb w) widths ≡ true → Power w
unfolding widths divides
by-power w h =
    let k = of-any (eqb w) widths h in
    power-of w (ap divides (eqb-true w k.0 k.2) ∙ of-all divides k.0 widths refl k.1)

power-squares : (L w a B : ℕ) (p : Power w) → squares L w a B ≡ L * p.v + a * B
unfolding squares
power-squares L w a B p =
    ap (λ (x : ℕ). x + a * B)
    (div-eq_of_eq-mul_left p.positive (ap (λ (x : ℕ). L * x) (sym p.split) ∙ sym (mul_assoc L p.v w)))

-- ---- the answer

module _ (r : Room) (net : ℕ) (i : Ink) (m : Lent) (x : Float) (w a b : ℕ)
    (e : (call_on r (ohms net i) m).answer ≡ measured x) where
  pub ohms-exact : Named i w a b
      → HasValue x false (squares (net_length net (held m)) w a (net_bends net (held m)) * b) 65536
  unfolding ink_ok ohms_of
  ohms-exact n =
      let L = net_length net (held m) in
      let B = net_bends net (held m) in
      let p : Power w = by-power w n.one_of in
      let given = answered-so r net i m x e in
      let u : Unrefused r net i m = given.0 in
      let k = ink r net i m u in
      let o : resistance_ok i.sheet ≡ true = search parts in
      let c : bend_ok i.bend ≡ true = search parts in
      subst (λ (q : ℕ). HasValue x false (q * b) 65536) (sym (power-squares L w a B p))
      (subst (λ (y : Float). HasValue y false ((L * p.v + a * B) * b) 65536) given.1
      (formula-exact L B w p.v a b i n.bend.0 p.split p.positive p.most (length_most r net i m u)
      (bends-most r net i m u) n.bend-most n.sheet-most
      (bend-sign i.bend n.bend.0 a 256 c n.bend.1) n.width n.bend.1
      (subst (λ (s : Bool). HasValue i.sheet s b 256) (sheet-sign i.sheet n.sheet.0 b 256 o n.sheet.1)
      n.sheet.1)))

pub exact-ohms : ExactOhms
exact-ohms r net i m x w a b e n = ohms-exact r net i m x w a b e n
