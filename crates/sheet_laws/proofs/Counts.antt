-- Sums of the foils' numbers of entries, and how many entries a foil may have beside the others.
use Prim.Native.Nat.{ℕ, zero, suc, ◌+◌, ◌-◌, ◌≤◌, ◌<◌, min, max}
use native.Mathlib.Omega.{arith}
use mathlib.Core.Path.{◌≡◌, sym, ap, ◌∙◌, subst}
use mathlib.Core.Bool.{true, and-true}
use mathlib.Core.List.{List, [], ◌∷◌}
use mathlib.Core.Logic.{◌≢◌}
use lib.Dec.{leb}
use lib.ListN.{length, get_or, set, length-set}
use lib.Seq.{get_or-set_same, get_or-set_other}
use borrow.Author.Tests.{leb-true, leb-false, le-leb}
use Rattle.foil_spec.specs.Limits.{max_entries, sheet_entries, sure_entries}
use Rattle.foil_spec.specs.Sheet.{total, reserved, each_few, counts_ok, limit_of}
use Rattle.list_laws.proofs.Tests.{and_l, and_r, and_i, both}

-- ---- sums

pub reserved-set : (ns : List ℕ) (k n : ℕ) → k < length ns
    → reserved (set ns k n) + max sure_entries (get_or ns k 0) ≡ reserved ns + max sure_entries n
unfolding reserved total
reserved-set [] k n l = absurd (omega arith)
reserved-set (m ∷ ns) zero n l = omega arith
reserved-set (m ∷ ns) (suc k) n l = omega (arith, reserved-set ns k n (omega arith))

pub reserved-has : (ns : List ℕ) (k : ℕ) → k < length ns → max sure_entries (get_or ns k 0) ≤ reserved ns
unfolding reserved total
reserved-has [] k l = absurd (omega arith)
reserved-has (n ∷ ns) zero l = omega arith
reserved-has (n ∷ ns) (suc k) l = omega (arith, reserved-has ns k (omega arith))

total-reserved : (ns : List ℕ) → total ns ≤ reserved ns
unfolding reserved total
total-reserved [] = omega arith
total-reserved (n ∷ ns) = omega (arith, total-reserved ns)

-- ---- the limit of 128 entries a foil

pub few-at : (ns : List ℕ) (k : ℕ) → each_few ns ≡ true → k < length ns → get_or ns k 0 ≤ max_entries
unfolding each_few
few-at [] k h l = absurd (omega arith)
few-at (n ∷ ns) zero h l = leb-true n max_entries (and_l (leb n max_entries) (each_few ns) h)
few-at (n ∷ ns) (suc k) h l = few-at ns k (and_r (leb n max_entries) (each_few ns) h) (omega arith)

few-set : (ns : List ℕ) (k n : ℕ) → each_few ns ≡ true → k < length ns → each_few (set ns k n) ≡ leb n max_entries
unfolding each_few
few-set [] k n h l = absurd (omega arith)
few-set (m ∷ ns) zero n h l = rw (and_r (leb m max_entries) (each_few ns) h) (and-true (leb n max_entries))
few-set (m ∷ ns) (suc k) n h l =
    rw (and_l (leb m max_entries) (each_few ns) h)
    (few-set ns k n (and_r (leb m max_entries) (each_few ns) h) (omega arith))

-- ---- both limits

module _ (ns : List ℕ) (ok : counts_ok ns ≡ true) where
  pub ok-few : each_few ns ≡ true
  unfolding counts_ok
  ok-few = and_l (each_few ns) (leb (reserved ns) sheet_entries) ok

  pub ok-reserved : reserved ns ≤ sheet_entries
  unfolding counts_ok
  ok-reserved = leb-true (reserved ns) sheet_entries (and_r (each_few ns) (leb (reserved ns) sheet_entries) ok)

  pub ok-total : total ns ≤ sheet_entries
  ok-total = omega (arith, ok-reserved, total-reserved ns)

module _ (ns : List ℕ) (ok : counts_ok ns ≡ true) (k : ℕ) (l : k < length ns) where
  pub ok_at : get_or ns k 0 ≤ max_entries
  ok_at = few-at ns k (ok-few ns ok) l

  -- a foil is sure of 32
  pub limit-sure : sure_entries ≤ limit_of ns k
  unfolding limit_of
  limit-sure = omega (arith, ok-reserved ns ok, reserved-has ns k l)

  -- and of what it has
  pub limit-own : get_or ns k 0 ≤ limit_of ns k
  unfolding limit_of
  limit-own = omega (arith, ok-reserved ns ok, reserved-has ns k l, ok_at)

  pub fits : (n : ℕ) → n ≤ limit_of ns k → counts_ok (set ns k n) ≡ true
  unfolding counts_ok limit_of
  fits n h =
      and_i (few-set ns k n (ok-few ns ok) l ∙ le-leb n max_entries (omega arith))
      (le-leb (reserved (set ns k n)) sheet_entries
      (omega (arith, ok-reserved ns ok, reserved-has ns k l, reserved-set ns k n l)))

  over : (n : ℕ) → limit_of ns k < n → counts_ok (set ns k n) ≡ true → ⊥
  unfolding limit_of
  over n m o =
      let most : n ≤ max_entries =
      leb-true n max_entries (sym (few-set ns k n (ok-few ns ok) l) ∙ ok-few (set ns k n) o) in
      omega (arith, ok-reserved (set ns k n) o, reserved-set ns k n l, reserved-has ns k l)

  -- a step fits just if it leaves foil k no more entries than its limit
  pub fits-just : (n : ℕ) → counts_ok (set ns k n) ≡ leb n (limit_of ns k)
  fits-just n =
      both (leb n (limit_of ns k))
      (λ t. fits n (leb-true n (limit_of ns k) t) ∙ sym t)
      (λ f. both (counts_ok (set ns k n)) (λ o. absurd (over n (leb-false n (limit_of ns k) f) o)) (λ o. o ∙ sym f))

-- its limit does not depend on what it has itself
less : (a b x y : ℕ) → b + x ≡ a + y → x ≤ a → b - y ≡ a - x
less a b x y e h = omega arith

pub limit-same : (ns : List ℕ) (k n : ℕ) → k < length ns → limit_of (set ns k n) k ≡ limit_of ns k
unfolding limit_of
limit-same ns k n l =
    ap (λ (i : ℕ). min max_entries (sheet_entries - i))
    (ap (λ (i : ℕ). reserved (set ns k n) - max sure_entries i) (get_or-set_same ns k n 0 l)
    ∙ less (reserved ns) (reserved (set ns k n)) (max sure_entries (get_or ns k 0)) (max sure_entries n)
    (reserved-set ns k n l) (reserved-has ns k l))

-- ---- what another foil gives up

apart : (a b own x y : ℕ) → own ≤ b → own ≤ a → b + x ≡ a + y → b - own + x ≡ a - own + y
apart a b own x y h k e = omega arith

more_left : (a b x y : ℕ) → b + x ≡ a + y → y ≤ x → a ≤ sheet_entries
    → min max_entries (sheet_entries - b) ≡ min max_entries (min max_entries (sheet_entries - a) + (x - y))
more_left a b x y e h k = omega arith

module _ (ns : List ℕ) (ok : counts_ok ns ≡ true) (j k : ℕ) (lj : j < length ns) (lk : k < length ns) (ne : k ≢ j) where
  -- it adds to the limit of foil k, up to 128, what it counted above its 32
  pub given-up : (n : ℕ) → n ≤ get_or ns j 0
      → limit_of (set ns j n) k
      ≡ min max_entries (limit_of ns k + (max sure_entries (get_or ns j 0) - max sure_entries n))
  unfolding limit_of
  given-up n h =
      let own : ℕ = max sure_entries (get_or ns k 0) in
      let same = get_or-set_other ns j k n 0 ne in
      let has : own ≤ reserved (set ns j n) =
      subst (λ (i : ℕ). max sure_entries i ≤ reserved (set ns j n)) same
      (reserved-has (set ns j n) k (omega (arith, length-set ns j n))) in
      rw same
      (more_left (reserved ns - own) (reserved (set ns j n) - own) (max sure_entries (get_or ns j 0)) (max sure_entries n)
      (apart (reserved ns) (reserved (set ns j n)) own _ _ has (reserved-has ns k lk) (reserved-set ns j n lj))
      (omega arith) (omega (arith, ok-reserved ns ok)))
