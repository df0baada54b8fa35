-- The foils' numbers of entries: their sums and their limits.
use Prim.Native.Nat.{ℕ, zero, suc, ◌+◌, ◌*◌, ◌≤◌, ◌<◌}
use native.Mathlib.Omega.{arith}
use mathlib.Core.Path.{◌≡◌, refl, ap, ◌∙◌}
use mathlib.Core.Bool.{Bool, true, ◌&&◌}
use mathlib.Core.List.{List, [], ◌∷◌}
use lib.Dec.{leb}
use lib.ListN.{length, get_or, take, drop}
use borrow.Author.Tests.{leb-true}
use Rattle.std.specs.List.{sum, list_all}
use Rattle.std.proofs.lemmas.List.Sums.{sum_by-cons}
use Rattle.foil_spec.specs.Lists.{all}
use Rattle.foil_spec.specs.Limits.{max_entries, sheet_size}
use Rattle.foil_spec.specs.Sheet.{total, reserved, each_few, counts_ok}
use Rattle.list_laws.proofs.Tests.{and_l, and_r}
use Rattle.sheet_laws.specs.Places.{start_of}
use Rattle.sheet_laws.proofs.Counts.{ok-total}

-- ---- sums

pub total-take : (ns : List ℕ) (k : ℕ) → k < length ns → total (take (suc k) ns) ≡ total (take k ns) + get_or ns k 0
unfolding total
total-take [] k l = absurd (omega arith)
total-take (n ∷ ns) zero l = omega arith
total-take (n ∷ ns) (suc k) l = omega (arith, total-take ns k (omega arith))

pub total-split : (ns : List ℕ) (k : ℕ) → total ns ≡ total (take k ns) + total (drop k ns)
unfolding total
total-split [] zero = refl
total-split [] (suc k) = refl
total-split (n ∷ ns) zero = omega arith
total-split (n ∷ ns) (suc k) = omega (arith, total-split ns k)

-- std's sum is the total
pub sum-total : (ns : List ℕ) → sum ns ≡ total ns
unfolding total
sum-total [] = refl
sum-total (n ∷ ns) = sum_by-cons (λ (x : ℕ). x) n ns ∙ ap (λ (m : ℕ). n + m) (sum-total ns)

-- ---- the limits

-- std's test of each number is that of the definitions
pub all-tests : (p : ℕ → Bool) (ns : List ℕ) → list_all p ns ≡ all p ns
all-tests p [] = refl
all-tests p (n ∷ ns) = ap (λ (b : Bool). p n && b) (all-tests p ns)

pub reserved-most : (ns : List ℕ) → each_few ns ≡ true → reserved ns ≤ max_entries * length ns
unfolding reserved total each_few
reserved-most [] h = omega arith
reserved-most (n ∷ ns) h =
    omega (
      arith,
      leb-true n max_entries (and_l (leb n max_entries) (each_few ns) h),
      reserved-most ns (and_r (leb n max_entries) (each_few ns) h),
    )

-- ---- where a foil begins

pub start_small : (ns : List ℕ) (k : ℕ) → counts_ok ns ≡ true → start_of ns k ≤ sheet_size
unfolding start_of
start_small ns k ok = omega (arith, total-split ns k, ok-total ns ok)
