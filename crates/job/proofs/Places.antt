-- Where the fields of a record lie.
use Prim.Native.Nat.{ℕ, zero, suc, ◌+◌, ◌*◌, ◌≤◌, ◌<◌}
use native.Mathlib.Omega.{arith}
use native.Mathlib.Numerals.{add-one}
use mathlib.Core.Path.{◌≡◌, refl, sym, ap, ◌∙◌}
use mathlib.Core.Bool.{Bool, true, false, cond}
use mathlib.Core.Logic.{⊎_elim}
use mathlib.Core.List.{List}
use Rattle.foil_spec.specs.Job.{map_bits, field_count, has, fields_at, record_end}
use Rattle.foil_spec.specs.Lent.{Lent}
use Rattle.list_laws.proofs.Tests.{lt-or-le}
use Rattle.job.specs.Parts.{Whole, Given, BitReady}

pub count_small : (k : ℕ) → field_count k ≤ 5
unfolding field_count
count_small zero = omega arith
count_small (suc zero) = omega arith
count_small (suc (suc zero)) = omega arith
count_small (suc (suc (suc zero))) = omega arith
count_small (suc (suc (suc (suc zero)))) = omega arith
count_small (suc (suc (suc (suc (suc zero))))) = omega arith
count_small (suc (suc (suc (suc (suc (suc k)))))) = omega arith

bytes_small : (b : Bool) (k : ℕ) → cond b (2 * field_count k) 0 ≤ 10
bytes_small true k = omega (arith, count_small k)
bytes_small false k = omega arith

module _ (bs : List ℕ) (at : ℕ) where
  pub fields-more : (k r : ℕ) → r ≡ cond (has bs at k) (2 * field_count k) 0
      → fields_at bs at k + r ≡ fields_at bs at (k + 1)
  unfolding fields_at
  fields-more k r e = rw add-one (ap (λ (x : ℕ). fields_at bs at k + x) e)

  pub fields-done : (place i k : ℕ) → place ≡ fields_at bs at i → i ≡ k → place ≡ fields_at bs at k
  fields-done place i k e f = e ∙ ap (fields_at bs at) f

  pub fields-near : (k : ℕ) → fields_at bs at k ≤ at + 1 + 10 * k
  unfolding fields_at
  fields-near zero = omega arith
  fields-near (suc k) = omega (arith, fields-near k, bytes_small (has bs at k) k)

  fields-rise : (k j : ℕ) → k ≤ j → fields_at bs at k ≤ fields_at bs at j
  unfolding fields_at
  fields-rise k zero h = let e : k ≡ 0 = omega arith in rw e (omega arith)
  fields-rise k (suc j) h =
      ⊎_elim
      (λ (l : k < suc j). omega (arith, fields-rise k j (omega arith)))
      (λ (l : suc j ≤ k). let e : k ≡ suc j = omega arith in rw e (omega arith))
      (lt-or-le k (suc j))

  -- the numbers of a bit that is set are among the bytes
  pub field-given : Whole bs at → (k i : ℕ) → k < map_bits → i < field_count k → has bs at k ≡ true → Given bs at k i
  unfolding fields_at record_end
  field-given w k i l s h =
      let g : fields_at bs at k + 2 * field_count k ≡ fields_at bs at (suc k) = rw h refl in
      record {
        begun = w.begun;
        bit = l;
        few = omega (arith, count_small k);
        there = omega (arith, fields-rise (suc k) map_bits (omega arith), w.ends);
      }

  -- so are those of the bit whose step may be run
  pub field-ready : {k : ℕ} {m : Lent} → BitReady bs at k m → (j i : ℕ) → k ≡ j → i < field_count j → Given bs at j i
  field-ready {k} {m} b j i e l =
      let q : j < map_bits = omega (arith, b.bit) in
      field-given b.whole j i q l (ap (has bs at) (sym e) ∙ b.set)
