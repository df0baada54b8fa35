-- What the places of a list hold after a run of stores, and an entry that was put into a table, read again.
use Prim.Native.Nat.{ℕ, zero, suc, ◌+◌, ◌*◌, ◌≤◌, ◌<◌}
use native.Mathlib.Omega.{arith}
use mathlib.Core.Path.{◌≡◌, refl, ap, ◌∙◌}
use mathlib.Core.Logic.{◌≢◌}
use mathlib.Core.List.{List, [], ◌∷◌}
use lib.ListN.{length, get_or, set, length-set}
use lib.Seq.{sets, get_or-set_same, get_or-set_other}
use Rattle.foil_spec.specs.Foil.{Entry, entry_numbers}
use Rattle.foil_spec.specs.Lent.{entry_at}

-- a place that is none of those stored to
pub elsewhere : (vs l : List ℕ) (i j : ℕ) → ((k : ℕ) → k < length vs → j ≢ i + k)
    → get_or (sets l i vs) j 0 ≡ get_or l j 0
elsewhere [] l i j far = refl
elsewhere (v ∷ vs) l i j far =
    elsewhere vs (set l i v) (suc i) j (λ k m q. far (suc k) (omega arith) (omega (arith, q)))
    ∙ get_or-set_other l i j v 0 (λ q. far 0 (omega arith) (omega (arith, q)))

-- the j-th of those stored to
pub stored_at : (vs l : List ℕ) (i j : ℕ) → i + length vs ≤ length l → j < length vs
    → get_or (sets l i vs) (i + j) 0 ≡ get_or vs j 0
stored_at [] l i j fits m = absurd (omega arith)
stored_at (v ∷ vs) l i zero fits m =
    let e : i + 0 ≡ i = omega arith in
    rw e (elsewhere vs (set l i v) (suc i) i (λ k n q. absurd (omega (arith, q)))
    ∙ get_or-set_same l i v 0 (omega arith))
stored_at (v ∷ vs) l i (suc j) fits m =
    let e : i + suc j ≡ suc i + j = omega arith in
    rw e (stored_at vs (set l i v) (suc i) j (omega (arith, length-set l i v)) (omega arith))

module _ (l : List ℕ) (k : ℕ) (e : Entry) where
  abbrev put : List ℕ
  put = sets l (k * 5) (entry_numbers e)

  -- the entry that was put
  pub entry-put : k * 5 + 5 ≤ length l → entry_at put k ≡ e
  unfolding entry_at entry_numbers
  entry-put fits =
      let at : (j : ℕ) → j < 5 → get_or put (k * 5 + j) 0 ≡ get_or (entry_numbers e) j 0 =
      λ j m. stored_at (entry_numbers e) l (k * 5) j fits m in
      let first : k * 5 ≡ k * 5 + 0 = omega arith in
      λ t. record {
        net = (ap (λ (j : ℕ). get_or put j 0) first ∙ at 0 (omega arith)) t;
        x0 = at 1 (omega arith) t;
        y0 = at 2 (omega arith) t;
        x1 = at 3 (omega arith) t;
        y1 = at 4 (omega arith) t;
      }

  -- an entry at another place
  pub entry_kept : (n : ℕ) → n ≢ k → entry_at put n ≡ entry_at l n
  unfolding entry_at entry_numbers
  entry_kept n other =
      let far : (j : ℕ) → n * 5 ≤ j → j < n * 5 + 5 → get_or put j 0 ≡ get_or l j 0 =
      λ j a b. elsewhere (entry_numbers e) l (k * 5) j (λ i m q. other (omega (arith, q, a, b, m))) in
      λ t. record {
        net = far (n * 5) (omega arith) (omega arith) t;
        x0 = far (n * 5 + 1) (omega arith) (omega arith) t;
        y0 = far (n * 5 + 2) (omega arith) (omega arith) t;
        x1 = far (n * 5 + 3) (omega arith) (omega arith) t;
        y1 = far (n * 5 + 4) (omega arith) (omega arith) t;
      }
