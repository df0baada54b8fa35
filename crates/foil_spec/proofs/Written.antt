-- A list as `written` leaves it: the numbers in front, then zeros, then what stood there.
use Prim.Native.Nat.{ℕ, zero, suc, ◌+◌, ◌-◌, ◌≤◌, ◌<◌}
use native.Mathlib.Nat.{zero-add, suc-add, le_of_suc-le-suc, not-suc-le-zero}
use native.Mathlib.Omega.{arith}
use mathlib.Core.Path.{◌≡◌, refl, sym, ap, ◌∙◌}
use mathlib.Core.List.{List, [], ◌∷◌, ◌++◌, append_assoc}
use lib.ListN.{length, get_or, take, drop, replicate, length-append, length-replicate, length-drop, take-append-drop}
use lib.ListN.{get_or-append}
use lib.Seq.{drop-drop, take-nil, drop_at, take-append-add, get_or-append-add}
use Rattle.foil_spec.specs.Lent.{written}

drop-take : (n k : ℕ) (l : List ℕ) → n ≤ k → drop n (take k l) ++ drop k l ≡ drop n l
drop-take zero k l h = take-append-drop k l
drop-take (suc n) zero l h = absurd (not-suc-le-zero h)
drop-take (suc n) (suc k) [] h = refl
drop-take (suc n) (suc k) (x ∷ l) h = drop-take n k l (le_of_suc-le-suc h)

take-drop : (n k : ℕ) (l : List ℕ) → take k (drop n l) ≡ drop n (take (n + k) l)
take-drop zero k l = rw zero-add refl
take-drop (suc n) k [] = rw (suc-add, take-nil k) refl
take-drop (suc n) k (x ∷ l) = rw suc-add (take-drop n k l)

get_d-zeros : (n i : ℕ) → get_or {A = ℕ} (replicate n 0) i 0 ≡ 0
get_d-zeros zero i = refl
get_d-zeros (suc n) zero = refl
get_d-zeros (suc n) (suc i) = get_d-zeros n i

head-length : (n : ℕ) (ns : List ℕ) → length ns ≤ n → length (ns ++ replicate (n - length ns) 0) ≡ n
head-length n ns h = simp (length-append, length-replicate) (omega arith)

module _ (n : ℕ) (ns old : List ℕ) (short : length ns ≤ n) where
  -- nothing stale is left between the numbers and the first n
  pub written-zero : (i : ℕ) → length ns + i < n → get_or (written n ns old) (length ns + i) 0 ≡ 0
  unfolding written
  written-zero i h =
      get_or-append-add ns (replicate (n - length ns) 0 ++ drop n old) i 0
      ∙ get_or-append (replicate (n - length ns) 0) (drop n old) 0 i (simp length-replicate (omega arith))
      ∙ get_d-zeros (n - length ns) i

  pub length-written : n ≤ length old → length (written n ns old) ≡ length old
  unfolding written
  length-written h = simp (length-append, length-replicate, length-drop) (omega arith)

  -- what stood past the first n numbers still stands there
  pub drop-written : drop n (written n ns old) ≡ drop n old
  unfolding written
  drop-written =
      rw (← append_assoc) (drop_at (ns ++ replicate (n - length ns) 0) (drop n old) n (head-length n ns short))

  pub written-again : (ms : List ℕ) → written n ms (written n ns old) ≡ written n ms old
  unfolding written
  written-again ms = ap (λ (l : List ℕ). ms ++ (replicate (n - length ms) 0 ++ l)) drop-written

  -- a front part of a written list is the front part, written
  pub take-written : (k : ℕ) → n ≤ k → take k (written n ns old) ≡ written n ns (take k old)
  unfolding written
  take-written k h =
      rw (← append_assoc)
      (ap (λ (j : ℕ). take j ((ns ++ replicate (n - length ns) 0) ++ drop n old)) (here k h)
      ∙ take-append-add (ns ++ replicate (n - length ns) 0) (drop n old) (k - n)
      ∙ append_assoc ns (replicate (n - length ns) 0) (take (k - n) (drop n old))
      ∙ ap (λ (l : List ℕ). ns ++ (replicate (n - length ns) 0 ++ l))
      (take-drop n (k - n) old ∙ ap (λ (j : ℕ). drop n (take j old)) (there k h)))
    where
      here : (k : ℕ) → n ≤ k → k ≡ length (ns ++ replicate (n - length ns) 0) + (k - n)
      here k h = omega (arith, head-length n ns short)

      there : (k : ℕ) → n ≤ k → n + (k - n) ≡ k
      there k h = omega arith

  -- the front part, written, and the rest are the whole list, written
  pub written_back : (k : ℕ) → n ≤ k → written n ns (take k old) ++ drop k old ≡ written n ns old
  unfolding written
  written_back k h =
      simp append_assoc (ap (λ (l : List ℕ). ns ++ (replicate (n - length ns) 0 ++ l)) (drop-take n k old h))

  pub drop_past : (k : ℕ) → n ≤ k → drop k (written n ns old) ≡ drop k old
  drop_past k le =
      let e : n + (k - n) ≡ k = omega arith in
      ap (λ (j : ℕ). drop j (written n ns old)) (sym e)
      ∙ sym (drop-drop (k - n) n (written n ns old))
      ∙ ap (λ (l : List ℕ). drop (k - n) l) drop-written
      ∙ drop-drop (k - n) n old
      ∙ ap (λ (j : ℕ). drop j old) e
