-- Rows with the legs of a net, entry by entry, and how many there are beside those of other nets.
use Prim.Native.Nat.{ℕ, ◌+◌, ◌≤◌}
use native.Mathlib.Omega.{arith}
use native.Mathlib.Nat.{zero-add}
use native.Mathlib.Numerals.{add-one}
use mathlib.Core.Path.{◌≡◌, refl, sym, ap, ◌∙◌, subst}
use mathlib.Core.Bool.{Bool, not}
use mathlib.Core.List.{List, [], ◌∷◌, ◌++◌, map, append-nil}
use lib.ListN.{length, length-append, length-map}
use borrow.Author.Tests.{eq-eqb, ne_eqb}
use Rattle.foil_spec.specs.Lists.{range, keep}
use Rattle.foil_spec.specs.Limits.{max_entries, table_size}
use Rattle.foil_spec.specs.Foil.{Entry}
use Rattle.foil_spec.specs.Nets.{of_net, legs_of}
use Rattle.foil_spec.specs.Lent.{entry_at}
use Rattle.list_laws.proofs.Tests.{both}
use Rattle.list_laws.proofs.Members.{keep_append, map_last, length-range}
use Rattle.tables.specs.Rows.{rows_of, Appended, other_nets, Kept}
use Rattle.tables.proofs.Filling.{length-rows}
use Rattle.joining.specs.Sought.{Own}

-- the net's legs of the first k entries
abbrev legs_in : ℕ → List ℕ → ℕ → List Entry
legs_in net t k = legs_of net (map (entry_at t) (range 0 k))

module _ (t : List ℕ) (net k : ℕ) where
  one_more : legs_in net t (k + 1) ≡ legs_in net t k ++ legs_of net (entry_at t k ∷ [])
  unfolding legs_of
  one_more =
      ap (λ (n : ℕ). keep (of_net net) (map (entry_at t) (range 0 n))) (add-one k)
      ∙ ap (keep (of_net net)) (map_last (entry_at t) 0 k)
      ∙ keep_append (of_net net) (map (entry_at t) (range 0 k)) (entry_at t (0 + k) ∷ [])
      ∙ ap (λ (n : ℕ). keep (of_net net) (map (entry_at t) (range 0 k)) ++ keep (of_net net) (entry_at t n ∷ []))
      (zero-add k)

  other : ((entry_at t k).net ≡ net → ⊥) → legs_in net t (k + 1) ≡ legs_in net t k
  unfolding of_net legs_of
  other n = one_more ∙ rw (ne_eqb (entry_at t k).net net n) (append-nil (legs_in net t k))

  own : (entry_at t k).net ≡ net → legs_in net t (k + 1) ≡ legs_in net t k ++ entry_at t k ∷ []
  unfolding of_net legs_of
  own e = one_more ∙ rw (eq-eqb (entry_at t k).net net e) refl

  -- e is the entry at place k
  module _ (e : Entry) (at : e ≡ entry_at t k) (rows : List ℕ) (j : ℕ) (o : Own rows t net k j) where
    net-is : e.net ≡ (entry_at t k).net
    net-is = ap (λ (x : Entry). x.net) at

    pub own-skip : (e.net ≡ net → ⊥) → Own rows t net (k + 1) j
    own-skip n =
        let s = other (λ q. n (net-is ∙ q)) in
        record {
          is = o.is ∙ ap rows_of (sym s);
          counted = o.counted ∙ ap (λ (es : List Entry). length es) (sym s);
          few = omega (arith, o.few);
        }

    pub own-more : (rows' : List ℕ) → e.net ≡ net → Appended rows rows' j e → Own rows' t net (k + 1) (j + 1)
    own-more rows' q a =
        let s = own (sym net-is ∙ q) in
        record {
          is =
              a.rows (legs_in net t k) (sym o.counted) o.is
              ∙ ap rows_of (ap (λ (x : Entry). legs_in net t k ++ x ∷ []) at ∙ sym s);
          counted =
              let q = length-append (legs_in net t k) (entry_at t k ∷ []) in
              omega (arith, o.counted, ap (λ (es : List Entry). length es) s, q);
          few = omega (arith, o.few);
        }

pub own-none : (rows t : List ℕ) (net : ℕ) → rows ≡ rows_of [] → Own rows t net 0 0
unfolding legs_of
own-none rows t net e = record { is = e; counted = refl; few = omega arith }

pub own-long : (rows t : List ℕ) (net k j : ℕ) → k ≤ max_entries → Own rows t net k j → table_size ≡ length rows
own-long rows t net k j l o =
    let c = o.counted in
    let f = o.few in
    length-rows (legs_in net t k) (omega arith) ∙ ap length (sym o.is)

pub own-done : (rows t : List ℕ) (net n k j : ℕ) → n ≤ k → k ≤ n → Own rows t net k j → Own rows t net n j
own-done rows t net n k j a b o =
    let e : k ≡ n = omega arith in
    subst (λ (i : ℕ). Own rows t net i j) e o

-- each entry is of the net or of another
split : (p : Entry → Bool) (es : List Entry)
    → length (keep p es) + length (keep (λ (e : Entry). not (p e)) es) ≡ length es
split p [] = refl
split p (e ∷ es) =
    let h = split p es in
    both (p e) (λ t. rw t (omega arith)) (λ t. rw t (omega arith))

pub both-count : {rows rows' t : List ℕ} {net n j k : ℕ} → Kept rows t net n j → Own rows' t net n k → j + k ≡ n
unfolding other_nets legs_of
both-count {rows} {rows'} {t} {net} {n} {j} {k} K O =
    let s = split (of_net net) (map (entry_at t) (range 0 n)) in
    let l = length-map (range 0 n) (entry_at t) in
    omega (arith, K.counted, O.counted, s, l, length-range 0 n)
