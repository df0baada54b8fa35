-- Rows with one entry more, and rows with the entries of other nets.
use Prim.Native.Nat.{ℕ, suc, ◌+◌, ◌-◌, ◌*◌, ◌≤◌, ◌<◌}
use native.Mathlib.Omega.{arith}
use native.Mathlib.Nat.{zero-add, suc-add}
use native.Mathlib.Numerals.{add-one}
use mathlib.Core.Path.{◌≡◌, refl, sym, ap, ◌∙◌, subst}
use mathlib.Core.Bool.{not}
use mathlib.Core.List.{List, [], ◌∷◌, ◌++◌, map, append_assoc, append-nil}
use lib.ListN.{length, set, drop, replicate, length-append, length-replicate}
use lib.Seq.{sets, length-sets}
use borrow.Author.Tests.{eq-eqb, ne_eqb}
use Rattle.foil_spec.specs.Lists.{range, keep, each}
use Rattle.foil_spec.specs.Limits.{max_entries, table_size}
use Rattle.foil_spec.specs.Foil.{Entry, entry_numbers}
use Rattle.foil_spec.specs.Nets.{of_net}
use Rattle.foil_spec.specs.Lent.{written, entry_at}
use Rattle.list_laws.proofs.Members.{each_append, keep_append, map_last}
use Rattle.ledger_laws.proofs.Stored.{length-entries, read_back}
use Rattle.tables.specs.Rows.{rows_of, Appended, other_nets, Kept}

set-later : (xs ys : List ℕ) (i v : ℕ) → set (xs ++ ys) (length xs + i) v ≡ xs ++ set ys i v
set-later [] ys i v = ap (λ (k : ℕ). set ys k v) (zero-add i)
set-later (x ∷ xs) ys i v =
    ap (λ (k : ℕ). set (x ∷ (xs ++ ys)) k v) (suc-add (length xs) i)
    ∙ ap (λ (l : List ℕ). x ∷ l) (set-later xs ys i v)

pub length-rows : (es : List Entry) → length es ≤ max_entries → table_size ≡ length (rows_of es)
unfolding rows_of written
length-rows es l = simp (length-append, length-replicate) (omega (arith, length-entries es))

-- zeros are rows of no entry
pub no_rows : replicate {A = ℕ} table_size 0 ≡ rows_of []
unfolding rows_of written
no_rows = refl

-- rows of some entries, read by place
pub read-rows : (rows : List ℕ) (es : List Entry) (n : ℕ) → length es ≡ n → rows ≡ rows_of es
    → map (entry_at rows) (range 0 n) ≡ es
unfolding rows_of written
read-rows rows es n count is =
    ap (λ (x : List ℕ). map (entry_at x) (range 0 n)) is
    ∙ ap (λ (k : ℕ). map (entry_at (rows_of es)) (range 0 k)) (sym count)
    ∙ read_back es (replicate (table_size - length (each entry_numbers es)) 0 ++ drop table_size [])

sets-later : (vs xs ys : List ℕ) (i : ℕ) → sets (xs ++ ys) (length xs + i) vs ≡ xs ++ sets ys i vs
sets-later [] xs ys i = refl
sets-later (v ∷ vs) xs ys i =
    let e : suc (length xs + i) ≡ length xs + suc i = omega arith in
    ap (λ (l : List ℕ). sets l (suc (length xs + i)) vs) (set-later xs ys i v)
    ∙ ap (λ (k : ℕ). sets (xs ++ set ys i v) k vs) e
    ∙ sets-later vs xs (set ys i v) (suc i)

-- ---- an entry that is put after the others

module _ (e : Entry) where
  grown : (es : List Entry) (k : ℕ) → length es < max_entries → length es * 5 ≡ k
      → sets (rows_of es) k (entry_numbers e) ≡ rows_of (es ++ e ∷ [])
  unfolding rows_of written entry_numbers
  grown es k l q =
      let ns : List ℕ = each entry_numbers es in
      let ms : List ℕ = each entry_numbers (es ++ e ∷ []) in
      let e-is : ms ≡ ns ++ entry_numbers e = each_append entry_numbers es (e ∷ []) in
      let a : length ns + 0 ≡ k = omega (arith, length-entries es) in
      let b : length ms ≡ length ns + 5 = ap length e-is ∙ length-append ns (entry_numbers e) in
      let r : ℕ = table_size - length ms in
      let c : table_size - length ns ≡ suc (suc (suc (suc (suc r)))) = omega (arith, a, b) in
      ap (λ (j : ℕ). sets (ns ++ (replicate j 0 ++ [])) k (entry_numbers e)) c
      ∙ ap (λ (j : ℕ). sets (ns ++ (0 ∷ 0 ∷ 0 ∷ 0 ∷ 0 ∷ (replicate r 0 ++ []))) j (entry_numbers e)) (sym a)
      ∙ sets-later (entry_numbers e) ns (0 ∷ 0 ∷ 0 ∷ 0 ∷ 0 ∷ (replicate r 0 ++ [])) 0
      ∙ sym (append_assoc ns (entry_numbers e) (replicate r 0 ++ []))
      ∙ ap (λ (x : List ℕ). x ++ (replicate r 0 ++ [])) (sym e-is)

  pub appended : (n : ℕ) (rows rows' : List ℕ) → n < max_entries → table_size ≡ length rows
      → rows' ≡ sets rows (n * 5) (entry_numbers e) → Appended rows rows' n e
  appended n rows rows' l long is =
      record {
        rows = λ es c r-is.
            is ∙ ap (λ (x : List ℕ). sets x (n * 5) (entry_numbers e)) r-is
            ∙ grown es (n * 5) (omega arith) (omega arith);
        long = long ∙ sym (ap length is ∙ length-sets rows (n * 5) (entry_numbers e));
      }

-- ---- the entries of other nets

module _ (net : ℕ) (t : List ℕ) (k : ℕ) where
  abbrev others : List Entry → List Entry
  others es = keep (λ (e : Entry). not (of_net net e)) es

  one_more : other_nets net t (k + 1) ≡ other_nets net t k ++ others (entry_at t k ∷ [])
  unfolding other_nets
  one_more =
      ap (λ (n : ℕ). others (map (entry_at t) (range 0 n))) (add-one k)
      ∙ ap others (map_last (entry_at t) 0 k)
      ∙ keep_append (λ (e : Entry). not (of_net net e)) (map (entry_at t) (range 0 k)) (entry_at t (0 + k) ∷ [])
      ∙ ap (λ (n : ℕ). others (map (entry_at t) (range 0 k)) ++ others (entry_at t n ∷ [])) (zero-add k)

  struck : (entry_at t k).net ≡ net → other_nets net t (k + 1) ≡ other_nets net t k
  unfolding of_net
  struck e = one_more ∙ rw (eq-eqb (entry_at t k).net net e) (append-nil (other_nets net t k))

  left : ((entry_at t k).net ≡ net → ⊥) → other_nets net t (k + 1) ≡ other_nets net t k ++ entry_at t k ∷ []
  unfolding of_net
  left n = one_more ∙ rw (ne_eqb (entry_at t k).net net n) refl

  -- e is the entry at place k
  module _ (e : Entry) (at : e ≡ entry_at t k) (rows : List ℕ) (j : ℕ) (o : Kept rows t net k j) where
    net-is : e.net ≡ (entry_at t k).net
    net-is = ap (λ (x : Entry). x.net) at

    pub kept-skip : e.net ≡ net → Kept rows t net (k + 1) j
    kept-skip q =
        let s = struck (sym net-is ∙ q) in
        record {
          is = o.is ∙ ap rows_of (sym s);
          counted = o.counted ∙ ap (λ (es : List Entry). length es) (sym s);
          few = omega (arith, o.few);
        }

    pub kept_more : (rows' : List ℕ) → (e.net ≡ net → ⊥) → Appended rows rows' j e → Kept rows' t net (k + 1) (j + 1)
    kept_more rows' n a =
        let s = left (λ q. n (net-is ∙ q)) in
        record {
          is =
              a.rows (other_nets net t k) (sym o.counted) o.is
              ∙ ap rows_of (ap (λ (x : Entry). other_nets net t k ++ x ∷ []) at ∙ sym s);
          counted =
              let q = length-append (other_nets net t k) (entry_at t k ∷ []) in
              omega (arith, o.counted, ap (λ (es : List Entry). length es) s, q);
          few = omega (arith, o.few);
        }

pub kept-none : (rows t : List ℕ) (net : ℕ) → rows ≡ rows_of [] → Kept rows t net 0 0
unfolding other_nets
kept-none rows t net e = record { is = e; counted = refl; few = omega arith }

pub kept-long : (rows t : List ℕ) (net k j : ℕ) → k ≤ max_entries → Kept rows t net k j → table_size ≡ length rows
kept-long rows t net k j l o =
    let c = o.counted in
    let f = o.few in
    length-rows (other_nets net t k) (omega arith) ∙ ap length (sym o.is)

pub kept-done : (rows t : List ℕ) (net n k j : ℕ) → n ≤ k → k ≤ n → Kept rows t net k j → Kept rows t net n j
kept-done rows t net n k j a b o =
    let e : k ≡ n = omega arith in
    subst (λ (i : ℕ). Kept rows t net i j) e o
