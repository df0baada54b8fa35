-- The legs of a path, appended one by one: after j of them the rows have those between the first j + 1 corners.
use Prim.Native.Nat.{ℕ, zero, suc, ◌+◌, ◌≤◌, ◌<◌, min, max}
use native.Mathlib.Omega.{arith}
use native.Mathlib.Nat.{zero-add}
use native.Mathlib.Numerals.{add-one}
use mathlib.Core.Path.{◌≡◌, refl, sym, ap, ◌∙◌, subst}
use mathlib.Core.List.{List, [], ◌∷◌, ◌++◌, map, append_assoc, append-nil}
use lib.ListN.{length, length-append, length-map}
use Rattle.foil_spec.specs.Lists.{range}
use Rattle.foil_spec.specs.Limits.{max_entries, table_size}
use Rattle.foil_spec.specs.Foil.{Point, Entry, entry}
use Rattle.foil_spec.specs.Ledger.{leg, legs_from, legs}
use Rattle.foil_spec.specs.Corners.{corner_at, corners_in}
use Rattle.list_laws.proofs.Members.{map_last, length-range}
use Rattle.tables.specs.Rows.{rows_of, Appended}
use Rattle.tables.specs.Legs.{Legs}

-- the legs between neighbouring corners, g being the corner at a place
module _ (net : ℕ) (g : ℕ → Point) where
  abbrev between : ℕ → Entry
  between i = leg net (g i) (g (suc i))

  legs-from : (a n : ℕ) → legs_from net (g a) (map g (range (suc a) n)) ≡ map between (range a n)
  unfolding legs_from
  legs-from a zero = refl
  legs-from a (suc n) = ap (λ (es : List Entry). between a ∷ es) (legs-from (suc a) n)

  legs-are : (k : ℕ) → legs net (map g (range 0 (suc (suc k)))) ≡ map between (range 0 (suc k))
  unfolding legs
  legs-are k = legs-from 0 (suc k)

-- the rows after j legs of a path of k corners
pub record Going (old new : List ℕ) (n net : ℕ) (p : List ℕ) (k j : ℕ) : Type 0 where
  pub le : j + 1 ≤ k
  pub long : table_size ≡ length new
  pub rows : (es : List Entry) → length es ≡ n → old ≡ rows_of es
      → new ≡ rows_of (es ++ map (λ (i : ℕ). leg net (corner_at p i) (corner_at p (suc i))) (range 0 j))

module _ (old : List ℕ) (n net : ℕ) (p : List ℕ) (k : ℕ) where
  abbrev step : ℕ → Entry
  step i = leg net (corner_at p i) (corner_at p (suc i))

  pub going-none : 1 ≤ k → table_size ≡ length old → Going old old n net p k 0
  going-none l len =
      record {
        le = omega arith;
        long = len;
        rows = λ es c e. e ∙ ap rows_of (sym (append-nil es));
      }

  pub going_more : (new new' : List ℕ) (j : ℕ) → j + 1 < k → Going old new n net p k j
      → Appended new new' (n + j) (leg net (corner_at p j) (corner_at p (j + 1))) → Going old new' n net p k (j + 1)
  going_more new new' j l g a =
      record {
        le = omega arith;
        long = a.long;
        rows = λ es c e.
            let ds : List Entry = map step (range 0 j) in
            let q : length (es ++ ds) ≡ n + j =
            length-append es ds ∙ omega (arith, c, length-map (range 0 j) step, length-range 0 j) in
            a.rows (es ++ ds) q (g.rows es c e)
            ∙ ap rows_of
            (append_assoc es ds (leg net (corner_at p j) (corner_at p (j + 1)) ∷ [])
            ∙ ap (λ (x : List Entry). es ++ x)
            (ap (λ (i : ℕ). ds ++ leg net (corner_at p j) (corner_at p i) ∷ []) (add-one j)
            ∙ ap (λ (i : ℕ). ds ++ leg net (corner_at p i) (corner_at p (suc i)) ∷ []) (sym (zero-add j))
            ∙ sym (map_last step 0 j)
            ∙ ap (λ (i : ℕ). map step (range 0 i)) (sym (add-one j))));
      }

  pub going-all : (new : List ℕ) (j : ℕ) → 2 ≤ k → k ≤ j + 1 → n + k ≤ suc max_entries → Going old new n net p k j
      → Legs old new n net p k (n + j)
  unfolding corners_in
  going-all new j two l fits g = done j g.le l g
    where
      done : (i : ℕ) → i + 1 ≤ k → k ≤ i + 1 → Going old new n net p k i → Legs old new n net p k (n + i)
      done zero a b h = absurd (omega arith)
      done (suc i) a b h =
          let e : suc (suc i) ≡ k = omega arith in
          let is : legs net (corners_in p k) ≡ map step (range 0 (suc i)) =
          ap (λ (x : ℕ). legs net (corners_in p x)) (sym e) ∙ legs-are net (corner_at p) i in
          record {
            rows = λ es c q. h.rows es c q ∙ ap (λ (x : List Entry). rows_of (es ++ x)) (sym is);
            counted =
                let a = length-map (range 0 (suc i)) step in
                omega (arith, ap (λ (x : List Entry). length x) is, a, length-range 0 (suc i));
            few = omega arith;
          }

-- one corner: one entry of a single point
pub single : (old new : List ℕ) (n net : ℕ) (p : List ℕ) (k : ℕ) → k ≡ 1 → n < max_entries
    → Appended old new n (leg net (corner_at p 0) (corner_at p 0)) → Legs old new n net p k (n + 1)
unfolding legs corners_in
single old new n net p k e l a =
    rw e (record { rows = λ es c q. a.rows es c q; counted = refl; few = omega arith })

-- a leg from the smaller and the larger ends of two corners a and b
pub leg-appended : (old new : List ℕ) (n net : ℕ) (p q a b : Point) (x0 y0 x1 y1 : ℕ) → a ≡ p → b ≡ q
    → x0 ≡ min a.x b.x → y0 ≡ min a.y b.y → x1 ≡ max a.x b.x → y1 ≡ max a.y b.y
    → Appended old new n (entry net x0 y0 (x1 + 1) (y1 + 1)) → Appended old new n (leg net p q)
unfolding leg
leg-appended old new n net p q a b x0 y0 x1 y1 ap bq left top right bottom h =
    let e : x1 + 1 ≡ suc (max a.x b.x) = omega arith in
    let f : y1 + 1 ≡ suc (max a.y b.y) = omega arith in
    subst (λ (r : Point). Appended old new n (leg net p r)) bq
    (subst (λ (r : Point). Appended old new n (leg net r b)) ap
    (subst (λ (x : Entry). Appended old new n x) (λ k. entry net (left k) (top k) (e k) (f k)) h))
