-- What the code computes of the counts and copies in the table is what the definitions say.
use Prim.Native.Nat.{ℕ, zero, suc, ◌+◌, ◌-◌, ◌*◌, ◌≤◌, ◌<◌, max, min}
use native.Mathlib.Omega.{arith}
use native.Mathlib.Numerals.{add-one}
use mathlib.Core.Path.{◌≡◌, refl, sym, ap, ap₂, ◌∙◌}
use mathlib.Core.Bool.{true}
use mathlib.Core.List.{List, [], ◌∷◌, ◌++◌, append-nil}
use lib.ListN.{length, get_or, set, take, drop, replicate, length-drop}
use lib.Seq.{take_all, length-take-le}
use Rattle.std.proofs.lemmas.List.{drop-replicate}
use Rattle.foil_spec.specs.Limits.{max_entries, table_size, sheet_foils, sheet_entries, sheet_size, sure_entries}
use Rattle.foil_spec.specs.Lent.{lent, written}
use Rattle.foil_spec.specs.Sheet.{total, reserved, counts_ok, limit_of, counts, table_at, put_back}
use Rattle.foil_spec.specs.declared.Board.{Board}
use Rattle.tables.specs.Rows.{rows_of}
use Rattle.sheet_laws.specs.Places.{start_of, before, behind}
use Rattle.sheet_laws.specs.Alone.{EightFoils}
use Rattle.sheet_laws.proofs.Counts.{reserved-has, few-at, ok-few, ok-reserved, ok-total, fits}
use Rattle.sheet_laws.proofs.Places.{taken_out, put-back}
use Rattle.sheet_laws.proofs.Views.{counts-length}
use Rattle.sheet_rows.specs.Rows.{sheet_lent, PutBack}
use Rattle.sheet_rows.proofs.Counting.{total-take, total-split, start_small}

-- ---- the limits

module _ (ns : List ℕ) (ok : counts_ok ns ≡ true) (k : ℕ) (l : k < length ns) (sum own : ℕ) (all : sum ≡ reserved ns)
    (mine : own ≡ max sure_entries (get_or ns k 0)) where
  pub own_in : own ≤ sum
  own_in = omega (arith, reserved-has ns k l)

  pub others-fit : sum - own ≤ sheet_entries
  others-fit = omega (arith, ok-reserved ns ok)

  pub limited : min max_entries (sheet_entries - (sum - own)) ≡ limit_of ns k
  unfolding limit_of
  limited = ap₂ (λ (a b : ℕ). min max_entries (sheet_entries - (a - b))) all mine

pub limit-few : (ns : List ℕ) (k n : ℕ) → n ≤ limit_of ns k → n ≤ max_entries
unfolding limit_of
limit-few ns k n h = omega arith

-- ---- where the parts of the table lie

total-set : (ns : List ℕ) (k n : ℕ) → k < length ns → total (set ns k n) + get_or ns k 0 ≡ total ns + n
unfolding total
total-set [] k n l = absurd (omega arith)
total-set (m ∷ ns) zero n l = omega arith
total-set (m ∷ ns) (suc k) n l = omega (arith, total-set ns k n (omega arith))

module _ (ns : List ℕ) (ok : counts_ok ns ≡ true) (k : ℕ) (l : k < length ns) where
  start-next : start_of ns (suc k) ≡ start_of ns k + get_or ns k 0 * 5
  unfolding start_of
  start-next = omega (arith, total-take ns k l)

  -- foil k's part lies in the table, and in rows of its own
  pub part_in : (start : ℕ) → start ≡ start_of ns k → start + get_or ns k 0 * 5 ≤ sheet_size
  part_in start e = omega (arith, start-next, start_small ns (suc k) ok)

  pub part-few : get_or ns k 0 ≤ max_entries
  part-few = few-at ns k (ok-few ns ok) l

  -- ---- taking out

  pub part-copied : (rows rows' t : List ℕ) (start : ℕ) → start ≡ start_of ns k → sheet_size ≤ length t
      → rows ≡ rows_of []
      → rows' ≡ take (get_or ns k 0 * 5) (drop start t) ++ drop (get_or ns k 0 * 5) rows
      → rows' ≡ written table_size (take (5 * get_or ns k 0) (drop (start_of ns k) t)) []
  unfolding rows_of written
  part-copied rows rows' t start e long empty p =
      let m : ℕ = get_or ns k 0 * 5 in
      let five : m ≡ 5 * get_or ns k 0 = omega arith in
      let len : length (take m (drop start t)) ≡ m =
      length-take-le m (drop start t) (omega (arith, part_in start e, length-drop start t)) in
      let zeros : drop m rows ≡ replicate (table_size - m) 0 =
      ap (drop m) (empty ∙ append-nil (replicate table_size 0)) ∙ drop-replicate m table_size 0 in
      let part : take m (drop start t) ≡ take (5 * get_or ns k 0) (drop (start_of ns k) t) =
      ap₂ (λ (j i : ℕ). take j (drop i t)) five e in
      p ∙ ap₂ (λ (x y : List ℕ). x ++ y) part (zeros ∙ ap (λ (j : ℕ). replicate (table_size - j) 0) (sym len)
      ∙ ap (λ (x : List ℕ). replicate (table_size - length x) 0) part
      ∙ sym (append-nil _))

  -- ---- putting back

  module _ (eight : length ns ≡ sheet_foils) where
    behind-ends : start_of ns (suc k) + 5 * total (drop (suc k) ns) ≡ start_of ns sheet_foils
    unfolding start_of
    behind-ends = omega (arith, total-split ns (suc k), ap total (take_all sheet_foils ns (omega arith)))

    module _ (n start rest end : ℕ) (room : n ≤ limit_of ns k) (e : start ≡ start_of ns k)
        (f : rest ≡ start_of ns (k + 1)) (g : end ≡ start_of ns sheet_foils) where
      next : rest ≡ start_of ns (suc k)
      next = f ∙ ap (start_of ns) (add-one k)

      pub rest_in : rest ≤ end
      rest_in = omega (arith, next, behind-ends)

      pub new-fits : start + n * 5 + (end - rest) ≤ sheet_size
      new-fits =
          let all : start_of ns sheet_foils ≡ 5 * total ns =
          unfold start_of in ap (λ (x : List ℕ). 5 * total x) (take_all sheet_foils ns (omega arith)) in
          omega (
            arith,
            next,
            start-next,
            rest_in,
            total-set ns k n l,
            ok-total (set ns k n) (fits ns ok k l n room),
          )

      pub replaced : (rows t t' : List ℕ)
          → t' ≡ written sheet_size (take start t ++ (take (n * 5) rows ++ take (end - rest) (drop rest t))) t
          → t' ≡ written sheet_size (before ns k t ++ (take (5 * n) rows ++ behind ns k t)) t
      unfolding before behind
      replaced rows t t' p =
          let five : n * 5 ≡ 5 * n = omega arith in
          let size : end - rest ≡ 5 * total (drop (suc k) ns) = omega (arith, next, behind-ends) in
          p
          ∙ ap₂ (λ (i m : ℕ). written sheet_size (take i t ++ (take m rows ++ take (end - rest) (drop rest t))) t) e five
          ∙ ap₂
          (λ (m i : ℕ). written sheet_size (take (start_of ns k) t ++ (take (5 * n) rows ++ take m (drop i t))) t)
          size next

-- ---- the same of a sheet

module _ (bs : List Board) (t : List ℕ) (w : EightFoils bs t) (k : ℕ) (here : k < sheet_foils) (ns : List ℕ)
    (are : ns ≡ counts bs) where
  pub counts-fine : counts_ok ns ≡ true
  counts-fine = ap counts_ok are ∙ w.limits

  pub in-counts : k < length ns
  in-counts = omega (arith, ap length are, counts-length bs, w.eight)

  -- foil k's numbers are few, and lie in the table
  pub part-small : get_or ns k 0 * 5 ≤ table_size
  part-small = omega (arith, part-few ns counts-fine k in-counts)

  pub part-inside : (start : ℕ) → start ≡ start_of ns k → start + get_or ns k 0 * 5 ≤ length t
  part-inside start e = omega (arith, part_in ns counts-fine k in-counts start e, w.places)

  pub taking : (rows rows' : List ℕ) (start : ℕ) → start ≡ start_of ns k → rows ≡ rows_of []
      → rows' ≡ take (get_or ns k 0 * 5) (drop start t) ++ drop (get_or ns k 0 * 5) rows → rows' ≡ table_at k bs t
  taking rows rows' start e empty p =
      part-copied ns counts-fine k in-counts rows rows' t start e w.places empty p
      ∙ ap (λ (xs : List ℕ). written table_size (take (5 * get_or xs k 0) (drop (start_of xs k) t)) []) are
      ∙ sym (taken_out k bs t)

  put-parts : (b : Board) (rows s s' : List ℕ)
      → sheet_lent (set bs k b) (put_back k (sheet_lent bs t s) (lent b rows s')).table s'
      ≡ put_back k (sheet_lent bs t s) (lent b rows s')
  unfolding put_back
  put-parts b rows s s' = refl

  pub putting : (b : Board) (rows t' : List ℕ) (bs' : List Board)
      → t' ≡ written sheet_size (before ns k t ++ (take (5 * b.entries) rows ++ behind ns k t)) t
      → bs' ≡ set bs k b → PutBack k bs t b rows bs' t'
  putting b rows t' bs' p q =
      record {
        is = λ s s'.
            ap₂ (λ (xs : List Board) (x : List ℕ). sheet_lent xs x s') q
            (p
            ∙ ap (λ (xs : List ℕ). written sheet_size (before xs k t ++ (take (5 * b.entries) rows ++ behind xs k t)) t)
            are
            ∙ sym (put-back k (sheet_lent bs t s) (lent b rows s') (omega (arith, counts-length bs, w.eight))))
            ∙ put-parts b rows s s';
      }
