-- The last strip of a column, as the list has it, tells whether a run goes on with it or begins a strip.
use Prim.Native.Nat.{ℕ, zero, suc, ◌*◌, ◌-◌, ◌≤◌, ◌<◌}
use native.Mathlib.Omega.{arith}
use mathlib.Core.Path.{◌≡◌, refl, sym, ap, ap₂, ◌∙◌}
use mathlib.Core.Bool.{Bool, true, false}
use mathlib.Core.List.{List}
use lib.ListN.{get_or, drop}
use Rattle.foil_spec.specs.Lent.{listed_strip}
use Rattle.foil_spec.specs.Strips.{Run, run, is_run, row_of, is_top, Strip}
use Rattle.list_laws.proofs.Tests.{both, not_f}
use Rattle.strips.specs.Joining.{bound, at, Placed, Open, Joined, Opened}
use Rattle.strips.proofs.Listing.{listed_at}
use Rattle.strips.proofs.RowToRow.{bound-out}

-- a run of row v is a strip's first where it is no run of the row before
module _ (f : ℕ → ℕ → Bool) (w : ℕ) (r : Run) where
  pub new-top : (v : ℕ) → (0 < v → is_run (row_of f (v - 1)) w r ≡ true → ⊥) → is_top f w v r ≡ true
  unfolding is_top
  new-top zero fresh = refl
  new-top (suc u) fresh =
      let q : suc u - 1 ≡ u = omega arith in
      not_f (both (is_run (row_of f u) w r) (λ e. absurd (fresh (omega arith) (rw q e))) (λ e. e))

  old-top : (v : ℕ) → 0 < v → is_run (row_of f (v - 1)) w r ≡ true → is_top f w v r ≡ false
  unfolding is_top
  old-top zero l e = absurd (omega arith)
  old-top (suc u) l e =
      let q : suc u - 1 ≡ u = omega arith in
      let k : is_run (row_of f u) w r ≡ true = rw q at e in
      simp k

-- what the list says of the strips so far
module _
    (f : ℕ → ℕ → Bool) (w h : ℕ) (o out last : List ℕ) (count v z x a b : ℕ) (rest : List Strip)
    (j : Joined f w h o out last count v z x rest) where
  says : (k : ℕ) → k < count → listed_strip out k ≡ at j.cur k
  says k l =
      ap (λ (s : List ℕ). listed_strip s k) j.held
      ∙ listed_at (drop (count * 4) o) j.cur k (omega (arith, j.len))

  -- a strip of these columns that goes as far as row v
  module _ (k : ℕ) (p : Opened out k count a b v) where
    pub open-x0 : (at j.cur k).x0 ≡ a
    unfolding listed_strip
    open-x0 = sym (ap (λ (s : Strip). s.x0) (says k p.lt)) ∙ p.is-x0

    pub open-x1 : (at j.cur k).x1 ≡ b
    unfolding listed_strip
    open-x1 = sym (ap (λ (s : Strip). s.x1) (says k p.lt)) ∙ p.is-x1

    pub open-y1 : (at j.cur k).y1 ≡ v
    unfolding listed_strip
    open-y1 = sym (ap (λ (s : Strip). s.y1) (says k p.lt)) ∙ p.is-y1

    -- the run is no new one
    pub open-old : x ≤ a → is_top f w v (run a b) ≡ false
    open-old l =
        let q : Placed f w h v z x last (at j.done k) (at j.cur k) k = j.placed k p.lt in
        let sa : (at j.done k).x0 ≡ a = sym q.same-x0 ∙ open-x0 in
        let sb : (at j.done k).x1 ≡ b = sym q.same-x1 ∙ open-x1 in
        let i : bound v z x (at j.done k).x0 ≡ v = bound-out v z x (at j.done k).x0 (omega arith) in
        old-top f w (run a b) v (omega (arith, q.early))
        (sym (ap₂ (λ (c d : ℕ). is_run (row_of f (v - 1)) w (run c d)) sa sb)
        ∙ q.rows.passes (v - 1) (omega (arith, q.early)) (omega (arith, q.early, q.known-y1, open-y1)))

  -- where the last strip that began at a is not of this kind, the run is new
  pub not-open : x ≤ a → a < w → (Opened out (get_or last a 0) count a b v → ⊥) → 0 < v
      → is_run (row_of f (v - 1)) w (run a b) ≡ true → ⊥
  unfolding listed_strip
  not-open l m bad g e = bad (opened (rw i at (j.opens a b m (omega (arith, i)) (rw i e))))
    where
      i : bound v z x a ≡ v
      i = bound-out v z x a l

      opened : Open last j.cur count a b v → Opened out (get_or last a 0) count a b v
      opened p =
          let q : listed_strip out (get_or last a 0) ≡ at j.cur (get_or last a 0) = says (get_or last a 0) p.lt in
          record {
            lt = p.lt;
            is-x0 = ap (λ (s : Strip). s.x0) q ∙ p.is-x0;
            is-x1 = ap (λ (s : Strip). s.x1) q ∙ p.is-x1;
            is-y1 = ap (λ (s : Strip). s.y1) q ∙ p.is-y1;
          }
