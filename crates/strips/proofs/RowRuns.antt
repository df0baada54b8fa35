-- The runs of a row: which of them go on from the row before, and which strips a row leaves as they are.
use Prim.Native.Nat.{ℕ, suc, ◌-◌, ◌≤◌, ◌<◌}
use native.Mathlib.Omega.{arith}
use mathlib.Core.Path.{◌≡◌, refl, sym, ap, ◌∙◌}
use mathlib.Core.Bool.{Bool, true, false}
use mathlib.Core.List.{List, ◌++◌}
use mathlib.Core.Logic.{◌⊎◌, ⊎_elim, inl, inr}
use lib.ListN.{get_or}
use Rattle.foil_spec.specs.Strips.{Run, run, starts, is_run, row_of, Strip}
use Rattle.list_laws.proofs.Tests.{clash, lt-or-le}
use Rattle.strip_laws.specs.Rules.{Stop}
use Rattle.strip_laws.proofs.Stop.{stop-of, starts-zero, starts-after}
use Rattle.strip_laws.proofs.Runs.{is_run-yes, run-lt, run-free, run_of-is}
use Rattle.strips.specs.Rows.{Change}
use Rattle.strips.specs.Joining.{bound, at, Placed, Open, Joined}
use Rattle.strips.proofs.RowToRow.{bound-in, bound-out}

-- the columns from a up to b are a run of row u
abbrev pub is_run_of : (ℕ → ℕ → Bool) → ℕ → ℕ → ℕ → ℕ → Bool
is_run_of f w u a b = is_run (row_of f u) w (run a b)

-- of the runs of row v, only the one from a up to b begins in the columns from x up to e
abbrev pub Alone : (ℕ → ℕ → Bool) → ℕ → ℕ → ℕ → ℕ → ℕ → ℕ → Type 0
Alone f w v x e a b = (a' b' : ℕ) → is_run_of f w v a' b' ≡ true → x ≤ a' → a' < e → (a' ≡ a) × (b' ≡ b)

-- row v, which all rows from there up to z are equal to
module _ (f : ℕ → ℕ → Bool) (w h v z : ℕ) (ch : Change f h v z) where
  row_last : row_of f (z - 1) ≡ row_of f v
  row_last = ch.same (z - 1) (omega (arith, ch.gt)) (omega (arith, ch.gt))

  -- a strip that meets row v, of a run of that row, goes on to row z
  pub grown : (r : Run) (a b : ℕ) → Stop (λ u. is_run (row_of f u) w r) h a b → v ≤ b → is_run (row_of f v) w r ≡ true
      → z ≤ b
  grown r a b s l e = ⊎_elim (λ m. absurd (ends m s.ends)) (λ m. m) (lt-or-le b z)
    where
      ends : b < z → (b ≡ h) ⊎ (is_run (row_of f b) w r ≡ false) → ⊥
      ends m (inl q) = omega (arith, ch.le)
      ends m (inr q) = clash e (sym (ap (λ (g : ℕ → Bool). is_run g w r) (ch.same b l m)) ∙ q)

  -- a run's first column is free
  begins-free : (a b : ℕ) → is_run_of f w v a b ≡ true → f a v ≡ true
  begins-free a b r = run-free (row_of f v) w (run a b) r a (omega arith) (run-lt (row_of f v) w (run a b) r)

  pub alone : (x a b : ℕ) → is_run_of f w v a b ≡ true → ((u : ℕ) → x ≤ u → u < a → f u v ≡ false) → Alone f w v x b a b
  alone x a b r blocked a' b' r' l m =
      ⊎_elim
      (λ g. clash (begins-free a' b' r') (blocked a' l g))
      (λ g.
      same (sym (run_of-is (row_of f v) w (run a' b') r' a' (omega arith) (run-lt (row_of f v) w (run a' b') r'))
      ∙ run_of-is (row_of f v) w (run a b) r a' g m))
      (lt-or-le a' a)
    where
      same : run a' b' ≡ run a b → (a' ≡ a) × (b' ≡ b)
      same q = (ap (λ (r : Run). r.from) q, ap (λ (r : Run). r.to) q)

  -- the columns from a up to b that the sweep finds from x on are a run
  pub swept-run : (x a b : ℕ) → (x ≡ 0) ⊎ ((x ≡ w) ⊎ (f (x - 1) v ≡ false)) → x ≤ a → a < b → Stop (row_of f v) w a b
      → ((u : ℕ) → x ≤ u → u < a → f u v ≡ false) → is_run_of f w v a b ≡ true
  swept-run x a b edge l gt s blocked =
      is_run-yes (row_of f v) w (run a b)
      (⊎_elim
      (λ g. behind (omega arith) (blocked (a - 1) (omega arith) (omega arith)))
      (λ g. at_x (omega arith) edge)
      (lt-or-le x a))
      gt (stop-of (row_of f v) w a b s)
    where
      behind : 0 < a → f (a - 1) v ≡ false → starts (row_of f v) a ≡ true
      behind g e =
          let q : a ≡ suc (a - 1) = omega arith in
          ap (starts (row_of f v)) q ∙ starts-after (row_of f v) (a - 1) e

      first : a ≡ 0 → starts (row_of f v) a ≡ true
      first q = ap (starts (row_of f v)) q ∙ starts-zero (row_of f v)

      at_x : a ≡ x → (x ≡ 0) ⊎ ((x ≡ w) ⊎ (f (x - 1) v ≡ false)) → starts (row_of f v) a ≡ true
      at_x q (inl e) = first (q ∙ e)
      at_x q (inr (inl e)) = absurd (omega (arith, s.le))
      at_x q (inr (inr e)) =
          ⊎_elim
          (λ g. behind g (ap (λ (u : ℕ). f (u - 1) v) q ∙ e))
          (λ g. first (omega arith))
          (lt-or-le 0 a)

  -- a run of the last row before z is one of row v
  pub row_now : (a b e : ℕ) → a < e → is_run_of f w (bound v z e a - 1) a b ≡ true → is_run_of f w v a b ≡ true
  row_now a b e l r =
      sym (ap (λ (t : ℕ). is_run_of f w (t - 1) a b) (bound-in v z e a l)
      ∙ ap (λ (g : ℕ → Bool). is_run g w (run a b)) row_last)
      ∙ r

  -- column x moves on to e
  module _ (x e : ℕ) (xe : x ≤ e) where
    pub outside : (a : ℕ) → (a < x) ⊎ (e ≤ a) → bound v z e a ≡ bound v z x a
    outside a (inl l) = bound-in v z e a (omega arith) ∙ sym (bound-in v z x a l)
    outside a (inr l) = bound-out v z e a l ∙ sym (bound-out v z x a (omega arith))

    -- a strip that is not moved on
    module _ (last last' : List ℕ) (s t : Strip) (k : ℕ) (p : Placed f w h v z x last s t k) where
      placed-out : (s.x0 < x) ⊎ (e ≤ s.x0) → get_or last' s.x0 0 ≡ get_or last s.x0 0
          → Placed f w h v z e last' s t k
      placed-out c q =
          let b : bound v z e s.x0 ≡ bound v z x s.x0 = outside s.x0 c in
          record {
            lt = p.lt;
            le = p.le;
            rows = p.rows;
            early = omega (arith, p.early);
            same-x0 = p.same-x0;
            same-y0 = p.same-y0;
            same-x1 = p.same-x1;
            known-y1 = rw b p.known-y1;
            latest = λ m. q ∙ p.latest (omega arith);
          }

      placed-in : x ≤ s.x0 → s.x0 < e → s.y1 ≤ v → Placed f w h v z e last' s t k
      placed-in l m y =
          let b : bound v z e s.x0 ≡ z = bound-in v z e s.x0 m in
          let c : bound v z x s.x0 ≡ v = bound-out v z x s.x0 l in
          record {
            lt = p.lt;
            le = p.le;
            rows = p.rows;
            early = omega (arith, p.early, ch.gt);
            same-x0 = p.same-x0;
            same-y0 = p.same-y0;
            same-x1 = p.same-x1;
            known-y1 = omega (arith, p.known-y1, ch.gt);
            latest = λ n. absurd (omega (arith, ch.gt));
          }

      pub placed-keep : (x ≤ s.x0 → s.x0 < e → s.y1 ≤ v)
          → ((s.x0 < x) ⊎ (e ≤ s.x0) → get_or last' s.x0 0 ≡ get_or last s.x0 0)
          → Placed f w h v z e last' s t k
      placed-keep y q =
          ⊎_elim
          (λ l. placed-out (inl l) (q (inl l)))
          (λ l.
          ⊎_elim
          (λ m. placed-in l m (y l m))
          (λ m. placed-out (inr m) (q (inr m)))
          (lt-or-le s.x0 e))
          (lt-or-le s.x0 x)

      -- a strip that would go past row v is of a run of that row
      pub meets : x ≤ s.x0 → v < s.y1 → is_run_of f w v s.x0 s.x1 ≡ true
      meets l m = p.rows.passes v (omega (arith, p.early, bound-out v z x s.x0 l)) m

  -- the row has no run from column x up to e
  pub joined-none : (o out last : List ℕ) (count x e : ℕ) (rest rest' : List Strip) → x ≤ e → rest ≡ rest'
      → ((u : ℕ) → x ≤ u → u < e → f u v ≡ false) → Joined f w h o out last count v z x rest
      → Joined f w h o out last count v z e rest'
  joined-none o out last count x e rest rest' xe q blocked j =
      record {
        small = j.small;
        same = j.same;
        wide = j.wide;
        done = j.done;
        cur = j.cur;
        split = j.split ∙ ap (λ (r : List Strip). j.done ++ r) q;
        counted = j.counted;
        len = j.len;
        held = j.held;
        placed = λ k l.
            placed-keep x e xe last last (at j.done k) (at j.cur k) k (j.placed k l) (short k l) (λ c. refl);
        opens = λ a b l m r.
            ⊎_elim
            (λ g. kept a b l m r (inl g))
            (λ g.
            ⊎_elim
            (λ i. clash (begins-free a b (row_now a b e i r)) (blocked a g i))
            (λ i. kept a b l m r (inr i))
            (lt-or-le a e))
            (lt-or-le a x);
      }
    where
      short : (k : ℕ) (l : k < count) → x ≤ (at j.done k).x0 → (at j.done k).x0 < e → (at j.done k).y1 ≤ v
      short k l m g =
          ⊎_elim
          (λ n.
          clash
          (begins-free (at j.done k).x0 (at j.done k).x1
          (meets x e xe last last (at j.done k) (at j.cur k) k (j.placed k l) m n))
          (blocked (at j.done k).x0 m g))
          (λ n. n)
          (lt-or-le v (at j.done k).y1)

      kept : (a b : ℕ) → a < w → 0 < bound v z e a → is_run_of f w (bound v z e a - 1) a b ≡ true → (a < x) ⊎ (e ≤ a)
          → Open last j.cur count a b (bound v z e a)
      kept a b l m r g =
          let q : bound v z e a ≡ bound v z x a = outside x e xe a g in
          rw q (j.opens a b l (omega arith) (rw (← q) r))
