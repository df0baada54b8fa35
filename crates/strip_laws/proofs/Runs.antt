-- The runs of one row, a test g on columns with W columns: the scan that lists them, and what a run is.
use Prim.Native.Nat.{ℕ, zero, suc, ◌+◌, ◌-◌, ◌≤◌, ◌<◌}
use native.Mathlib.Nat.{add-zero, sub_self, eq-or-lt_of_le}
use native.Mathlib.Decide.{ℕ_discrete}
use native.Mathlib.Omega.{arith}
use mathlib.Core.Path.{◌≡◌, sym, ap, ap₂, ◌∙◌, subst}
use mathlib.Core.Bool.{Bool, true, false}
use mathlib.Core.List.{List, [], ◌∷◌}
use mathlib.Core.Logic.{◌⊎◌, ⊎_elim, inl, inr, by_cases}
use lib.Dec.{ltb, eqb}
use borrow.Author.Tests.{lt-ltb, eq-eqb, ltb-true, eqb-true}
use Rattle.foil_spec.specs.Strips.{stop, Run, run, outside, since, scan, scan_at, runs_from, runs, starts, is_run}
use Rattle.list_laws.proofs.Tests.{both, clash, parts, lt-or-le}
use Rattle.list_laws.proofs.Members.{In, Sorted}
use Rattle.strip_laws.specs.Rules.{Stop}
use Rattle.strip_laws.proofs.Stop.{stop-of, stop-end, stop-gt, stop-is-stop}
use Rattle.strip_laws.proofs.Stop.{Start, start_of, start_is, start-of, starts-zero, starts-after, starts-not}

module _ (g : ℕ → Bool) (W x : ℕ) (l : x < W) where
  left : W - x ≡ suc (W - suc x)
  left = omega arith

  pub outside-blocked : g x ≡ false → scan_at g W x outside ≡ scan_at g W (suc x) outside
  unfolding scan_at scan
  outside-blocked e = rw left (rw (e, scan))

  outside-free : g x ≡ true → scan_at g W x outside ≡ scan_at g W (suc x) (since x)
  unfolding scan_at scan
  outside-free e = rw left (rw (e, scan))

  inside-free : (a : ℕ) → g x ≡ true → scan_at g W x (since a) ≡ scan_at g W (suc x) (since a)
  unfolding scan_at scan
  inside-free a e = rw left (rw (e, scan))

  inside-blocked : (a : ℕ) → g x ≡ false → scan_at g W x (since a) ≡ run a x ∷ scan_at g W (suc x) outside
  unfolding scan_at scan
  inside-blocked a e = rw left (rw (e, scan))

module _ (g : ℕ → Bool) (W : ℕ) where
  inside-end : (a : ℕ) → scan_at g W W (since a) ≡ run a W ∷ []
  unfolding scan_at scan
  inside-end a = rw sub_self

  -- no run is left at the end of the row
  pub outside-past : (x : ℕ) → W ≤ x → runs_from g W x ≡ []
  unfolding scan_at scan
  outside-past x l =
      let q : W - x ≡ 0 = omega arith in
      rw q

  -- blocked columns hold no run
  pub skip : (m x : ℕ) → x + m ≤ W → ((u : ℕ) → x ≤ u → u < x + m → g u ≡ false)
      → runs_from g W x ≡ runs_from g W (x + m)
  skip zero x l h = rw add-zero
  skip (suc m) x l h =
      let e : x + suc m ≡ suc x + m = omega arith in
      rw (e)
      (outside-blocked g W x (omega arith) (h x (omega arith) (omega arith))
      ∙ skip m (suc x) (omega arith) (λ u a b. h u (omega arith) (omega arith)))

  grow : (m a x : ℕ) → x + m ≤ W → ((u : ℕ) → x ≤ u → u < x + m → g u ≡ true)
      → scan_at g W x (since a) ≡ scan_at g W (x + m) (since a)
  grow zero a x l h = rw add-zero
  grow (suc m) a x l h =
      let e : x + suc m ≡ suc x + m = omega arith in
      rw (e)
      (inside-free g W x (omega arith) a (h x (omega arith) (omega arith))
      ∙ grow m a (suc x) (omega arith) (λ u p q. h u (omega arith) (omega arith)))

  close-end : (a e : ℕ) → e ≡ W → scan_at g W e (since a) ≡ run a e ∷ runs_from g W e
  close-end a e q = rw q (inside-end a ∙ ap (λ (r : List Run). run a W ∷ r) (sym (outside-past W (omega arith))))

  close : (a e : ℕ) → e ≤ W → (e ≡ W) ⊎ (g e ≡ false) → scan_at g W e (since a) ≡ run a e ∷ runs_from g W e
  close a e l (inl q) = close-end a e q
  close a e l (inr q) =
      ⊎_elim
      (λ z. close-end a e z)
      (λ z. inside-blocked g W e z a q ∙ ap (λ (r : List Run). run a e ∷ r) (sym (outside-blocked g W e z q)))
      (eq-or-lt_of_le l)

  -- at a free column a run starts, and goes on to the next blocked one
  pub take-run : (a e : ℕ) → a < e → Stop g W a e → runs_from g W a ≡ run a e ∷ runs_from g W e
  take-run a e l s =
      let q : suc a + (e - suc a) ≡ e = omega arith in
      outside-free g W a (omega (arith, s.le)) (s.passes a (omega arith) l)
      ∙ grow (e - suc a) a (suc a) (omega (arith, s.le)) (λ u p r. s.passes u (omega arith) (omega arith))
      ∙ rw q (close a e s.le s.ends)

-- induction along the runs of a row
module _
    (g : ℕ → Bool) (W : ℕ) (P : ℕ → List Run → Type 0)
    (done : (x : ℕ) → W ≤ x → P x [])
    (blocked : (x : ℕ) (rs : List Run) → x < W → g x ≡ false → P (suc x) rs → P x rs)
    (taken : (x e : ℕ) (rs : List Run) → x < e → Stop g W x e → P e rs → P x (run x e ∷ rs)) where
  along-free : (m x : ℕ) → W ≤ x + suc m → x < W → g x ≡ true
      → ((z : ℕ) → W ≤ z + m → P z (runs_from g W z)) → P x (runs_from g W x)
  along-free m x l k e ih =
      let s : Stop g W x (stop g W x) = stop-is-stop g W x (omega arith) in
      let gt : x < stop g W x = stop-gt g W x k e in
      subst (P x) (sym (take-run g W x (stop g W x) gt s))
      (taken x (stop g W x) (runs_from g W (stop g W x)) gt s (ih (stop g W x) (omega arith)))

  along-in : (m x : ℕ) → W ≤ x + m → P x (runs_from g W x)
  along-in zero x l = subst (P x) (sym (outside-past g W x (omega arith))) (done x (omega arith))
  along-in (suc m) x l =
      ⊎_elim
      (λ k.
      both (g x)
      (λ e. along-free m x l k e (along-in m))
      (λ e.
      subst (P x) (sym (outside-blocked g W x k e))
      (blocked x (runs_from g W (suc x)) k e (along-in m (suc x) (omega arith)))))
      (λ k. subst (P x) (sym (outside-past g W x k)) (done x k))
      (lt-or-le x W)

  along : P 0 (runs g W)
  along = along-in W 0 (omega arith)

module _ (g : ℕ → Bool) (W : ℕ) (r : Run) where
  pub is_run-yes : starts g r.from ≡ true → r.from < r.to → stop g W r.from ≡ r.to → is_run g W r ≡ true
  unfolding is_run
  is_run-yes a l e = simp (a, lt-ltb _ _ l, eq-eqb _ _ e)

  module _ (e : is_run g W r ≡ true) where
    pub run-starts : starts g r.from ≡ true
    unfolding is_run
    run-starts = search parts

    pub run-lt : r.from < r.to
    unfolding is_run
    run-lt =
        let a : ltb r.from r.to ≡ true = search parts in
        ltb-true _ _ a

    run-stop : stop g W r.from ≡ r.to
    unfolding is_run
    run-stop =
        let a : eqb (stop g W r.from) r.to ≡ true = search parts in
        eqb-true _ _ a

    run_in : r.from < W
    run_in =
        ⊎_elim
        (λ l. l)
        (λ l. absurd (omega (arith, stop-end g W r.from l, run-stop, run-lt)))
        (lt-or-le r.from W)

    pub run-Stop : Stop g W r.from r.to
    run-Stop = rw run-stop at (stop-is-stop g W r.from (omega (arith, run_in)))

    pub run-free : (x : ℕ) → r.from ≤ x → x < r.to → g x ≡ true
    run-free x a b = run-Stop.passes x a b

-- the run that holds column x
pub run_of : (ℕ → Bool) → ℕ → ℕ → Run
run_of g W x = run (start_of g x) (stop g W x)

-- a run that holds column x is the run that holds it
pub run_of-is : (g : ℕ → Bool) (W : ℕ) (r : Run) → is_run g W r ≡ true
    → (x : ℕ) → r.from ≤ x → x < r.to → run_of g W x ≡ r
unfolding run_of
run_of-is g W r e x a b =
    let s : Stop g W r.from r.to = run-Stop g W r e in
    let p : start_of g x ≡ r.from =
    start-of g x r.from
    (record { le = a; passes = λ u c d. s.passes u c (omega arith); first = run-starts g W r e }) in
    let q : stop g W x ≡ r.to =
    stop-of g W x r.to
    (record { ge = omega arith; le = s.le; passes = λ u c d. s.passes u (omega arith) d; ends = s.ends }) in
    ap₂ (λ (f t : ℕ). run f t) p q

module _ (g : ℕ → Bool) (W x : ℕ) (l : x < W) (e : g x ≡ true) where
  pub run_of-from : (run_of g W x).from ≤ x
  unfolding run_of
  run_of-from = (start_is g x).le

  pub run_of-to : x < (run_of g W x).to
  unfolding run_of
  run_of-to = stop-gt g W x l e

  pub run_of-is_run : is_run g W (run_of g W x) ≡ true
  unfolding run_of
  run_of-is_run =
      let a : Start g x (start_of g x) = start_is g x in
      let s : Stop g W x (stop g W x) = stop-is-stop g W x (omega arith) in
      is_run-yes g W (run_of g W x) a.first (omega (arith, a.le, stop-gt g W x l e))
      (stop-of g W (start_of g x) (stop g W x)
      (record {
        ge = omega (arith, a.le, s.ge);
        le = s.le;
        passes = λ u c d. ⊎_elim (λ k. a.passes u c k) (λ k. s.passes u k d) (lt-or-le u x);
        ends = s.ends;
      }))

-- a run that begins further left comes first
unfoldable pub from_before : Run → Run → Bool
from_before r s = ltb r.from s.from

-- the list of the runs of a row
module _ (g : ℕ → Bool) (W : ℕ) where
  -- the runs in the list, which begins at column x, are runs of the row
  AreRuns : ℕ → List Run → Type 0
  AreRuns x rs = (x < W → g x ≡ true → starts g x ≡ true) → (r : Run) → In r rs → is_run g W r ≡ true

  are-taken : (x e : ℕ) (rs : List Run) → x < e → Stop g W x e → AreRuns e rs → AreRuns x (run x e ∷ rs)
  unfolding AreRuns
  are-taken x e rs l s h b r (inl q) =
      rw q
      (is_run-yes g W (run x e) (b (omega (arith, s.le)) (s.passes x (omega arith) l)) l (stop-of g W x e s))
  are-taken x e rs l s h b r (inr k) =
      h (λ m t. ⊎_elim (λ z. absurd (omega arith)) (λ z. clash t z) s.ends) r k

  -- each run that is listed is a run of the row
  pub of-runs : (r : Run) → In r (runs g W) → is_run g W r ≡ true
  unfolding AreRuns
  of-runs r k =
      along g W AreRuns
      (λ x l b r i. absurd i)
      (λ x rs l e h b. h (λ m t. starts-after g x e))
      are-taken (λ m t. starts-zero g) r k

  -- the runs of the row that begin at column x or later are in the list
  Has : ℕ → List Run → Type 0
  Has x rs = (r : Run) → is_run g W r ≡ true → x ≤ r.from → In r rs

  has-blocked : (x : ℕ) (rs : List Run) → x < W → g x ≡ false → Has (suc x) rs → Has x rs
  unfolding Has
  has-blocked x rs l e h r t m =
      by_cases (ℕ_discrete x r.from)
      (λ q. clash (run-free g W r t x (omega arith) (omega (arith, run-lt g W r t))) e)
      (λ ne. h r t (omega arith))

  -- a run that begins after column x does not begin in the run from x
  not_in : (x e a : ℕ) → Stop g W x e → x < a → a < e → starts g a ≡ true → ⊥
  not_in x e zero s m k t = omega arith
  not_in x e (suc a) s m k t = clash (s.passes a (omega arith) (omega arith)) (starts-not g a t)

  has-taken : (x e : ℕ) (rs : List Run) → x < e → Stop g W x e → Has e rs → Has x (run x e ∷ rs)
  unfolding Has
  has-taken x e rs l s h r t m =
      by_cases (ℕ_discrete x r.from)
      (λ q.
      inl (sym (run_of-is g W r t x (omega arith) (omega (arith, run-lt g W r t)))
      ∙ run_of-is g W (run x e) (is-run q) x (omega arith) l))
      (λ ne.
      ⊎_elim
      (λ k. absurd (not_in x e r.from s (omega arith) k (run-starts g W r t)))
      (λ k. inr (h r t k))
      (lt-or-le r.from e))
    where
      is-run : x ≡ r.from → is_run g W (run x e) ≡ true
      is-run q = is_run-yes g W (run x e) (rw q (run-starts g W r t)) l (stop-of g W x e s)

  -- each run of the row is listed
  pub in-runs : (r : Run) → is_run g W r ≡ true → In r (runs g W)
  unfolding Has
  in-runs r t =
      along g W Has (λ x l r t m. absurd (omega (arith, run_in g W r t))) has-blocked has-taken r t (omega arith)

  InOrder : ℕ → List Run → Type 0
  InOrder x rs = Sorted from_before rs × ((r : Run) → In r rs → x ≤ r.from)

  -- the runs are listed from left to right
  pub sorted-runs : Sorted from_before (runs g W)
  unfolding InOrder from_before
  sorted-runs =
      (along g W InOrder
      (λ x l. (tt, λ r i. absurd i))
      (λ x rs l e h. (h.0, λ r i. let k = h.1 r i in omega arith))
      (λ x e rs l s h. (
        (λ r i. lt-ltb x r.from (let k = h.1 r i in omega arith), h.0),
        λ r i.
            ⊎_elim
            (λ (q : r ≡ run x e). let z = ap (λ (k : Run). k.from) q in omega arith)
            (λ (k : In r rs). let z = h.1 r k in omega arith)
            i,
      ))).0
