-- The list of strips: its rows one after the other, what is in it, in which order, and which strip holds a point.
use Prim.Native.Nat.{ℕ, zero, suc, ◌+◌, ◌-◌, ◌≤◌, ◌<◌}
use native.Mathlib.Nat.{add-zero, eq-or-lt_of_le}
use native.Mathlib.Omega.{arith}
use mathlib.Core.Path.{◌≡◌, refl, sym, ap, ◌∙◌, subst}
use mathlib.Core.Bool.{Bool, true, false, cond, ◌&&◌}
use mathlib.Core.List.{List, [], ◌∷◌, ◌++◌}
use mathlib.Core.Logic.{⊎_elim, inl, inr}
use lib.Dec.{leb, ltb, eqb}
use lib.ListN.{length, get_or}
use borrow.Author.Tests.{lt-ltb, le-leb, eq-eqb, ltb-true, leb-true}
use Rattle.foil_spec.specs.Lists.{range, keep, each}
use Rattle.foil_spec.specs.Foil.{Point}
use Rattle.foil_spec.specs.Strips.{stop, Run, runs, starts, is_run, row_of, is_top, Strip, until, strip_at}
use Rattle.foil_spec.specs.Strips.{begun, row_strips, strips_from, strips, holds, place_of}
use Rattle.list_laws.proofs.Tests.{clash, parts, lt-or-le, and_i, and_r, or_cases, or-il, or-ir, true-or-false}
use Rattle.list_laws.proofs.Members.{In, in-range, of_range, in_map, of_map, in-keep, of-keep, in-each, of-each}
use Rattle.list_laws.proofs.Members.{Sorted, sorted-range, sorted-keep, sorted-map, sorted-each}
use Rattle.strip_laws.specs.Rules.{columns, strip_before, Stop}
use Rattle.strip_laws.proofs.Stop.{stop-is-stop, stop-gt, Start, start_of, start_is, start-of}
use Rattle.strip_laws.proofs.Runs.{run_of, run_of-is, run_of-from, run_of-to, run_of-is_run}
use Rattle.strip_laws.proofs.Runs.{of-runs, in-runs, from_before, sorted-runs}

module _ (f : ℕ → ℕ → Bool) (W H y : ℕ) (r : Run) (rs : List Run) where
  pub begun-top : is_top f W y r ≡ true → begun f W H y (r ∷ rs) ≡ strip_at f W H y r ∷ begun f W H y rs
  unfolding begun
  begun-top e = rw e

  pub begun-old : is_top f W y r ≡ false → begun f W H y (r ∷ rs) ≡ begun f W H y rs
  unfolding begun
  begun-old e = rw e

module _ (f : ℕ → ℕ → Bool) (W H : ℕ) where
  pub strips-row : (y : ℕ) → y < H → strips_from f W H y ≡ row_strips f W H y ++ strips_from f W H (suc y)
  unfolding strips_from
  strips-row y l =
      let q : H - y ≡ suc (H - suc y) = omega arith in
      rw q

  pub strips-end : (y : ℕ) → H ≤ y → strips_from f W H y ≡ []
  unfolding strips_from
  strips-end y l =
      let q : H - y ≡ 0 = omega arith in
      rw q

-- to be a top is to be the first of the rows that have the run
pub top-starts : (f : ℕ → ℕ → Bool) (W y : ℕ) (r : Run) → is_top f W y r ≡ starts (λ v. is_run (row_of f v) W r) y
unfolding is_top starts
top-starts f W zero r = refl
top-starts f W (suc y) r = refl

-- rows that are equal
module _ (f : ℕ → ℕ → Bool) (W H : ℕ) where
  old : (y : ℕ) (r : Run) → is_run (row_of f y) W r ≡ true → is_top f W (suc y) r ≡ false
  unfolding is_top
  old y r e = simp e

  begun-none : (y : ℕ) (rs : List Run) → ((r : Run) → In r rs → is_run (row_of f y) W r ≡ true)
      → begun f W H (suc y) rs ≡ []
  unfolding begun
  begun-none y [] h = refl
  begun-none y (r ∷ rs) h =
      begun-old f W H (suc y) r rs (old y r (h r (inl refl))) ∙ begun-none y rs (λ s k. h s (inr k))

  -- no strip begins on a row that equals the one before
  row_same : (y : ℕ) → row_of f (suc y) ≡ row_of f y → row_strips f W H (suc y) ≡ []
  row_same y e =
      ap (λ (g : ℕ → Bool). begun f W H (suc y) (runs g W)) e
      ∙ begun-none y (runs (row_of f y) W) (of-runs (row_of f y) W)

  -- nor on any row of a stretch of equal rows, after its first
  pub rows_same : (m y : ℕ) → suc y + m ≤ H → ((u : ℕ) → y ≤ u → u < suc y + m → row_of f u ≡ row_of f y)
      → strips_from f W H (suc y) ≡ strips_from f W H (suc y + m)
  rows_same zero y l h = rw add-zero
  rows_same (suc m) y l h =
      let q : suc y + suc m ≡ suc (suc y) + m = omega arith in
      strips-row f W H (suc y) (omega arith)
      ∙ ap (λ (s : List Strip). s ++ strips_from f W H (suc (suc y)))
      (row_same y (h (suc y) (omega arith) (omega arith)))
      ∙ rows_same m (suc y) (omega arith)
      (λ u a b. h u (omega arith) (omega arith) ∙ sym (h (suc y) (omega arith) (omega arith)))
      ∙ ap (strips_from f W H) (sym q)

-- what is in the list
module _ (f : ℕ → ℕ → Bool) (W H : ℕ) where
  -- s begins with a run of its first row, and goes on to the first row that has not that run
  pub record Begun (s : Strip) : Type 0 where
    pub on-board : s.y0 < H
    pub is-run : is_run (row_of f s.y0) W (columns s) ≡ true
    pub is-top : is_top f W s.y0 (columns s) ≡ true
    pub is-end : s.y1 ≡ until f W H (columns s) s.y0

  pub of-strips : (s : Strip) → In s (strips f W H) → Begun s
  unfolding strips_from begun
  of-strips s h =
      let a = of-each (row_strips f W H) s (range 0 (H - 0)) h in
      let b = of_map (strip_at f W H a.0) s (keep (is_top f W a.0) (runs (row_of f a.0) W)) a.2 in
      let c = of-keep (is_top f W a.0) b.0 (runs (row_of f a.0) W) b.1 in
      let i = of_range a.0 0 (H - 0) a.1 in
      subst Begun (sym b.2)
      (record {
        on-board = omega arith;
        is-run = of-runs (row_of f a.0) W b.0 c.0;
        is-top = c.1;
        is-end = refl;
      })

  pub in-strips : (s : Strip) → Begun s → In s (strips f W H)
  unfolding strips_from begun
  in-strips s b =
      let l = b.on-board in
      let q : s ≡ strip_at f W H s.y0 (columns s) =
      λ i. record { x0 = s.x0; y0 = s.y0; x1 = s.x1; y1 = b.is-end i } in
      subst (λ (t : Strip). In t (each (row_strips f W H) (range 0 (H - 0)))) (sym q)
      (in-each (row_strips f W H) (strip_at f W H s.y0 (columns s)) s.y0 (range 0 (H - 0))
      (in-range s.y0 0 (H - 0) (omega arith) (omega arith))
      (in_map (strip_at f W H s.y0) (columns s) (keep (is_top f W s.y0) (runs (row_of f s.y0) W))
      (in-keep (is_top f W s.y0) (columns s) (runs (row_of f s.y0) W)
      (in-runs (row_of f s.y0) W (columns s) b.is-run) b.is-top)))

  -- the rows of a strip
  pub rows_of : (s : Strip) → Begun s → Stop (λ v. is_run (row_of f v) W (columns s)) H s.y0 s.y1
  rows_of s b =
      let l = b.on-board in
      rw b.is-end (stop-is-stop (λ v. is_run (row_of f v) W (columns s)) H s.y0 (omega arith))

  pub ends-later : (s : Strip) → Begun s → s.y0 < s.y1
  ends-later s b =
      rw b.is-end (stop-gt (λ v. is_run (row_of f v) W (columns s)) H s.y0 b.on-board b.is-run)

-- the strip holds the point
pub record Held (p : Point) (s : Strip) : Type 0 where
  pub right : s.x0 ≤ p.x
  pub left : p.x < s.x1
  pub below : s.y0 ≤ p.y
  pub above : p.y < s.y1

pub of-holds : (p : Point) (s : Strip) → holds p s ≡ true → Held p s
unfolding holds
of-holds p s h =
    let a : leb s.x0 p.x ≡ true = search parts in
    let b : ltb p.x s.x1 ≡ true = search parts in
    let c : leb s.y0 p.y ≡ true = search parts in
    let d : ltb p.y s.y1 ≡ true = search parts in
    record {
      right = leb-true s.x0 p.x a;
      left = ltb-true p.x s.x1 b;
      below = leb-true s.y0 p.y c;
      above = ltb-true p.y s.y1 d;
    }

pub to-holds : (p : Point) (s : Strip) → Held p s → holds p s ≡ true
unfolding holds
to-holds p s h = simp (le-leb _ _ h.right, lt-ltb _ _ h.left, le-leb _ _ h.below, lt-ltb _ _ h.above)

-- the strip that holds a point
module _ (f : ℕ → ℕ → Bool) (W H : ℕ) (p : Point) where
  -- the run that holds the point
  abbrev mine : Run
  mine = run_of (row_of f p.y) W p.x

  -- the row has the run R
  abbrev has : Run → ℕ → Bool
  has R v = is_run (row_of f v) W R

  -- the strip of that run, which begins with the first of the rows up to the point's that all have it
  pub strip_of : Strip
  strip_of = strip_at f W H (start_of (has mine) p.y) mine

  -- a strip that holds the point is this one
  pub strip-only : (s : Strip) → Begun f W H s → Held p s → s ≡ strip_of
  unfolding strip_of
  strip-only s b h =
      let c = h.below in
      let rows : Stop (has (columns s)) H s.y0 s.y1 = rows_of f W H s b in
      let q : mine ≡ columns s =
      run_of-is (row_of f p.y) W (columns s) (rows.passes p.y c h.above) p.x h.right h.left in
      let t : start_of (has (columns s)) p.y ≡ s.y0 =
      start-of (has (columns s)) p.y s.y0
      (record {
        le = c;
        passes = λ u k l. rows.passes u k (let z = h.above in omega arith);
        first = sym (top-starts f W s.y0 (columns s)) ∙ b.is-top;
      }) in
      rw (q, t) (λ i. record { x0 = s.x0; y0 = s.y0; x1 = s.x1; y1 = b.is-end i })

  -- where the point is free, it is a strip, and holds the point
  module _ (lx : p.x < W) (ly : p.y < H) (free : f p.x p.y ≡ true) where
    begins : Start (has mine) p.y (start_of (has mine) p.y)
    begins = start_is (has mine) p.y

    has_here : has mine p.y ≡ true
    has_here = run_of-is_run (row_of f p.y) W p.x lx free

    has-run : (u : ℕ) → start_of (has mine) p.y ≤ u → u ≤ p.y → has mine u ≡ true
    has-run u a b = ⊎_elim (λ q. rw q has_here) (λ l. begins.passes u a l) (eq-or-lt_of_le b)

    pub strip-begun : Begun f W H strip_of
    unfolding strip_of
    strip-begun =
        let l = begins.le in
        record {
          on-board = omega arith;
          is-run = has-run (start_of (has mine) p.y) (omega arith) l;
          is-top = top-starts f W (start_of (has mine) p.y) mine ∙ begins.first;
          is-end = refl;
        }

    goes_on : p.y < stop (has mine) H (start_of (has mine) p.y)
    goes_on =
        let l = begins.le in
        let s : Stop (has mine) H (start_of (has mine) p.y) (stop (has mine) H (start_of (has mine) p.y)) =
        stop-is-stop (has mine) H (start_of (has mine) p.y) (omega arith) in
        ⊎_elim
        (λ k. k)
        (λ k.
        ⊎_elim
        (λ q. absurd (omega arith))
        (λ q. clash (has-run (stop (has mine) H (start_of (has mine) p.y)) s.ge k) q)
        s.ends)
        (lt-or-le p.y (stop (has mine) H (start_of (has mine) p.y)))

    pub strip-held : Held p strip_of
    unfolding strip_of
    strip-held =
        record {
          right = run_of-from (row_of f p.y) W p.x lx free;
          left = run_of-to (row_of f p.y) W p.x lx free;
          below = begins.le;
          above = goes_on;
        }

pub not-before-itself : (s : Strip) → strip_before s s ≡ true → ⊥
unfolding strip_before
not-before-itself s h =
    ⊎_elim
    (λ (k : ltb s.y0 s.y0 ≡ true). let l = ltb-true s.y0 s.y0 k in omega arith)
    (λ k.
    let m : ltb s.x0 s.x0 ≡ true = and_r (eqb s.y0 s.y0) _ k in
    let l = ltb-true s.x0 s.x0 m in
    omega arith)
    (or_cases (ltb s.y0 s.y0) _ h)

-- a list in which nothing stands
pub none-stands : (ss : List Strip) → ((s : Strip) → In s ss → ⊥) → ss ≡ []
none-stands [] h = refl
none-stands (s ∷ ss) h = absurd (h s (inl refl))

-- a list in this order in which s alone stands
pub stands-alone : (s : Strip) (ss : List Strip) → Sorted strip_before ss → In s ss → ((t : Strip) → In t ss → t ≡ s)
    → ss ≡ s ∷ []
stands-alone s [] o i h = absurd i
stands-alone s (t ∷ []) o i h = ap (λ (u : Strip). u ∷ []) (h t (inl refl))
stands-alone s (t ∷ u ∷ ss) o i h =
    absurd (not-before-itself t
    (subst (λ (z : Strip). strip_before t z ≡ true) (h u (inr (inl refl)) ∙ sym (h t (inl refl)))
    (o.0 u (inl refl))))

-- the strips are listed in this order
pub sorted-strips : (f : ℕ → ℕ → Bool) (W H : ℕ) → Sorted strip_before (strips f W H)
unfolding strips_from begun strip_before from_before
sorted-strips f W H =
    sorted-each ltb strip_before (row_strips f W H) (range 0 (H - 0)) (sorted-range 0 (H - 0))
    (λ y k.
    sorted-map from_before strip_before (strip_at f W H y) (keep (is_top f W y) (runs (row_of f y) W))
    (sorted-keep from_before (is_top f W y) (runs (row_of f y) W) (sorted-runs (row_of f y) W))
    (λ r s h. or-ir (ltb y y) (and_i {a = eqb y y} (eq-eqb y y refl) h)))
    (λ y z s t h hs ht.
    let p = of_map (strip_at f W H y) s (keep (is_top f W y) (runs (row_of f y) W)) hs in
    let q = of_map (strip_at f W H z) t (keep (is_top f W z) (runs (row_of f z) W)) ht in
    rw (p.2, q.2) (or-il (eqb y z && ltb p.0.from q.0.from) h))

-- the place that is looked up, at a list's first strip or behind it
place_next : (p : Point) (s d t : Strip) (ss : List Strip) (b : Bool) → holds p t ≡ b → In s (t ∷ ss) → holds p s ≡ true
    → (In s ss → (place_of p ss < length ss) × In (get_or ss (place_of p ss) d) ss × (holds p (get_or ss (place_of p ss) d) ≡ true))
    → (cond b 0 (suc (place_of p ss)) < suc (length ss))
    × In (get_or (t ∷ ss) (cond b 0 (suc (place_of p ss))) d) (t ∷ ss)
    × (holds p (get_or (t ∷ ss) (cond b 0 (suc (place_of p ss))) d) ≡ true)
place_next p s d t ss true e i h k = (omega arith, inl refl, e)
place_next p s d t ss false e i h k =
    let j : In s ss = ⊎_elim (λ (q : s ≡ t). clash h (ap (holds p) q ∙ e)) (λ (q : In s ss). q) i in
    let r = k j in
    (omega arith, inr r.1, r.2)

-- the place that is looked up, where some strip of a list holds the point
pub place_in : (p : Point) (s d : Strip) (ss : List Strip) → In s ss → holds p s ≡ true
    → (place_of p ss < length ss) × In (get_or ss (place_of p ss) d) ss × (holds p (get_or ss (place_of p ss) d) ≡ true)
unfolding place_of
place_in p s d [] i h = absurd i
place_in p s d (t ∷ ss) i h =
    place_next p s d t ss (holds p t) refl i h (λ j. place_in p s d ss j h)
