-- What document 01 says of runs and strips, for every test f of free points, width W and height H.
use Prim.Native.Nat.{ℕ, zero, suc, pred, ◌≤◌, ◌<◌}
use native.Mathlib.Omega.{arith}
use mathlib.Core.Path.{◌≡◌, refl, sym, ap, ◌∙◌}
use mathlib.Core.Bool.{Bool, true, false, cond, ◌&&◌}
use mathlib.Core.List.{List, [], ◌∷◌}
use mathlib.Core.Logic.{◌⊎◌, inl, inr}
use lib.Dec.{ltb}
use lib.ListN.{length, get_or}
use borrow.Author.Tests.{lt-ltb, ltb-true}
use Rattle.foil_spec.specs.Lists.{keep}
use Rattle.foil_spec.specs.Foil.{Point, point}
use Rattle.foil_spec.specs.Strips.{Run, starts, is_run, row_of, Strip, strips, holds, place_of}
use Rattle.list_laws.proofs.Tests.{both, clash, and_i, parts}
use Rattle.list_laws.proofs.Members.{In, in-keep, of-keep, Sorted, sorted-keep}
use Rattle.strip_laws.specs.Rules.{IsRun, columns, IsStrip, strip_before, Stop, FoundStrip}
use Rattle.strip_laws.proofs.Stop.{stop-of, starts-zero, starts-after, starts-not}
use Rattle.strip_laws.proofs.Runs.{is_run-yes, run-starts, run-lt, run-Stop}
use Rattle.strip_laws.proofs.Strips.{Begun, of-strips, in-strips, rows_of, ends-later, top-starts}
use Rattle.strip_laws.proofs.Strips.{Held, of-holds, to-holds, strip_of, strip-only, strip-begun, strip-held}
use Rattle.strip_laws.proofs.Strips.{none-stands, stands-alone, sorted-strips, place_in}

-- nothing that passes stands just before place a
first-place : (g : ℕ → Bool) (a : ℕ) → starts g a ≡ true → (a ≡ 0) ⊎ (g (pred a) ≡ false)
first-place g zero h = inl refl
first-place g (suc a) h = inr (starts-not g a h)

is-first : (g : ℕ → Bool) (a : ℕ) → (a ≡ 0) ⊎ (g (pred a) ≡ false) → starts g a ≡ true
is-first g zero h = starts-zero g
is-first g (suc a) (inl e) = absurd (omega arith)
is-first g (suc a) (inr e) = starts-after g a e

module _ (g : ℕ → Bool) (W : ℕ) (r : Run) where
  -- the test is_run passes for runs
  pub run-means : is_run g W r ≡ true → IsRun g W r
  run-means e =
      let s : Stop g W r.from r.to = run-Stop g W r e in
      record {
        not-empty = run-lt g W r e;
        on-board = s.le;
        all-free = s.passes;
        left = first-place g r.from (run-starts g W r e);
        right = s.ends;
      }

  -- and for nothing else
  pub run_is : IsRun g W r → is_run g W r ≡ true
  run_is h =
      let l = h.not-empty in
      is_run-yes g W r (is-first g r.from h.left) l
      (stop-of g W r.from r.to
      (record { ge = omega arith; le = h.on-board; passes = h.all-free; ends = h.right }))

  -- where the test fails, it is no run
  no_run : {A : Type 0} → A ⊎ (is_run g W r ≡ false) → A ⊎ (IsRun g W r → ⊥)
  no_run (inl a) = inl a
  no_run (inr e) = inr (λ h. clash (run_is h) e)

  run-no : {A : Type 0} → A ⊎ (IsRun g W r → ⊥) → A ⊎ (is_run g W r ≡ false)
  run-no (inl a) = inl a
  run-no (inr n) = inr (both (is_run g W r) (λ e. absurd (n (run-means e))) (λ e. e))

module _ (f : ℕ → ℕ → Bool) (W H : ℕ) where
  -- the listed strips are strips
  pub listed-strip : (s : Strip) → In s (strips f W H) → IsStrip f W H s
  listed-strip s i =
      let b : Begun f W H s = of-strips f W H s i in
      let rows : Stop (λ v. is_run (row_of f v) W (columns s)) H s.y0 s.y1 = rows_of f W H s b in
      record {
        not-empty = ends-later f W H s b;
        on-board = rows.le;
        are-runs = λ y l m. run-means (row_of f y) W (columns s) (rows.passes y l m);
        above =
            no_run (row_of f (pred s.y0)) W (columns s)
            (first-place (λ v. is_run (row_of f v) W (columns s)) s.y0
            (sym (top-starts f W s.y0 (columns s)) ∙ b.is-top));
        below = no_run (row_of f s.y1) W (columns s) rows.ends;
      }

  -- and all of them
  pub strip-listed : (s : Strip) → IsStrip f W H s → In s (strips f W H)
  strip-listed s h =
      let l = h.not-empty in
      let m = h.on-board in
      let has : (y : ℕ) → s.y0 ≤ y → y < s.y1 → is_run (row_of f y) W (columns s) ≡ true =
      λ y a b. run_is (row_of f y) W (columns s) (h.are-runs y a b) in
      in-strips f W H s
      (record {
        on-board = omega arith;
        is-run = has s.y0 (omega arith) l;
        is-top =
            top-starts f W s.y0 (columns s)
            ∙ is-first (λ v. is_run (row_of f v) W (columns s)) s.y0
            (run-no (row_of f (pred s.y0)) W (columns s) h.above);
        is-end =
            sym (stop-of (λ v. is_run (row_of f v) W (columns s)) H s.y0 s.y1
            (record {
              ge = omega arith;
              le = m;
              passes = has;
              ends = run-no (row_of f s.y1) W (columns s) h.below;
            }));
      })

  -- the strips are listed by y0, then x0
  pub strips-in-order : Sorted strip_before (strips f W H)
  strips-in-order = sorted-strips f W H

  -- each free point of the foil is in a strip
  pub in-a-strip : (p : Point) → p.x < W → p.y < H → f p.x p.y ≡ true
      → (s : Strip) × In s (strips f W H) × (holds p s ≡ true)
  in-a-strip p lx ly free = (
    strip_of f W H p,
    in-strips f W H (strip_of f W H p) (strip-begun f W H p lx ly free),
    to-holds p (strip_of f W H p) (strip-held f W H p lx ly free),
  )

  -- and in one only
  pub in-one-only : (p : Point) (s t : Strip) → In s (strips f W H) → In t (strips f W H)
      → holds p s ≡ true → holds p t ≡ true → s ≡ t
  in-one-only p s t i j h k =
      strip-only f W H p s (of-strips f W H s i) (of-holds p s h)
      ∙ sym (strip-only f W H p t (of-strips f W H t j) (of-holds p t k))

  -- a point in a strip is on the foil and free
  pub only-free : (p : Point) (s : Strip) → In s (strips f W H) → holds p s ≡ true
      → (p.x < W) × (p.y < H) × (f p.x p.y ≡ true)
  only-free p s i h =
      let a : IsStrip f W H s = listed-strip s i in
      let k : Held p s = of-holds p s h in
      let r : IsRun (row_of f p.y) W (columns s) = a.are-runs p.y k.below k.above in (
        omega (arith, k.left, r.on-board),
        omega (arith, k.above, a.on-board),
        r.all-free p.x k.right k.left,
      )

  -- a free point of the foil is in just one strip, any other point in none
  pub partition : (p : Point)
      → length (keep (holds p) (strips f W H)) ≡ cond (ltb p.x W && (ltb p.y H && f p.x p.y)) 1 0
  partition p =
      both (ltb p.x W && (ltb p.y H && f p.x p.y))
      (λ e.
      let a : ltb p.x W ≡ true = search parts in
      let b : ltb p.y H ≡ true = search parts in
      let c : f p.x p.y ≡ true = search parts in
      let i = in-a-strip p (ltb-true p.x W a) (ltb-true p.y H b) c in
      rw e
      (ap (λ (ss : List Strip). length ss)
      (stands-alone i.0 (keep (holds p) (strips f W H))
      (sorted-keep strip_before (holds p) (strips f W H) strips-in-order)
      (in-keep (holds p) i.0 (strips f W H) i.1 i.2)
      (λ t k.
      let j = of-keep (holds p) t (strips f W H) k in
      in-one-only p t i.0 j.0 i.1 j.1 i.2))))
      (λ e.
      rw e
      (ap (λ (ss : List Strip). length ss)
      (none-stands (keep (holds p) (strips f W H))
      (λ t k.
      let j = of-keep (holds p) t (strips f W H) k in
      let h = only-free p t j.0 j.1 in
      clash
      (and_i {a = ltb p.x W} (lt-ltb p.x W h.0) (and_i {a = ltb p.y H} (lt-ltb p.y H h.1) h.2))
      e))))

  -- the lookup gives the one strip that holds the point, by its place in the list
  pub found-strip : FoundStrip f W H
  found-strip p d lx ly free =
      let a = in-a-strip p lx ly free in
      let r = place_in p a.0 d (strips f W H) a.1 a.2 in (
        r.0,
        r.2,
        λ s i k. in-one-only p s (get_or (strips f W H) (place_of p (strips f W H)) d) i r.1 k r.2,
      )

  -- a strip holds its first point
  holds-first : (s : Strip) → In s (strips f W H) → holds (point s.x0 s.y0) s ≡ true
  holds-first s i =
      let a : IsStrip f W H s = listed-strip s i in
      to-holds (point s.x0 s.y0) s
      (record {
        right = omega arith;
        left = (a.are-runs s.y0 (omega arith) a.not-empty).not-empty;
        below = omega arith;
        above = a.not-empty;
      })

-- a place is 0, or what is said of the one before it holds
behind : {A : Type 0} (a : ℕ) → (pred a < a → A) → (a ≡ 0) ⊎ A
behind zero k = inl refl
behind (suc a) k = inr (k (omega arith))

-- a foil on which a point is free just if it lies in a box
module _
    (f : ℕ → ℕ → Bool) (W H : ℕ) (box : Strip) (all-free : (p : Point) → Held p box → f p.x p.y ≡ true)
    (no_other : (p : Point) → f p.x p.y ≡ true → Held p box) where
  beside : (p : Point) → (Held p box → ⊥) → f p.x p.y ≡ false
  beside p n = both (f p.x p.y) (λ e. absurd (n (no_other p e))) (λ e. e)

  -- the first point of a strip lies in it
  first-in : (s : Strip) → In s (strips f W H) → Held (point s.x0 s.y0) box
  first-in s i =
      let p : Point = point s.x0 s.y0 in
      no_other p (only-free f W H p s i (holds-first f W H s i)).2

  module _ (across : box.x0 < box.x1) (down : box.y0 < box.y1) (wide : box.x1 ≤ W) (high : box.y1 ≤ H) where
    box-listed : In box (strips f W H)
    box-listed =
        strip-listed f W H box
        (record {
          not-empty = down;
          on-board = high;
          are-runs = λ y a b.
              record {
                not-empty = across;
                on-board = wide;
                all-free = λ x c d. all-free (point x y) (record { right = c; left = d; below = a; above = b });
                left =
                    behind box.x0
                    (λ l. beside (point (pred box.x0) y) (λ k. omega (arith, k.right)));
                right = inr (beside (point box.x1 y) (λ k. omega (arith, k.left)));
              };
          above =
              behind box.y0
              (λ l r.
              omega (arith, (no_other (point box.x0 (pred box.y0)) (r.all-free _ (omega arith) across)).below));
          below =
              inr
              (λ r. omega (arith, (no_other (point box.x0 box.y1) (r.all-free _ (omega arith) across)).above));
        })

    -- has the box for its one strip
    pub one-strip : strips f W H ≡ box ∷ []
    one-strip =
        stands-alone box (strips f W H) (strips-in-order f W H) box-listed
        (λ s i.
        let p : Point = point s.x0 s.y0 in
        in-one-only f W H p s box i box-listed (holds-first f W H s i) (to-holds p box (first-in s i)))

  -- or none where the box is empty
  pub no-strip : ((p : Point) → Held p box → ⊥) → strips f W H ≡ []
  no-strip none = none-stands (strips f W H) (λ s i. none (point s.x0 s.y0) (first-in s i))
