-- Laws of a pass: visiting only the crossings with the label v does what a pass over all lines does.
use Prim.Native.Nat.{ℕ, zero, suc, ◌+◌, ◌*◌, ◌≤◌, ◌<◌}
use native.Mathlib.Nat.{add-zero}
use native.Mathlib.Omega.{arith}
use native.Mathlib.Decide.{dec_le, dec_lt, ℕ_discrete}
use mathlib.Core.Path.{◌≡◌, refl, sym, subst, ◌∙◌}
use mathlib.Core.Logic.{◌≢◌}
use mathlib.Core.Bool.{true}
use mathlib.Core.List.{List}
use lib.Dec.{eqb}
use borrow.Author.Tests.{eqb-true}
use lib.ListN.{get_or, length}
use Rattle.std.specs.Prelude.{Some, None}
use Rattle.grid.specs.Size.{stride}
use Rattle.runs.specs.Line.{along, across, Linked, RunStart, RunEnd, label_top}
use Rattle.runs.specs.Ink.{OnLine, StopIn, Blank, RunInked, LeastInk, Inked, Lean}
use Rattle.labels.specs.Pass.{zeros, Cell, kept, none, new, Pass, floor, Full, Spans, Marks, Marked}
use Rattle.labels.specs.Pass.{Widened, NextNew, Fill, held, fresh, RunFilled, Visit, passed, left, ran}
use Rattle.labels.specs.Pass.{OneWay, LineLists, Visiting}
use Rattle.labels.specs.Pass.{Part, stood, got, Done, labelled, waits, NewLabel, Visited}
use Rattle.labels.specs.Pass.{Spanned, PassTo}
use Rattle.labels.specs.declared.Run.{Run}
use Rattle.labels.proofs.Runs.{zeros-le}
use Rattle.runs.proofs.Inks.{lean-low}
use Rattle.runs.proofs.Line.{linked-sym, linked-trans, in-run, run-joined}

-- One line of a direction.
module _ {lab own other inks link cross : List ℕ} {m n : ℕ} (W : OneWay lab own other inks link cross m n) {line : ℕ}
    (l : line < m) where
  pub on_line : {v : ℕ} → 1 ≤ v → v < label_top → Lean n m other inks → OnLine other inks cross line n v
  on_line pos top lean = record {
    line-in = omega (arith, W.few);
    crossings = W.crossings;
    top = top;
    others = W.others;
    other-inks = W.other-inks;
    low = lean-low _ _ lean l pos;
  }

  pub line-lists : {lab' own' : List ℕ} → length lab' ≡ length lab → length own' ≡ length own →
      LineLists lab' own' link line
  line-lists e f = record {
    labels = omega (arith, W.labels);
    own-inks = omega (arith, W.own-inks);
    links = omega (arith, W.links);
  }

-- a visit of a crossing whose run has labels
pub visit-passed : {other inks link cross l w : List ℕ} {line n k v low : ℕ} → low ≡ floor v →
    low < along l line k → Visit other inks link cross line n k v l l w w None
visit-passed {l = l} {line = line} {k = k} {v = v} e x = let z : floor v < along l line k = omega arith in passed z

-- The run of a crossing that is visited.
module _ {lab other link ahead behind : List ℕ} {line n k v low lo hi : ℕ}
    (G : Visiting lab other link ahead behind line n k v low) where
  pub stop-in : RunStart link line k lo → RunEnd link line n k hi → StopIn other line n v lo hi k
  stop-in s e = record { hi-in = e.le; from = s.le; to = e.after; stop = G.stop }

  -- none of its labels is above 0 so far, since that of crossing k is not
  pub blank-run : along lab line k ≤ low → RunStart link line k lo → RunEnd link line n k hi → eqb low 0 ≡ true →
      Blank lab line lo hi
  blank-run few s e none_yet = record { none = λ j l h. pick j l h (ℕ_discrete (along lab line j) 0) }
    where
      pick : (j : ℕ) → lo ≤ j → j < hi → Dec (along lab line j ≡ 0) → along lab line j ≡ 0
      pick j l h (yes x) = x
      pick j l h (no x) =
          let z = eqb-true low 0 none_yet in
          let le = e.le in
          let same = G.low-is in
          absurd (G.joined.on j k (omega arith) G.k-in (run-joined s e j l h k s.le e.after) (omega arith)
          (omega arith))

fill_on : {v a b : ℕ} → Fill v a b → b ≢ 0
fill_on (held h) = h
fill_on fresh = λ e. omega arith

fill-new : {v a b : ℕ} → Fill v a b → a ≡ 0 → b ≡ v + 1
fill-new (held h) z = absurd (h z)
fill-new fresh z = refl

fill-held : {v a b : ℕ} → Fill v a b → a ≢ 0 → b ≡ a
fill-held (held h) z = refl
fill-held fresh z = absurd (z refl)

-- A list that changes only at the crossings lo to hi of a line: a crossing is one of them, or it is as it was.
run-cases : {line lo hi n : ℕ} (l₀ l : List ℕ) → n ≤ stride → hi ≤ n →
    ((i : ℕ) → i < line * stride + lo → get_or l i 0 ≡ get_or l₀ i 0) →
    ((i : ℕ) → line * stride + hi ≤ i → get_or l i 0 ≡ get_or l₀ i 0) → (i k : ℕ) → k < n → {P : Type 0} →
    (i ≡ line → lo ≤ k → k < hi → P) → (along l i k ≡ along l₀ i k → P) → P
run-cases {line} {lo} {hi} {n} l₀ l few le low high i k lk {P} f g =
    pick (ℕ_discrete i line) (dec_lt i line) (dec_le lo k) (dec_lt k hi)
  where
    pick : Dec (i ≡ line) → Dec (i < line) → Dec (lo ≤ k) → Dec (k < hi) → P
    pick (no x) (yes w) y z = g (low (i * stride + k) (omega arith))
    pick (no x) (no w) y z = g (high (i * stride + k) (omega arith))
    pick (yes x) w (yes y) (yes z) = f x y z
    pick (yes x) w (no y) z = g (low (i * stride + k) (omega arith))
    pick (yes x) w (yes y) (no z) = g (high (i * stride + k) (omega arith))

-- The labels outside of a run that is filled stay, and so do those in it.
module _ {line lo hi v n : ℕ} {l₀ l : List ℕ} {c : ℕ} (R : RunFilled line lo hi v l₀ l c) (few : n ≤ stride)
    (le : hi ≤ n) where
  fill-cases : (i k : ℕ) → k < n → {P : Type 0} → (i ≡ line → lo ≤ k → k < hi → P)
      → (along l i k ≡ along l₀ i k → P) → P
  fill-cases = run-cases l₀ l few le R.low R.high

  run-held : (i k : ℕ) → k < n → along l₀ i k ≢ 0 → along l i k ≡ along l₀ i k
  run-held i k lk ne = fill-cases i k lk (λ x y z. rw x (fill-held (R.fill k z y) (rw x at ne))) (λ e. e)

  run-grown : (i k : ℕ) → k < n → along l₀ i k ≢ 0 → along l i k ≢ 0
  run-grown i k lk ne = rw (run-held i k lk ne) ne

  done-grown : {other link : List ℕ} {i k : ℕ} → Done other link i n v l₀ k → Done other link i n v l k
  done-grown {i = i} (labelled h) = labelled (λ q lq z. run-grown i q lq (h q lq z))
  done-grown (waits x) = waits x

-- A part of a pass.
part-fresh : {other link : List ℕ} {line n v k a b : ℕ} (h : ℕ) → h < n → Linked link line k h →
    across other line h ≡ v → Part other link line n v k a b → b ≡ 0 → Part other link line n v k a (v + 1)
part-fresh h l r e stood z = rw z (got h l r e)
part-fresh h l r e (got q lq s f) z = absurd (omega arith)

part-was : {other link : List ℕ} {line n v k a b : ℕ} → Part other link line n v k a b → b ≡ 0 → a ≡ 0
part-was stood z = z
part-was (got q l r e) z = refl

part-fill : {other link : List ℕ} {line n v k a b c : ℕ} (h : ℕ) → h < n → Linked link line k h →
    across other line h ≡ v → Part other link line n v k a b → Fill v b c → Part other link line n v k a c
part-fill h l r e x (held y) = x
part-fill h l r e x fresh = part-fresh h l r e x refl

visited-none : (other link : List ℕ) (m n v : ℕ) (l : List ℕ) → Full link l m n (floor v) →
    Visited other link m n v 0 l l 0
visited-none other link m n v l F = record {
  size = refl;
  part = λ i li k lk. stood;
  did = λ i li k lk p. absurd (omega arith);
  count = add-zero (zeros l);
  same = λ e. refl;
  new = λ e. absurd (e refl);
  full = F;
}

-- no crossing between two places has the label v
visited-past : {other link : List ℕ} {m n v p r : ℕ} {l₀ l : List ℕ} {c : ℕ} →
    ((i : ℕ) → i < m → (k : ℕ) → k < n → p ≤ k * stride + i → k * stride + i < r → across other i k ≢ v) →
    Visited other link m n v p l₀ l c → Visited other link m n v r l₀ l c
visited-past {other} {link} {m} {n} {v} {p} {r} {l₀} {l} free G = record {
  size = G.size;
  part = G.part;
  did = λ i li k lk lt e. pick i li k lk lt e (dec_lt (k * stride + i) p);
  count = G.count;
  same = G.same;
  new = G.new;
  full = G.full;
}
  where
    pick : (i : ℕ) → i < m → (k : ℕ) → k < n → k * stride + i < r → across other i k ≡ v → Dec (k * stride + i < p) →
        Done other link i n v l k
    pick i li k lk lt e (yes y) = G.did i li k lk y e
    pick i li k lk lt e (no y) = absurd (free i li k lk (omega arith) lt e)

-- crossing h of a line is visited
module _ {other link : List ℕ} {m n v : ℕ} {l₀ l : List ℕ} {c line h : ℕ} (ll : line < m) (lh : h < n) (fm : m ≤ stride)
    (G : Visited other link m n v (h * stride + line) l₀ l c) where
  -- what was done before and what is done at h
  did_more : {l' : List ℕ} →
      ((i : ℕ) → i < m → (k : ℕ) → k < n → Done other link i n v l k → Done other link i n v l' k) →
      Done other link line n v l' h → (i : ℕ) → i < m → (k : ℕ) → k < n → k * stride + i < h * stride + (line + 1) →
      across other i k ≡ v → Done other link i n v l' k
  did_more {l'} grown d i li k lk lt e = pick (dec_lt (k * stride + i) (h * stride + line))
    where
      pick : Dec (k * stride + i < h * stride + line) → Done other link i n v l' k
      pick (yes y) = grown i li k lk (G.did i li k lk y e)
      pick (no y) =
          let ek : k ≡ h = omega arith in
          let ei : i ≡ line = omega arith in
          rw (ei, ek) d

  -- nothing is to be filled
  visited-as-is : Done other link line n v l h → Visited other link m n v (h * stride + (line + 1)) l₀ l c
  visited-as-is d = record {
    size = G.size;
    part = G.part;
    did = did_more (λ i li k lk x. x) d;
    count = G.count;
    same = G.same;
    new = G.new;
    full = G.full;
  }

  -- its run was filled before
  visited-skip : floor v < along l line h → Visited other link m n v (h * stride + (line + 1)) l₀ l c
  visited-skip t = visited-as-is (labelled (λ q lq z. (G.full.joined line ll).on h q lh lq z t))

  -- its run is filled now
  module _ {l' : List ℕ} {r lo hi : ℕ} (few : n ≤ stride) (ev : across other line h ≡ v) (s : RunStart link line h lo)
      (e : RunEnd link line n h hi) (R : RunFilled line lo hi v l l' r) where
    run_on : (q : ℕ) → q < n → Linked link line h q → along l' line q ≢ 0
    run_on q lq z = let w = in-run q lh lq s e z in fill_on (R.fill q w.1 w.0)

    in-line : (k : ℕ) → lo ≤ k → k < hi → Linked link line k h
    in-line k x y = run-joined s e k x y h s.le e.after

    -- a new label, of this run or of one before
    run-new : c + r ≢ 0 → Dec (r ≡ 0) → NewLabel m n v l₀ l'
    run-new z (no y) =
        let w = R.new y in
        let in-n : w.0 < n = omega (arith, w.2, e.le) in
        record {
          line = line;
          k = w.0;
          line-in = ll;
          k-in = in-n;
          was = part-was (G.part line ll w.0 in-n) w.3;
          is = fill-new (R.fill w.0 w.2 w.1) w.3;
        }
    run-new z (yes y) =
        let w = G.new (λ x. z (omega arith)) in
        record {
          line = w.line;
          k = w.k;
          line-in = w.line-in;
          k-in = w.k-in;
          was = w.was;
          is = run-held R few e.le w.line w.k w.k-in (λ x. omega (arith, w.is)) ∙ w.is;
        }

    visited-run : Visited other link m n v (h * stride + (line + 1)) l₀ l' (c + r)
    visited-run = record {
      size = R.size ∙ G.size;
      part = λ i li k lk.
          fill-cases R few e.le i k lk
          (λ x y z. rw x (part-fill h lh (in-line k y z) ev (G.part line ll k lk) (R.fill k z y)))
          (λ x. rw x (G.part i li k lk));
      did = did_more (λ i li k lk d. done-grown R few e.le d) (labelled run_on);
      count = omega (arith, G.count, R.count);
      same = λ z. R.same (omega arith) ∙ G.same (omega arith);
      new = λ z. run-new z (ℕ_discrete r 0);
      full = record {
        joined = λ i li. record {
          on = λ k q lk lq z t.
              fill-cases R few e.le i k lk
              (λ x y w.
              let r = linked-sym link line k h (in-line k y w) in
              rw x (run_on q lq (linked-trans link line h k q r (rw x at z))))
              (λ x. run-grown R few e.le i q lq ((G.full.joined i li).on k q lk lq z (omega arith)));
        };
      };
    }

-- When all are visited, all that is joined with a label v of the other direction has a label: a visit that was left to
-- a crossing before it came to one that was not.
module _ {other link : List ℕ} {m n v : ℕ} {l₀ l : List ℕ} {c : ℕ} (fm : m ≤ stride)
    (G : Visited other link m n v (n * stride) l₀ l c) (i : ℕ) (li : i < m) where
  by-done : (k : ℕ) → k < n → ((j : ℕ) → j < k → across other i j ≡ v → (q : ℕ) → q < n → Linked link i j q
      → along l i q ≢ 0) → Done other link i n v l k → (q : ℕ) → q < n → Linked link i k q → along l i q ≢ 0
  by-done k lk before (labelled h) q lq z = h q lq z
  by-done k lk before (waits x) q lq z =
      before x.j x.before x.stop q lq
      (linked-trans link i x.j k q (linked-sym link i k x.j x.linked) z)

  up_to : (most k : ℕ) → k < most → k < n → across other i k ≡ v → (q : ℕ) → q < n → Linked link i k q
      → along l i q ≢ 0
  up_to zero k lt lk e q lq z = absurd (omega arith)
  up_to (suc most) k lt lk e q lq z =
      by-done k lk (λ j lj. up_to most j (omega arith) (omega arith)) (G.did i li k lk (omega arith) e) q lq z

  all-labelled : (k : ℕ) → k < n → across other i k ≡ v → (q : ℕ) → q < n → Linked link i k q → along l i q ≢ 0
  all-labelled k = up_to (suc k) k (omega arith)

suc-on : (x : ℕ) → suc x ≢ 0
suc-on x e = omega (arith, e)

-- all are visited: a pass over all lines
pub visited-all : {other link : List ℕ} {m n v : ℕ} {l₀ l : List ℕ} {c : ℕ} → m ≤ stride →
    Visited other link m n v (n * stride) l₀ l c → Pass other link m n v l₀ l
visited-all {other} {link} {m} {n} {v} {l₀} {l} fm G = record {
  cell = λ i li k lk. cell i li k lk (along l₀ i k) (along l i k) (G.part i li k lk) refl;
}
  where
    cell : (i : ℕ) → i < m → (k : ℕ) → k < n → (x y : ℕ) → Part other link i n v k x y → y ≡ along l i k →
        Cell other link i n v k x y
    cell i li k lk x y (got q lq z e) w = new q lq z e
    cell i li k lk zero y stood w =
        none (λ q lq z e. all-labelled fm G i li q lq e k lk (linked-sym link i k q z) (sym w))
    cell i li k lk (suc x) y stood w = kept (suc-on x)

-- and what is joined with any label has one
pub visited-full : {other link : List ℕ} {m n v : ℕ} {l₀ l : List ℕ} {c : ℕ} → 1 ≤ v → m ≤ stride →
    Visited other link m n v (n * stride) l₀ l c →
    ((i : ℕ) → i < m → (k : ℕ) → k < n → along l i k ≡ 1 → across other i k ≡ 1) → Full link l m n (floor (v + 1))
visited-full {other} {link} {m} {n} {v} {l₀} {l} pos fm G twin = record {
  joined = λ i li. record { on = λ k q lk lq z t. pick i li k q lk lq z t (dec_lt (floor v) (along l i k)) };
}
  where
    pick : (i : ℕ) → i < m → (k q : ℕ) → k < n → q < n → Linked link i k q → floor (v + 1) < along l i k →
        Dec (floor v < along l i k) → along l i q ≢ 0
    pick i li k q lk lq z t (yes x) = (G.full.joined i li).on k q lk lq z x
    pick i li k q lk lq z t (no x) =
        let one = twin i li k lk (omega arith) in
        all-labelled fm G i li k lk (omega arith) q lq z

-- What the marks span.
spanned-none : {t : List ℕ} {m n : ℕ} (l : List ℕ) → Marks t n → Spanned t m n l l
spanned-none l M = record { fit = M; whole = λ i li k lk z y. absurd (y z) }

-- a run with new labels, or with none
spanned-run : {t t' : List ℕ} {m n v line lo hi : ℕ} {l₀ l l' : List ℕ} {c : ℕ} → n ≤ stride → hi ≤ n →
    RunFilled line lo hi v l l' c → Widened line lo hi c t t' → Spanned t m n l₀ l → Spanned t' m n l₀ l'
spanned-run {t} {t'} {m} {n} {v} {line} {lo} {hi} {l₀} {l} {l'} {c} few le R W A =
    record {
      fit = W.marks n le A.fit;
      whole = λ i li k lk z y. pick i li k lk z y (ℕ_discrete (along l i k) 0) (ℕ_discrete c 0);
    }
  where
    pick : (i : ℕ) → i < m → (k : ℕ) → k < n → along l₀ i k ≡ 0 → along l' i k ≢ 0 → Dec (along l i k ≡ 0) →
        Dec (c ≡ 0) → Spans t' i k
    pick i li k lk z y (no x) d = W.old i k (A.whole i li k lk z x)
    pick i li k lk z y (yes x) (yes d) = absurd (rw (R.same d) at y x)
    pick i li k lk z y (yes x) (no d) =
        fill-cases R few le i k lk (λ f a b. rw f (W.new d k a b)) (λ f. absurd (y (f ∙ x)))

-- The inks that come with the labels of a run.
pub inked-none : (other inks link cross : List ℕ) (m n v : ℕ) (l w : List ℕ) → Inked other inks link cross m n v l l w w
inked-none other inks link cross m n v l w = record {
  size = refl;
  kept = λ i li k lk z. refl;
  fresh = λ i li k lk z y. absurd (y z);
}

part_held : {other link : List ℕ} {line n v k a b : ℕ} → Part other link line n v k a b → a ≢ 0 → b ≢ 0
part_held stood z = z
part_held (got q l r e) z = absurd (z refl)

module _ {other inks link cross : List ℕ} {m n v p : ℕ} {l₀ l l' w₀ w w' : List ℕ} {c r line h lo hi : ℕ}
    (lh : h < n) (few : n ≤ stride) (G : Visited other link m n v p l₀ l c) (s : RunStart link line h lo)
    (e : RunEnd link line n h hi) (R : RunFilled line lo hi v l l' r)
    (K : RunInked other inks cross line v lo hi hi l w w') (I : Inked other inks link cross m n v l₀ l w₀ w) where
  ink-cases : (i k : ℕ) → k < n → {P : Type 0} → (i ≡ line → lo ≤ k → k < hi → P) → (along w' i k ≡ along w i k → P) → P
  ink-cases = run-cases w w' few e.le K.low K.high

  -- the inks of crossings with a label stay
  ink-held : (i k : ℕ) → k < n → along l i k ≢ 0 → along w' i k ≡ along w i k
  ink-held i k lk z = ink-cases i k lk (λ x y t. rw x (K.kept k t y (rw x at z))) (λ x. x)

  -- those of the run are the least over what is joined
  ink-fresh : (k : ℕ) → lo ≤ k → k < hi → along l line k ≡ 0 →
      LeastInk other inks link cross line n v k (along w' line k)
  ink-fresh k y t z =
      let L = K.fresh k t y z in
      let le = e.le in
      record {
        le = λ q lq j st.
            let u = in-run q lh lq s e (linked-trans link line h k q (run-joined s e h s.le e.after k y t) j) in
            L.le q u.0 u.1 st;
        q = L.q;
        below = let u = L.to in omega arith;
        linked = run-joined s e k y t L.q L.from L.to;
        stop = L.stop;
        ge = L.ge;
      }

  inked-run : Inked other inks link cross m n v l₀ l' w₀ w'
  inked-run = record {
    size = K.size ∙ I.size;
    kept = λ i li k lk z. ink-held i k lk (part_held (G.part i li k lk) z) ∙ I.kept i li k lk z;
    fresh = λ i li k lk z y. pick i li k lk z y (ℕ_discrete (along l i k) 0);
  }
    where
      pick : (i : ℕ) → i < m → (k : ℕ) → k < n → along l₀ i k ≡ 0 → along l' i k ≢ 0 → Dec (along l i k ≡ 0) →
          LeastInk other inks link cross i n v k (along w' i k)
      pick i li k lk z y (no x) = rw (ink-held i k lk x) (I.fresh i li k lk z x)
      pick i li k lk z y (yes x) =
          fill-cases R few e.le i k lk (λ f g t. rw f (ink-fresh k g t (rw f at x))) (λ f. absurd (y (f ∙ x)))

-- A pass, place after place of the other direction's labels.
pub passing-none : (other inks link cross : List ℕ) (m n v : ℕ) (l w : List ℕ) {t : List ℕ} → Marks t n →
    Full link l m n (floor v) → PassTo other inks link cross m n v 0 l l w w t 0
passing-none other inks link cross m n v l w M F = record {
  visited = visited-none other link m n v l F;
  inked = inked-none other inks link cross m n v l w;
  spanned = spanned-none l M;
}

-- from one crossing of line h of the other direction to the next with the label v
pub passing-next : {other inks link cross : List ℕ} {m n v h at end r : ℕ} {l₀ l w₀ w t : List ℕ} {c : ℕ} →
    m ≤ stride → NextNew other h at end v r → end ≤ m →
    PassTo other inks link cross m n v (h * stride + at) l₀ l w₀ w t c →
    PassTo other inks link cross m n v (h * stride + r) l₀ l w₀ w t c
passing-next {other} {v = v} {h = h} fm N le G = record {
  visited = visited-past
      (λ i li k lk a b.
      let rl = N.le in
      let e : k ≡ h = omega arith in
      subst (λ (x : ℕ). across other i x ≢ v) (sym e) (N.before i (omega arith) (omega arith)))
      G.visited;
  inked = G.inked;
  spanned = G.spanned;
}

-- from the line's first crossing to the first with the label v after its marks begin
pub passing-first : {other inks link cross from : List ℕ} {m n v h at end r : ℕ} {l₀ l w₀ w t : List ℕ} {c : ℕ} →
    m ≤ stride → h < n → at + get_or from (2 * h) 0 ≡ stride → end ≤ m → Marked from n m other v →
    NextNew other h at end v r → PassTo other inks link cross m n v (h * stride) l₀ l w₀ w t c →
    PassTo other inks link cross m n v (h * stride + r) l₀ l w₀ w t c
passing-first {other} {m = m} {n = n} {v = v} {h = h} {at = at} {r = r} fm lh e le F N G = record {
  visited = visited-past (λ i li k lk a b x. outside i li k lk a b x (dec_lt i at)) G.visited;
  inked = G.inked;
  spanned = G.spanned;
}
  where
    outside : (i : ℕ) → i < m → (k : ℕ) → k < n → h * stride ≤ k * stride + i → k * stride + i < h * stride + r →
        across other i k ≡ v → Dec (i < at) → ⊥
    outside i li k lk a b x d =
        let rl = N.le in
        let ek : k ≡ h = omega arith in
        let y : across other i h ≡ v = rw ek at x in
        pick y (omega arith) d
      where
        pick : across other i h ≡ v → i < r → Dec (i < at) → ⊥
        pick y ir (yes z) = let s = (F.whole h lh i li y).from in omega arith
        pick y ir (no z) = N.before i ir (omega arith) y

-- and from where its marks end to the next line
pub passing-line : {other inks link cross from : List ℕ} {m n v h at : ℕ} {l₀ l w₀ w t : List ℕ} {c : ℕ} → m ≤ stride →
    h < n → get_or from (2 * h + 1) 0 ≤ at → Marked from n m other v →
    PassTo other inks link cross m n v (h * stride + at) l₀ l w₀ w t c →
    PassTo other inks link cross m n v ((h + 1) * stride) l₀ l w₀ w t c
passing-line {other} {v = v} {h = h} fm lh le F G = record {
  visited = visited-past
      (λ i li k lk a b x.
      let ek : k ≡ h = omega arith in
      let y : across other i h ≡ v = rw ek at x in
      let s = (F.whole h lh i li y).to in
      omega arith)
      G.visited;
  inked = G.inked;
  spanned = G.spanned;
}

-- there are no more new labels than places that had none
pub passing-few : {other inks link cross : List ℕ} {m n v p : ℕ} {l₀ l w₀ w t : List ℕ} {c : ℕ} →
    PassTo other inks link cross m n v p l₀ l w₀ w t c → c + zeros l ≤ length l₀
passing-few {l₀ = l₀} G = omega (arith, G.visited.count, zeros-le l₀)

-- a visit takes from the places without a label as many as it gives labels
pub visit-count : {other inks link cross : List ℕ} {line n k v : ℕ} {l l' w w' : List ℕ} {r : Run} →
    Visit other inks link cross line n k v l l' w w' (Some r) → zeros l' + r.new ≡ zeros l
visit-count (ran s e K R) = R.count

-- its run is on the line
pub visit-in : {other inks link cross : List ℕ} {line n k v : ℕ} {l l' w w' : List ℕ} {r : Run} → k < n →
    Visit other inks link cross line n k v l l' w w' (Some r) → (r.lo ≤ n) × (r.hi ≤ n)
visit-in lk (ran s e K R) = (omega (arith, s.le), e.le)

-- crossing h of a line is visited, and its marks are made to span the run, if there is one
module _ {other inks link cross : List ℕ} {m n v : ℕ} {l₀ l w₀ w t : List ℕ} {c line h : ℕ} (few : n ≤ stride)
    (fm : m ≤ stride) (ll : line < m) (lh : h < n) (ev : across other line h ≡ v)
    (G : PassTo other inks link cross m n v (h * stride + line) l₀ l w₀ w t c) where
  pub passing-still : {l' w' : List ℕ} → Visit other inks link cross line n h v l l' w w' None →
      PassTo other inks link cross m n v (h * stride + (line + 1)) l₀ l' w₀ w' t c
  passing-still (passed x) = record {
    visited = visited-skip ll lh fm G.visited x;
    inked = G.inked;
    spanned = G.spanned;
  }
  passing-still (left x) = record {
    visited = visited-as-is ll lh fm G.visited (waits x);
    inked = G.inked;
    spanned = G.spanned;
  }

  pub passing-more : {l' w' t' : List ℕ} {r : Run} → Visit other inks link cross line n h v l l' w w' (Some r) →
      Widened line r.lo r.hi r.new t t' →
      PassTo other inks link cross m n v (h * stride + (line + 1)) l₀ l' w₀ w' t' (c + r.new)
  passing-more (ran s e K R) W = record {
    visited = visited-run ll lh fm G.visited few ev s e R;
    inked = inked-run lh few G.visited s e R K G.inked;
    spanned = spanned-run few e.le R W G.spanned;
  }

-- A part of a pass, whatever went before it.
pub record PassOn (other inks link cross : List ℕ) (m n v p r : ℕ) (l l' w w' t t' : List ℕ) (c c' : ℕ) : Type 0 where
  pub on : (l₀ w₀ : List ℕ) → PassTo other inks link cross m n v p l₀ l w₀ w t c →
      PassTo other inks link cross m n v r l₀ l' w₀ w' t' c'
