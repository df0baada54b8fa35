-- Laws of the inks along a run: two sweeps carry the least along, and from both it is the least over all stops.
use Prim.Native.Nat.{ℕ, ◌+◌, ◌-◌, ◌*◌, ◌≤◌, ◌<◌, min}
use native.Mathlib.Omega.{arith}
use native.Mathlib.Decide.{dec_le, dec_lt, ℕ_discrete}
use mathlib.Core.Path.{◌≡◌, refl, sym, subst, ◌∙◌}
use mathlib.Core.Logic.{◌≢◌, ◌⊎◌, inl, inr}
use mathlib.Core.List.{List}
use lib.ListN.{get_or, set, length, length-set}
use lib.Seq.{get_or-set_same, get_or-set_other}
use borrow.Author.Count.{below_more}
use Rattle.foil_spec.specs.Limits.{max_side}
use Rattle.foil_spec.specs.Paths.{gap}
use Rattle.grid.specs.Size.{stride}
use Rattle.grid.specs.Lines.{Lines}
use Rattle.runs.specs.Line.{along, across}
use Rattle.runs.specs.Ink.{Low, Carried, Least, Over, Ahead, Behind}
use Rattle.runs.specs.Ink.{InkPut, stays, puts, RunInked, Lean}

-- the numbers of crossings a to b of a line do not fall
pub rises : {cross : List ℕ} {n : ℕ} → Lines cross n → (a b : ℕ) → a ≤ b → b < n → get_or cross a 0 ≤ get_or cross b 0
rises {cross} L a b l lb = pick (dec_lt a b)
  where
    pick : Dec (a < b) → get_or cross a 0 ≤ get_or cross b 0
    pick (yes p) = let s = L.rising.up a b p lb in omega arith
    pick (no p) = let e : a ≡ b = omega arith in rw e (omega arith)

-- the inks of the stops on a line are small
pub lean-low : {other inks : List ℕ} {m n : ℕ} (line v : ℕ) → Lean n m other inks → line < m → 1 ≤ v →
    Low other inks line n v
lean-low line v L ll p = record { le = λ q lq e. omega (arith, L.le q lq line ll (omega arith)) }

-- A sweep over the run from lo to hi, on which crossing k stands g k high and none above `top`, has come over the
-- crossings a to b. What it carries is no more than any ink over their stops with that stop's height, and no less than
-- one over a stop of the run; a stop that is still to come counts as if it lay beyond the top.
pub record Sweep (other inks : List ℕ) (line v lo hi : ℕ) (g : ℕ → ℕ) (top a b best : ℕ) : Type 0 where
  pub small : best ≤ 4095 * v + 8192
  pub le : (q : ℕ) → a ≤ q → q < b → across other line q ≡ v → best ≤ across inks line q + g q
  pub q : ℕ
  pub from : lo ≤ q
  pub to : q < hi
  pub stop : across other line q ≡ v
  pub near : across inks line q + g q ≤ best
  pub below : q < a → across inks line q + 2 * top ≤ best + g q
  pub above : b ≤ q → across inks line q + 2 * top ≤ best + g q

-- the height of a stop against that of a crossing where p is carried
over-le : (p c d i : ℕ) → p ≤ i + d → p - c ≤ i + gap c d
over-le p c d i h = omega arith

over-near : (p c d i : ℕ) → i + d ≤ p → c ≤ d → i + gap c d ≤ p - c
over-near p c d i h l = omega arith

over-far : (p c d i top : ℕ) → i + d ≤ p → i + 2 * top ≤ p + d → c ≤ top → i + gap c d ≤ p - c
over-far p c d i top h f l = omega arith

-- upside down, numbers are as far apart
pub flipped : (a b : ℕ) → a < max_side → b < max_side → gap a b ≡ gap (max_side - a) (max_side - b)
flipped a b la lb = pick (dec_le a b)
  where
    pick : Dec (a ≤ b) → gap a b ≡ gap (max_side - a) (max_side - b)
    pick (yes p) = omega arith
    pick (no p) = omega arith

module _ {other inks : List ℕ} {line v lo hi : ℕ} {g : ℕ → ℕ} {top : ℕ} where
  -- over crossing k, besides those from a to b
  pub sweep-step : {a b best k r : ℕ} (a' b' : ℕ) → Sweep other inks line v lo hi g top a b best →
      Carried other inks line v k (g k) best r → lo ≤ k → k < hi → a' ≤ a → b ≤ b' → a' ≤ k → k < b' →
      ((q : ℕ) → a' ≤ q → q < b' → q ≢ k → (a ≤ q) × (q < b)) → Sweep other inks line v lo hi g top a' b' r
  sweep-step {a} {b} {best} {k} {r} a' b' S C lk hk la lb ka kb part = pick C.is
    where
      all : (q : ℕ) → a' ≤ q → q < b' → across other line q ≡ v → r ≤ across inks line q + g q
      all q f t e = go (ℕ_discrete q k)
        where
          go : Dec (q ≡ k) → r ≤ across inks line q + g q
          go (yes i) =
              let h = C.no_more (subst (λ (j : ℕ). across other line j ≡ v) i e) in
              subst (λ (j : ℕ). r ≤ across inks line j + g j) (sym i) h
          go (no i) = let p = part q f t i in omega (arith, C.no-farther, S.le q p.0 p.1 e)

      pick : (r ≡ best) ⊎ ((across other line k ≡ v) × (r ≡ across inks line k + g k)) →
          Sweep other inks line v lo hi g top a' b' r
      pick (inl i) = record {
        small = omega (arith, S.small);
        le = all;
        q = S.q;
        from = S.from;
        to = S.to;
        stop = S.stop;
        near = omega (arith, S.near);
        below = λ z. omega (arith, S.below (omega arith));
        above = λ z. omega (arith, S.above (omega arith));
      }
      pick (inr i) = record {
        small = omega (arith, S.small, C.no-farther);
        le = all;
        q = k;
        from = lk;
        to = hk;
        stop = i.0;
        near = omega (arith, i.1);
        below = λ z. absurd (omega arith);
        above = λ z. absurd (omega arith);
      }

  -- crossing k is the lowest so far
  pub sweep-over : {cross : List ℕ} {a b best : ℕ} (k : ℕ) → Sweep other inks line v lo hi g top a b best → lo ≤ a →
      b ≤ hi → g k ≤ top →
      ((q : ℕ) → lo ≤ q → q < hi → gap (get_or cross k 0) (get_or cross q 0) ≡ gap (g k) (g q)) →
      ((q : ℕ) → a ≤ q → q < b → g k ≤ g q) → Over other inks cross line v lo hi a b k (g k) best
  sweep-over {cross} {a} {b} {best} k S la lb low apart lowest = record {
    above = high (dec_lt S.q a) (dec_le b S.q);
    least = record {
      le = λ q f t e.
          subst (λ (z : ℕ). best - g k ≤ across inks line q + z) (sym (apart q (omega arith) (omega arith)))
          (over-le best (g k) (g q) (across inks line q) (S.le q f t e));
      q = S.q;
      from = S.from;
      to = S.to;
      stop = S.stop;
      ge = subst (λ (z : ℕ). across inks line S.q + z ≤ best - g k) (sym (apart S.q S.from S.to))
          (one (dec_lt S.q a) (dec_le b S.q));
    };
  }
    where
      high : Dec (S.q < a) → Dec (b ≤ S.q) → g k ≤ best
      high (yes x) y = omega (arith, S.near, S.below x)
      high (no x) (yes y) = omega (arith, S.near, S.above y)
      high (no x) (no y) = omega (arith, S.near, lowest S.q (omega arith) (omega arith))

      one : Dec (S.q < a) → Dec (b ≤ S.q) → across inks line S.q + gap (g k) (g S.q) ≤ best - g k
      one (yes x) y = over-far best (g k) (g S.q) (across inks line S.q) top S.near (S.below x) low
      one (no x) (yes y) = over-far best (g k) (g S.q) (across inks line S.q) top S.near (S.above y) low
      one (no x) (no y) =
          over-near best (g k) (g S.q) (across inks line S.q) S.near
          (lowest S.q (omega arith) (omega arith))

-- The least at x over the stops from h on, one crossing after the other.
module _ {other inks cross : List ℕ} {line v h hi x : ℕ} where
  pub least_more : {k y s r : ℕ} → h < k → k < hi → Least other inks cross line v h hi h k x s →
      y ≡ gap x (get_or cross k 0) → Carried other inks line v k y s r → Least other inks cross line v h hi h (k + 1) x r
  least_more {k} {y} {s} {r} lk hk L m C = pick C.is
    where
      all : (q : ℕ) → h ≤ q → q < k + 1 → across other line q ≡ v → r ≤ across inks line q + gap x (get_or cross q 0)
      all q f t e = go (dec_lt q k)
        where
          go : Dec (q < k) → r ≤ across inks line q + gap x (get_or cross q 0)
          go (yes p) = omega (arith, C.no-farther, L.le q f p e)
          go (no p) =
              let i : k ≡ q = omega arith in
              let a = C.no_more (subst (λ (j : ℕ). across other line j ≡ v) (sym i) e) in
              subst (λ (j : ℕ). r ≤ across inks line j + gap x (get_or cross j 0)) i (omega arith)

      pick : (r ≡ s) ⊎ ((across other line k ≡ v) × (r ≡ across inks line k + y)) →
          Least other inks cross line v h hi h (k + 1) x r
      pick (inl i) =
          record { le = all; q = L.q; from = L.from; to = L.to; stop = L.stop; ge = omega (arith, L.ge) }
      pick (inr i) =
          record { le = all; q = k; from = omega arith; to = hk; stop = i.0; ge = omega (arith, i.1) }

module _ {other inks cross : List ℕ} {line v lo hi : ℕ} where
  -- from both sides
  least-both : {k x s t : ℕ} → Least other inks cross line v lo hi lo (k + 1) x s →
      Least other inks cross line v lo hi k hi x t → Least other inks cross line v lo hi lo hi x (min s t)
  least-both {k} {x} {s} {t} A B = pick (dec_le s t)
    where
      all : (q : ℕ) → lo ≤ q → q < hi → across other line q ≡ v →
          min s t ≤ across inks line q + gap x (get_or cross q 0)
      all q f u e = go (dec_le q k)
        where
          go : Dec (q ≤ k) → min s t ≤ across inks line q + gap x (get_or cross q 0)
          go (yes p) = omega (arith, A.le q f (omega arith) e)
          go (no p) = omega (arith, B.le q (omega arith) u e)

      pick : Dec (s ≤ t) → Least other inks cross line v lo hi lo hi x (min s t)
      pick (yes p) =
          record { le = all; q = A.q; from = A.from; to = A.to; stop = A.stop; ge = omega (arith, A.ge) }
      pick (no p) =
          record { le = all; q = B.q; from = B.from; to = B.to; stop = B.stop; ge = omega (arith, B.ge) }

  inked-more : {k s t : ℕ} {l w₀ w w' : List ℕ} → lo ≤ k → line * stride + k < length w₀ →
      RunInked other inks cross line v lo hi k l w₀ w →
      Least other inks cross line v lo hi lo (k + 1) (get_or cross k 0) s →
      Least other inks cross line v lo hi k hi (get_or cross k 0) t → InkPut line k (min s t) l w w' →
      RunInked other inks cross line v lo hi (k + 1) l w₀ w'
  inked-more {k} {s} {t} {l} {w₀} {w} lk fit R A B (stays z) = record {
    size = R.size;
    fresh = below_more
        (λ j. lo ≤ j → along l line j ≡ 0 →
        Least other inks cross line v lo hi lo hi (get_or cross j 0) (along w line j)) k R.fresh (λ p e. absurd (z e));
    kept = below_more (λ j. lo ≤ j → along l line j ≢ 0 → along w line j ≡ along w₀ line j) k R.kept
        (λ p e. R.high (line * stride + k) (omega arith));
    low = R.low;
    high = λ i p. R.high i (omega arith);
  }
  inked-more {k} {s} {t} {l} {w₀} {w} lk fit R A B (puts z) =
      let at = line * stride + k in
      let sz = R.size in
      record {
        size = length-set w at (min s t) ∙ sz;
        fresh = below_more
            (λ j. lo ≤ j → along l line j ≡ 0 →
            Least other inks cross line v lo hi lo hi (get_or cross j 0) (along (set w at (min s t)) line j)) k
            (λ j p q e.
            rw (get_or-set_other w at (line * stride + j) (min s t) 0 (omega arith)) (R.fresh j p q e))
            (λ p e. rw (get_or-set_same w at (min s t) 0 (omega arith)) (least-both A B));
        kept = below_more (λ j. lo ≤ j → along l line j ≢ 0 → along (set w at (min s t)) line j ≡ along w₀ line j) k
            (λ j p q e. get_or-set_other w at (line * stride + j) (min s t) 0 (omega arith) ∙ R.kept j p q e)
            (λ p e. absurd (e z));
        low = λ i p. get_or-set_other w at i (min s t) 0 (omega arith) ∙ R.low i p;
        high = λ i p. get_or-set_other w at i (min s t) 0 (omega arith) ∙ R.high i (omega arith);
      }

  pub inked-next : {k s t m : ℕ} {l w₀ w w' : List ℕ} → lo ≤ k → line * stride + k < length w₀ →
      RunInked other inks cross line v lo hi k l w₀ w →
      Least other inks cross line v lo hi lo (k + 1) (get_or cross k 0) s →
      Least other inks cross line v lo hi k hi (get_or cross k 0) t → m ≡ min s t → InkPut line k m l w w' →
      RunInked other inks cross line v lo hi (k + 1) l w₀ w'
  inked-next {k} {l = l} {w = w} {w' = w'} lk fit R A B e P =
      inked-more lk fit R A B (subst (λ (m : ℕ). InkPut line k m l w w') e P)

-- The heights for the two sweeps.
abbrev pub rise : List ℕ → ℕ → ℕ
rise cross k = get_or cross k 0

abbrev pub fall : List ℕ → ℕ → ℕ
fall cross k = max_side - get_or cross k 0

-- The sweep down, with the crossings from k on done.
pub record Down (other inks cross : List ℕ) (line v lo hi k best : ℕ) (ahead : List ℕ) : Type 0 where
  pub from : lo ≤ k
  pub to : k ≤ hi
  pub sweep : Sweep other inks line v lo hi (rise cross) (rise cross (hi - 1)) k hi best
  pub made : Ahead other inks cross line v lo hi k ahead

-- The sweep up, with the crossings before k done.
pub record Up (other inks cross : List ℕ) (line v lo hi k best : ℕ) (behind : List ℕ) : Type 0 where
  pub from : lo ≤ k
  pub to : k ≤ hi
  pub sweep : Sweep other inks line v lo hi (fall cross) (fall cross lo) lo k best
  pub made : Behind other inks cross line v lo hi k behind

ahead_more : {other inks cross : List ℕ} {line v lo hi : ℕ} (k : ℕ) {t : List ℕ} {r : ℕ} → lo < k → k ≤ length t →
    Ahead other inks cross line v lo hi k t →
    Over other inks cross line v lo hi (k - 1) hi (k - 1) (rise cross (k - 1)) r →
    Ahead other inks cross line v lo hi (k - 1) (set t (k - 1) r)
ahead_more {other} {inks} {cross} {line} {v} {lo} {hi} k {t} {r} lk fit A S = record {
  at = λ j p q. pick j p q (ℕ_discrete j (k - 1));
}
  where
    pick : (j : ℕ) → k - 1 ≤ j → j < hi → Dec (j ≡ k - 1) →
        Over other inks cross line v lo hi j hi j (get_or cross j 0) (get_or (set t (k - 1) r) j 0)
    pick j p q (yes e) = rw e (rw (get_or-set_same t (k - 1) r 0 (omega arith)) S)
    pick j p q (no e) = rw (get_or-set_other t (k - 1) j r 0 e) (A.at j (omega arith) q)

behind_more : {other inks cross : List ℕ} {line v lo hi : ℕ} (k : ℕ) {t : List ℕ} {r : ℕ} → k < length t →
    Behind other inks cross line v lo hi k t → Over other inks cross line v lo hi lo (k + 1) k (fall cross k) r →
    Behind other inks cross line v lo hi (k + 1) (set t k r)
behind_more {other} {inks} {cross} {line} {v} {lo} {hi} k {t} {r} fit B S = record {
  at = below_more
      (λ j. lo ≤ j
      → Over other inks cross line v lo hi lo (j + 1) j (max_side - get_or cross j 0) (get_or (set t k r) j 0)) k
      (λ j p q. rw (get_or-set_other t k j r 0 (omega arith)) (B.at j p q))
      (λ p. rw (get_or-set_same t k r 0 fit) S);
}

module _ {other inks cross : List ℕ} {line v lo hi n : ℕ} (C : Lines cross n) (few : hi ≤ n) where
  pub down-more : {k best r : ℕ} {t : List ℕ} → lo < k → k ≤ length t → Down other inks cross line v lo hi k best t →
      Carried other inks line v (k - 1) (rise cross (k - 1)) best r →
      Down other inks cross line v lo hi (k - 1) r (set t (k - 1) r)
  down-more {k} {best} {r} lk fit D S =
      let to = D.to in
      let next = sweep-step {g = rise cross} (k - 1) hi D.sweep S (omega arith) (omega arith) (omega arith)
      (omega arith) (omega arith) (omega arith) (λ q f t ne. (omega arith, t)) in
      record {
        from = omega arith;
        to = omega arith;
        sweep = next;
        made = ahead_more k lk fit D.made
            (sweep-over {g = rise cross} (k - 1) next (omega arith) (omega arith)
            (rises C (k - 1) (hi - 1) (omega arith) (omega arith)) (λ q f t. refl)
            (λ q f t. rises C (k - 1) q f (omega arith)));
      }

  pub up_more : {k best r : ℕ} {t : List ℕ} → k < hi → k < length t → Up other inks cross line v lo hi k best t →
      Carried other inks line v k (fall cross k) best r → Up other inks cross line v lo hi (k + 1) r (set t k r)
  up_more {k} {best} {r} lk fit U S =
      let from = U.from in
      let next = sweep-step {g = fall cross} lo (k + 1) U.sweep S from lk (omega arith) (omega arith) from
      (omega arith) (λ q f t ne. (f, omega arith)) in
      record {
        from = omega arith;
        to = omega arith;
        sweep = next;
        made = behind_more k fit U.made
            (sweep-over {g = fall cross} k next (omega arith) (omega arith)
            (omega (arith, rises C lo k from (omega arith)))
            (λ q f t. flipped (get_or cross k 0) (get_or cross q 0) (C.below k (omega arith)) (C.below q (omega arith)))
            (λ q f t. omega (arith, rises C q k (omega arith) (omega arith))));
      }

pub down-done : {other inks cross : List ℕ} {line v lo hi k best : ℕ} {t : List ℕ} → k ≤ lo →
    Down other inks cross line v lo hi k best t → Ahead other inks cross line v lo hi lo t
down-done {other} {inks} {cross} {line} {v} {lo} {hi} {k} {t = t} l D =
    let z = D.from in
    let e : k ≡ lo = omega arith in
    subst (λ (j : ℕ). Ahead other inks cross line v lo hi j t) e D.made

pub up_done : {other inks cross : List ℕ} {line v lo hi k best : ℕ} {t : List ℕ} → hi ≤ k →
    Up other inks cross line v lo hi k best t → Behind other inks cross line v lo hi hi t
up_done {other} {inks} {cross} {line} {v} {lo} {hi} {k} {t = t} g U =
    let z = U.to in
    let e : k ≡ hi = omega arith in
    subst (λ (j : ℕ). Behind other inks cross line v lo hi j t) e U.made

pub inked-done : {other inks cross : List ℕ} {line v lo hi k : ℕ} {l w₀ w : List ℕ} → k ≡ hi →
    RunInked other inks cross line v lo hi k l w₀ w → RunInked other inks cross line v lo hi hi l w₀ w
inked-done {other} {inks} {cross} {line} {v} {lo} {hi} {l = l} {w₀ = w₀} {w = w} e R =
    subst (λ (j : ℕ). RunInked other inks cross line v lo hi j l w₀ w) e R
