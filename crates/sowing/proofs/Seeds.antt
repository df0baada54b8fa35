-- The targets' labels before the first round.
use Prim.Native.Nat.{ℕ, zero, suc, ◌+◌, ◌*◌, ◌≤◌, ◌<◌}
use native.Mathlib.Omega.{arith}
use native.Mathlib.Decide.{ℕ_discrete, dec_lt}
use mathlib.Core.Path.{◌≡◌, refl, sym, ap, ◌∙◌, subst}
use mathlib.Core.Bool.{Bool, true, false, ◌&&◌, ◌||◌, or-false, or_assoc, and-false}
use mathlib.Core.Logic.{◌≢◌, ⊎_elim}
use mathlib.Core.List.{List}
use lib.ListN.{get_or, set, length, length-set}
use lib.Seq.{get_or-set_same, get_or-set_other}
use Rattle.list_laws.proofs.Tests.{both, clash, and_l, and_r, and_i, or_cases, or-il, or-ir, or_l, or_r, same_test}
use Rattle.zones.specs.Boxes.{inside}
use Rattle.zones.proofs.Free.{inside-yes, of-inside}
use Rattle.course_laws.specs.Course.{Course, Within}
use Rattle.grid.specs.Size.{stride, area}
use Rattle.runs.specs.Line.{along}
use Rattle.runs.specs.Ink.{Lean}
use Rattle.labels.specs.Pass.{Below}
use Rattle.labels.specs.Rounds.{Begun}
use Rattle.labels.proofs.Meaning.{Says, Labelled, Measures, Measured}
use Rattle.sowing.specs.Seeds.{Unlabelled, Sown, or_else, Sows, in_block, BlockSown, BlockAsked}

-- ---- one crossing

-- nothing is sown in blank lists
pub sown-none : {m n : ℕ} {lab inks : List ℕ} → m ≤ stride → n ≤ stride → m * stride ≤ length lab → length lab ≤ area
    → m * stride ≤ length inks → Unlabelled lab → Sown (λ i c. false) m n lab inks
sown-none fm fn ll few li none =
    record {
      one = λ i li c lc e. clash e refl;
      rest = λ i li c lc e. none (i * stride + c);
      labels-fit = ll;
      labels-few = few;
      inks-fit = li;
      lines-few = fm;
      crossings-few = fn;
    }

-- only the tests of the crossings that there are count
pub sown-same : {on on' : ℕ → ℕ → Bool} {m n : ℕ} {lab inks : List ℕ}
    → ((i : ℕ) → i < m → (c : ℕ) → c < n → on' i c ≡ on i c) → Sown on m n lab inks
    → Sown on' m n lab inks
sown-same h S =
    record {
      one = λ i li c lc e. S.one i li c lc (sym (h i li c lc) ∙ e);
      rest = λ i li c lc e. S.rest i li c lc (sym (h i li c lc) ∙ e);
      labels-fit = S.labels-fit;
      labels-few = S.labels-few;
      inks-fit = S.inks-fit;
      lines-few = S.lines-few;
      crossings-few = S.crossings-few;
    }

-- an ink of 0 more
ink-set : (w : List ℕ) (p i : ℕ) → p < length w → get_or w i 0 ≡ 0 → get_or (set w p 0) i 0 ≡ 0
ink-set w p i l e = pick (ℕ_discrete i p)
  where
    pick : Dec (i ≡ p) → get_or (set w p 0) i 0 ≡ 0
    pick (yes q) = rw q (get_or-set_same w p 0 0 l)
    pick (no q) = get_or-set_other w p i 0 0 q ∙ e

-- crossing k of a line gets the label 1 and the ink 0
module _ {on : ℕ → ℕ → Bool} {m n : ℕ} {l w : List ℕ} (line k : ℕ) (ll : line < m) (lk : k < n)
    (S : Sown on m n l w) where
  abbrev at : ℕ
  at = line * stride + k

  labelled : at < length l
  labelled = omega (arith, S.labels-fit, S.crossings-few)

  inked : at < length w
  inked = omega (arith, S.inks-fit, S.crossings-few)

  -- other crossings keep their labels
  other : (i c : ℕ) → c < n → ((i ≡ line) × (c ≡ k) → ⊥) → along (set l at 1) i c ≡ along l i c
  other i c lc ne =
      let few = S.crossings-few in
      get_or-set_other l at (i * stride + c) 1 0 (λ e. ne (omega arith, omega arith))

  new-here : (i c : ℕ) → i ≡ line → c ≡ k → (inside line (line + 1) i && inside k (k + 1) c && true) ≡ true
  new-here i c ei ec =
      and_i {a = inside line (line + 1) i && inside k (k + 1) c}
      (and_i {a = inside line (line + 1) i} (inside-yes line (line + 1) i (omega arith) (omega arith))
      (inside-yes k (k + 1) c (omega arith) (omega arith)))
      refl

  old : (i : ℕ) → i < m → (c : ℕ) → c < n → ((i ≡ line) × (c ≡ k) → ⊥)
      → (on i c || (inside line (line + 1) i && inside k (k + 1) c && true)) ≡ true
      → (along (set l at 1) i c ≡ 1) × (along (set w at 0) i c ≡ 0)
  old i li c lc ne e =
      let o : on i c ≡ true =
      both (on i c) (λ o. o)
      (λ o.
      let new : (inside line (line + 1) i && inside k (k + 1) c && true) ≡ true = rw o at e in
      let pair = and_l (inside line (line + 1) i && inside k (k + 1) c) true new in
      let a = of-inside line (line + 1) i (and_l _ _ pair) in
      let b = of-inside k (k + 1) c (and_r (inside line (line + 1) i) _ pair) in
      absurd (ne (omega (arith, a), omega (arith, b)))) in
      let was = S.one i li c lc o in
      (other i c lc ne ∙ was.0, ink-set w at (i * stride + c) inked was.1)

  one : (i : ℕ) → i < m → (c : ℕ) → c < n
      → (on i c || (inside line (line + 1) i && inside k (k + 1) c && true)) ≡ true → Dec (i ≡ line) → Dec (c ≡ k)
      → (along (set l at 1) i c ≡ 1) × (along (set w at 0) i c ≡ 0)
  one i li c lc e (yes a) (yes b) =
      (rw (a, b) (get_or-set_same l at 1 0 labelled), rw (a, b) (get_or-set_same w at 0 0 inked))
  one i li c lc e (yes a) (no b) = old i li c lc (λ g. b g.1) e
  one i li c lc e (no a) b = old i li c lc (λ g. a g.0) e

  sown-more : Sown (or_else on (in_block line (line + 1) k (k + 1) (λ i c. true))) m n (set l at 1) (set w at 0)
  unfolding in_block
  sown-more =
      record {
        one = λ i li c lc e. one i li c lc e (ℕ_discrete i line) (ℕ_discrete c k);
        rest = λ i li c lc e.
            other i c lc (λ g. clash (new-here i c g.0 g.1) (or_r (on i c) _ e))
            ∙ S.rest i li c lc (or_l (on i c) _ e);
        labels-fit = omega (arith, S.labels-fit, length-set l at 1);
        labels-few = omega (arith, S.labels-few, length-set l at 1);
        inks-fit = omega (arith, S.inks-fit, length-set w at 0);
        lines-few = S.lines-few;
        crossings-few = S.crossings-few;
      }

-- ---- blocks of crossings

module _ {m n : ℕ} {l₀ w₀ : List ℕ} where
  -- nothing is sown
  pub sows-none : {new : ℕ → ℕ → Bool} → ((i : ℕ) → i < m → (c : ℕ) → c < n → new i c ≡ false)
      → Sows new m n l₀ w₀ l₀ w₀
  sows-none h =
      record {
        sown = λ on S.
            sown-same (λ i li c lc. ap (λ (b : Bool). on i c || b) (h i li c lc) ∙ or-false (on i c)) S;
      }

  pub sows-same : {new new' : ℕ → ℕ → Bool} {l w : List ℕ}
      → ((i : ℕ) → i < m → (c : ℕ) → c < n → new' i c ≡ new i c) → Sows new m n l₀ w₀ l w
      → Sows new' m n l₀ w₀ l w
  sows-same h A =
      record { sown = λ on S. sown-same (λ i li c lc. ap (λ (b : Bool). on i c || b) (h i li c lc)) (A.sown on S) }

  -- first those of one test, and then those of another
  pub sows-then : {a b : ℕ → ℕ → Bool} {l w l' w' : List ℕ} → Sows a m n l₀ w₀ l w
      → Sows b m n l w l' w' → Sows (or_else a b) m n l₀ w₀ l' w'
  sows-then {a} {b} A B =
      record {
        sown = λ on S.
            sown-same (λ i li c lc. sym (or_assoc (on i c) (a i c) (b i c))) (B.sown (or_else on a) (A.sown on S));
      }

-- what is inside a to b + 1 is inside a to b, or b
inside-more : (a b i : ℕ) → a ≤ b → inside a (b + 1) i ≡ (inside a b i || inside b (b + 1) i)
inside-more a b i l = same_test _ _ to from
  where
    to : inside a (b + 1) i ≡ true → (inside a b i || inside b (b + 1) i) ≡ true
    to h =
        let w = of-inside a (b + 1) i h in
        pick (dec_lt i b) w.0 w.1
      where
        pick : Dec (i < b) → a ≤ i → i < b + 1 → (inside a b i || inside b (b + 1) i) ≡ true
        pick (yes p) lo hi = or-il (inside b (b + 1) i) (inside-yes a b i lo p)
        pick (no p) lo hi = or-ir (inside a b i) (inside-yes b (b + 1) i (omega arith) hi)

    from : (inside a b i || inside b (b + 1) i) ≡ true → inside a (b + 1) i ≡ true
    from h =
        ⊎_elim
        (λ (x : inside a b i ≡ true). let w = of-inside a b i x in inside-yes a (b + 1) i w.0 (omega (arith, w)))
        (λ (x : inside b (b + 1) i ≡ true).
        let w = of-inside b (b + 1) i x in inside-yes a (b + 1) i (omega (arith, w)) w.1)
        (or_cases (inside a b i) (inside b (b + 1) i) h)

inside-empty : (a i : ℕ) → inside a a i ≡ false
inside-empty a i =
    both (inside a a i) (λ h. absurd (let w = of-inside a a i h in omega (arith, w))) (λ h. h)

and_split : (x y p t : Bool) → ((x || y) && p && t) ≡ ((x && p && t) || (y && p && t))
and_split true true true true = refl
and_split true true true false = refl
and_split true true false t = refl
and_split true false true true = refl
and_split true false true false = refl
and_split true false false t = refl
and_split false true p t = refl
and_split false false p t = refl

split-middle : (p x y t : Bool) → (p && (x || y) && t) ≡ ((p && x && t) || (p && y && t))
split-middle true true true true = refl
split-middle true true true false = refl
split-middle true true false true = refl
split-middle true true false false = refl
split-middle true false y t = refl
split-middle false x y t = refl

module _ {a lo : ℕ} {test : ℕ → ℕ → Bool} {l₀ w₀ : List ℕ} where
  -- no crossing yet, and no line
  pub run_none : {b : ℕ} → BlockSown a b lo lo test l₀ w₀ l₀ w₀
  unfolding in_block
  run_none {b} =
      record {
        sows = λ m n lm ln.
            sows-none
            (λ i li c lc.
            ap (λ (x : Bool). inside a b i && x && test i c) (inside-empty lo c)
            ∙ ap (λ (x : Bool). x && test i c) (and-false (inside a b i)));
      }

  pub block_none : {hi : ℕ} → BlockSown a a lo hi test l₀ w₀ l₀ w₀
  unfolding in_block
  block_none {hi} =
      record {
        sows = λ m n lm ln.
            sows-none (λ i li c lc. ap (λ (x : Bool). x && inside lo hi c && test i c) (inside-empty a i));
      }

  -- one crossing more
  pub run_more : {b : ℕ} {l w l' w' : List ℕ} (k : ℕ) → lo ≤ k
      → BlockSown a b lo k test l₀ w₀ l w
      → BlockSown a b k (k + 1) test l w l' w' → BlockSown a b lo (k + 1) test l₀ w₀ l' w'
  unfolding in_block
  run_more {b} k le A B =
      record {
        sows = λ m n lm ln.
            sows-same
            (λ i li c lc.
            ap (λ (x : Bool). inside a b i && x && test i c) (inside-more lo k c le)
            ∙ split-middle (inside a b i) (inside lo k c) (inside k (k + 1) c) (test i c))
            (sows-then (A.sows m n lm (omega arith)) (B.sows m n lm ln));
      }

  -- one line more
  pub block_more : {hi : ℕ} {l w l' w' : List ℕ} (j : ℕ) → a ≤ j
      → BlockSown a j lo hi test l₀ w₀ l w
      → BlockSown j (j + 1) lo hi test l w l' w' → BlockSown a (j + 1) lo hi test l₀ w₀ l' w'
  unfolding in_block
  block_more {hi} j le A B =
      record {
        sows = λ m n lm ln.
            sows-same
            (λ i li c lc.
            ap (λ (x : Bool). x && inside lo hi c && test i c) (inside-more a j i le)
            ∙ and_split (inside a j i) (inside j (j + 1) i) (inside lo hi c) (test i c))
            (sows-then (A.sows m n (omega arith) ln) (B.sows m n lm ln));
      }

pub block-done : {a b b' lo hi hi' : ℕ} {test : ℕ → ℕ → Bool} {l₀ w₀ l w : List ℕ} → b ≡ b' → hi ≡ hi'
    → BlockSown a b lo hi test l₀ w₀ l w → BlockSown a b' lo hi' test l₀ w₀ l w
block-done e f h = rw (← e, ← f) h

-- after a part of the block the rest can be sown
pub part-asked : {z : List ℕ} {n : ℕ} {lines cross : List ℕ} {a b lo hi a₁ b₁ lo₁ hi₁ a₂ b₂ lo₂ hi₂ : ℕ}
    {test : ℕ → ℕ → Bool} {l₀ w₀ l w : List ℕ} → BlockAsked z n lines cross a b lo hi l₀ w₀
    → BlockSown a₁ b₁ lo₁ hi₁ test l₀ w₀ l w → b₁ ≤ b → hi₁ ≤ hi → a₂ ≤ b₂ → b₂ ≤ b → lo₂ ≤ hi₂ → hi₂ ≤ hi
    → BlockAsked z n lines cross a₂ b₂ lo₂ hi₂ l w
part-asked A B lb lh oa lb₂ oh lh₂ =
    let S = A.sowable in
    record {
      boxes = A.boxes;
      lines-there = omega (arith, A.lines-there);
      crossings-there = omega (arith, A.crossings-there);
      lines-order = oa;
      crossings-order = oh;
      sowable = record {
        m = S.m;
        n = S.n;
        on = _;
        sown =
            (B.sows S.m S.n (omega (arith, S.lines-in)) (omega (arith, S.crossings-in))).sown S.on
            S.sown;
        lines-in = omega (arith, S.lines-in);
        crossings-in = omega (arith, S.crossings-in);
      };
    }

-- a crossing is sown
pub cell-sown : {l w : List ℕ} (line k : ℕ)
    → BlockSown line (line + 1) k (k + 1) (λ i c. true) l w (set l (line * stride + k) 1) (set w (line * stride + k) 0)
cell-sown line k =
    record { sows = λ m n lm ln. record { sown = λ on S. sown-more line k (omega arith) (omega arith) S } }

only_here : {A : Type 0} (line k i c : ℕ) → (i ≡ line → c ≡ k → A) → inside line (line + 1) i ≡ true
    → inside k (k + 1) c ≡ true → A
only_here line k i c h a b =
    let x = of-inside line (line + 1) i a in
    let y = of-inside k (k + 1) c b in
    h (omega (arith, x)) (omega (arith, y))

-- by the test that it passes, or not at all
module _ {test : ℕ → ℕ → Bool} {l w : List ℕ} (line k : ℕ) where
  pub cell-clear : {l' w' : List ℕ} → test line k ≡ true
      → BlockSown line (line + 1) k (k + 1) (λ i c. true) l w l' w'
      → BlockSown line (line + 1) k (k + 1) test l w l' w'
  unfolding in_block
  cell-clear e B =
      record {
        sows = λ m n lm ln.
            sows-same
            (λ i li c lc.
            both (inside line (line + 1) i)
            (λ a.
            both (inside k (k + 1) c)
            (λ b.
            rw (a, b)
            (only_here line k i c (λ p q. ap (λ (x : ℕ). test x c) p ∙ (ap (λ (x : ℕ). test line x) q ∙ e)) a b))
            (λ b. rw (b, and-false (inside line (line + 1) i)) refl))
            (λ a. rw a refl))
            (B.sows m n lm ln);
      }

  pub cell-blocked : test line k ≡ false → BlockSown line (line + 1) k (k + 1) test l w l w
  unfolding in_block
  cell-blocked e =
      record {
        sows = λ m n lm ln.
            sows-none
            (λ i li c lc.
            both (inside line (line + 1) i)
            (λ a.
            both (inside k (k + 1) c)
            (λ b.
            rw (a, b)
            (only_here line k i c (λ p q. ap (λ (x : ℕ). test x c) p ∙ (ap (λ (x : ℕ). test line x) q ∙ e)) a b))
            (λ b. rw (b, and-false (inside line (line + 1) i)) refl))
            (λ a. rw a refl));
      }

-- ---- what `rounds` asks

module _ {on : ℕ → ℕ → Bool} {m n : ℕ} {lab inks : List ℕ} (S : Sown on m n lab inks) where
  -- a label is 1 exactly where the test passes
  pub sown-one : (i : ℕ) → i < m → (c : ℕ) → c < n → along lab i c ≢ 0 → on i c ≡ true
  sown-one i li c lc z = both (on i c) (λ t. t) (λ f. absurd (z (S.rest i li c lc f)))

  pub sown-below : Below m n lab 1
  sown-below =
      record {
        le = λ i li c lc.
            both (on i c) (λ t. omega (arith, (S.one i li c lc t).0)) (λ f. omega (arith, S.rest i li c lc f));
      }

  pub sown-lean : Lean m n lab inks
  sown-lean =
      record { le = λ i li c lc z. let e = (S.one i li c lc (sown-one i li c lc z)).1 in omega (arith, e) }

-- both lists are sown at the same crossings
pub begun : {f g : ℕ → ℕ → Bool} {l u wl wu : List ℕ} {nc nr : ℕ}
    → ((j : ℕ) → j < nr → (i : ℕ) → i < nc → f j i ≡ g i j)
    → Sown f nr nc l wl → Sown g nc nr u wu → Begun l u wl wu nc nr
begun same L U =
    record {
      twin = record {
        level = λ j lj i li e.
            (U.one i li j lj (sym (same j lj i li) ∙ sown-one L j lj i li (omega arith))).0;
        upright = λ i li j lj e.
            (L.one j lj i li (same j lj i li ∙ sown-one U i li j lj (omega arith))).0;
      };
      level-low = sown-below L;
      upright-low = sown-below U;
      level-lean = sown-lean L;
      upright-lean = sown-lean U;
      level-few = L.labels-few;
      upright-few = U.labels-few;
    }

-- ---- what the labels mean

-- the labels of m lines, with n crossings each, mean zero segments where the test passes just the targets
module _ {f : ℕ → ℕ → Bool} {T : ℕ → ℕ → Type 0} {cross lines : List ℕ} {m n : ℕ} {on : ℕ → ℕ → Bool}
    (aimed : (i : ℕ) → i < m → (c : ℕ) → c < n → on i c ≡ true → T (get_or cross c 0) (get_or lines i 0))
    (whole : (i : ℕ) → i < m → (c : ℕ) → c < n → T (get_or cross c 0) (get_or lines i 0) → on i c ≡ true)
    {lab inks : List ℕ} (S : Sown on m n lab inks) where
  pub sown-labels : Labelled f T cross n lines m 0 lab
  sown-labels = record { says = λ b lb a la. both (on b a) (here b lb a la) (away b lb a la) }
    where
      here : (b : ℕ) → b < m → (a : ℕ) → a < n → on b a ≡ true
          → Says f T 0 (get_or cross a 0) (get_or lines b 0) (along lab b a)
      here b lb a la t =
          let o = (S.one b lb a la t).0 in
          record {
            never = λ e. absurd (omega arith);
            course = λ r e.
                let z : 0 ≡ r = omega arith in
                subst (λ (r : ℕ). Course r f T (get_or cross a 0) (get_or lines b 0)) z (aimed b lb a la t);
            least = λ r e s l t. omega arith;
          }

      away : (b : ℕ) → b < m → (a : ℕ) → a < n → on b a ≡ false
          → Says f T 0 (get_or cross a 0) (get_or lines b 0) (along lab b a)
      away b lb a la t =
          let none = S.rest b lb a la t in
          record {
            never = λ e r z c. none_yet r z c;
            course = λ r e. absurd (omega arith);
            least = λ r e. absurd (omega arith);
          }
        where
          none_yet : (r : ℕ) → r ≤ 0 → Course r f T (get_or cross a 0) (get_or lines b 0) → ⊥
          none_yet zero z c = clash (whole b lb a la c) t
          none_yet (suc r) z c = omega arith

  -- and the inks no steps
  pub sown-inks : Measured f T cross n lines m lab inks
  sown-inks = record { says = λ b lb a la. both (on b a) (here b lb a la) (away b lb a la) }
    where
      here : (b : ℕ) → b < m → (a : ℕ) → a < n → on b a ≡ true
          → Measures f T (get_or cross a 0) (get_or lines b 0) (along lab b a) (along inks b a)
      here b lb a la t =
          let o = S.one b lb a la t in
          let one = o.0 in
          let ink = o.1 in
          record {
            within = λ r e.
                let z : 0 ≡ r = omega arith in
                subst (λ (r : ℕ). Within r (along inks b a) f T (get_or cross a 0) (get_or lines b 0)) z
                (aimed b lb a la t);
            least = λ r e t w. omega arith;
          }

      away : (b : ℕ) → b < m → (a : ℕ) → a < n → on b a ≡ false
          → Measures f T (get_or cross a 0) (get_or lines b 0) (along lab b a) (along inks b a)
      away b lb a la t =
          let none = S.rest b lb a la t in
          record { within = λ r e. absurd (omega arith); least = λ r e. absurd (omega arith) }
