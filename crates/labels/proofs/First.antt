-- The walk's corners are greedy: each is the first from which as many segments as are left lead to a target, by as few
-- steps.
use Prim.Native.Nat.{ℕ, suc, ◌+◌, ◌≤◌, ◌<◌}
use native.Mathlib.Omega.{arith}
use native.Mathlib.Decide.{dec_le, dec_lt}
use mathlib.Core.Path.{◌≡◌, refl, sym, ap, subst}
use mathlib.Core.Logic.{◌⊎◌, inl, inr}
use mathlib.Core.Bool.{Bool, true}
use mathlib.Core.List.{List, [], ◌∷◌}
use lib.ListN.{get_or, length}
use Rattle.foil_spec.specs.Paths.{gap}
use Rattle.list_laws.proofs.Tests.{clash}
use Rattle.course_laws.specs.Course.{flip, Span, Within, ink, TargetFree, Greedy}
use Rattle.course_laws.proofs.Course.{within-course}
use Rattle.runs.specs.Line.{along, across, Linked, is_stop, Stop}
use Rattle.labels.specs.Walk.{Trail, done, step}
use Rattle.runs.proofs.Line.{of-stop, to-stop}
use Rattle.labels.proofs.Faithful.{Faithful}
use Rattle.labels.proofs.Meaning.{Labelled, Measured, step-span, exact, step-within}

-- the coordinates of a walk's crossings
abbrev pub coords : List ℕ → List ℕ → List ℕ → List ℕ
coords cross lines [] = []
coords cross lines (q ∷ qs) = get_or cross q 0 ∷ coords lines cross qs

pub coords-length : (cross lines qs : List ℕ) → length (coords cross lines qs) ≡ length qs
coords-length cross lines [] = refl
coords-length cross lines (q ∷ qs) = ap suc (coords-length lines cross qs)

pub trail-length : {own other wown wother link link' cross lines : List ℕ} {m n line k v : ℕ} {qs : List ℕ} →
    Trail own other wown wother link link' cross lines m n line k v qs → v ≡ length qs + 1
trail-length done = omega arith
trail-length (step s l t) = let e = trail-length t in omega arith

module _ {f : ℕ → ℕ → Bool} {T : ℕ → ℕ → Type 0} (tf : TargetFree f T) {cross : List ℕ} {n : ℕ} {lines : List ℕ} {m : ℕ}
    {link : List ℕ} (F : Faithful f T cross n lines m link) {r : ℕ} {own other wown wother : List ℕ}
    (A : Labelled f T cross n lines m r own) (B : Labelled (flip f) (flip T) lines m cross n r other)
    (AM : Measured f T cross n lines m own wown) (BM : Measured (flip f) (flip T) lines m cross n other wother) where
  -- nothing before the first stop leads on with as few segments and steps
  pub first-stop : (i j w k c t : ℕ) → i < n → j < m → k < n → w ≤ r → along own j i ≡ w + 1 + 1 →
      Stop other wother link cross j n i (w + 1) (along wown j i) k → c < get_or cross k 0 →
      Span f (get_or lines j 0) (get_or cross i 0) c → gap (get_or cross i 0) c + t ≤ along wown j i →
      Within w t (flip f) (flip T) (get_or lines j 0) c → ⊥
  first-stop i j w k c t li lj lk wr e s lt sp le wc =
      let N = F.near w t i j c li lj sp wc in
      go N.0 N.1 N.2 N.3 N.4 N.5
      (exact tf F B i j N.0 w li lj N.2 wr (λ b lb. (A.says j lj i li).least (w + 1) e b (omega arith)) N.3
      (within-course w N.1 (flip f) (flip T) (get_or lines j 0) (get_or cross N.0 0) N.4))
    where
      later : (q : ℕ) → q < n → Dec (q < k) → get_or cross q 0 ≤ c → Linked link j i q →
          is_stop other wother cross j (get_or cross i 0) (w + 1) (along wown j i) q ≡ true → ⊥
      later q lq (no p) u h st = let o = F.sorted k q (omega arith) lq in omega arith
      later q lq (yes p) u h st = clash st (s.before q p h)

      go : (q l : ℕ) → q < n → Linked link j i q → Within w l (flip f) (flip T) (get_or lines j 0) (get_or cross q 0) →
          ((gap (get_or cross i 0) (get_or cross q 0) + l ≤ gap (get_or cross i 0) c + t) × (get_or cross q 0 ≤ c))
          ⊎ (gap (get_or cross i 0) (get_or cross q 0) + l < gap (get_or cross i 0) c + t) →
          across other j q ≡ w + 1 → ⊥
      go q l lq h wq z on =
          let ew : suc w ≡ w + 1 = omega arith in
          let no_more : across wother j q ≤ l = (BM.says q lq j lj).least w on l wq in
          let no_less : along wown j i ≤ across wother j q + gap (get_or cross i 0) (get_or cross q 0) =
          (AM.says j lj i li).least (w + 1) e (across wother j q + gap (get_or cross i 0) (get_or cross q 0))
          (subst
          (λ (b : ℕ).
          Within b (across wother j q + gap (get_or cross i 0) (get_or cross q 0)) f T (get_or cross i 0) (get_or lines j 0))
          ew (step-within tf F B BM i j q w li lj lq h on)) in
          pick z no_more no_less
        where
          pick : ((gap (get_or cross i 0) (get_or cross q 0) + l ≤ gap (get_or cross i 0) c + t) × (get_or cross q 0 ≤ c))
              ⊎ (gap (get_or cross i 0) (get_or cross q 0) + l < gap (get_or cross i 0) c + t) → across wother j q ≤ l →
              along wown j i ≤ across wother j q + gap (get_or cross i 0) (get_or cross q 0) → ⊥
          pick (inl y) a b = later q lq (dec_lt q k) y.1 h (to-stop _ _ _ _ _ _ _ _ on (omega (arith, y.0)))
          pick (inr y) a b = omega arith

  greedy-step : (i j w k : ℕ) (cs : List ℕ) → i < n → j < m → k < n → w ≤ r → along own j i ≡ w + 1 + 1 →
      Stop other wother link cross j n i (w + 1) (along wown j i) k → w ≡ length cs →
      ink cs (get_or lines j 0) (get_or cross k 0) ≡ across wother j k →
      Greedy cs (flip f) (flip T) (get_or lines j 0) (get_or cross k 0) →
      Greedy (get_or cross k 0 ∷ cs) f T (get_or cross i 0) (get_or lines j 0)
  greedy-step i j w k cs li lj lk wr e s kl ek g =
      let st = of-stop _ _ _ _ _ _ _ _ (s.found lk).1 in (
        step-span tf F B i j k w li lj lk (s.found lk).0 st.0,
        λ c t lt sp le u.
            first-stop i j w k c t li lj lk wr e s lt sp (omega (arith, st.1)) (rw kl u),
        g,
      )

-- a walk's coordinates are greedy, and have as many steps as the ink says
pub trail-greedy : {f : ℕ → ℕ → Bool} {T : ℕ → ℕ → Type 0} → TargetFree f T → {cross : List ℕ} {n : ℕ} {lines : List ℕ}
    {m : ℕ} {link link' : List ℕ} → Faithful f T cross n lines m link →
    Faithful (flip f) (flip T) lines m cross n link' → {r : ℕ} {own other wown wother : List ℕ} →
    Labelled f T cross n lines m r own → Labelled (flip f) (flip T) lines m cross n r other →
    Measured f T cross n lines m own wown → Measured (flip f) (flip T) lines m cross n other wother →
    {i j v : ℕ} {qs : List ℕ} → Trail own other wown wother link link' cross lines m n j i v qs → i < n → j < m →
    v ≤ r + 1 + 1 → along own j i ≡ v →
    Greedy (coords cross lines qs) f T (get_or cross i 0) (get_or lines j 0)
    × (ink (coords cross lines qs) (get_or cross i 0) (get_or lines j 0) ≡ along wown j i)
trail-greedy tf F F' A B AM BM {i} {j} done li lj lr e =
    let t = (A.says j lj i li).course 0 e in
    let z = (AM.says j lj i li).least 0 e 0 t in
    (t, omega arith)
trail-greedy {f = f} tf {cross} {n} {lines} {m} F F' A B AM BM {i} {j} (step {v = w} {q = q} {qs = qs} s lq t) li lj lr e =
    let ew : w ≡ length qs + 1 = trail-length t in
    let st = of-stop _ _ _ _ _ _ _ _ (s.found lq).1 in
    let g = trail-greedy {f = λ a b. f b a} (λ a b z. tf b a z) F' F B A BM AM t lj lq (omega arith) st.0 in (
      greedy-step tf F A B AM BM i j (length qs) q (coords lines cross qs) li lj lq (omega arith) (omega arith)
          (rw ew at s) (sym (coords-length lines cross qs)) g.1 g.0,
      omega (arith, st.1, g.1),
    )

-- A walk's first stop, and two stops of one search.
pub trail-stop : {own other wown wother link link' cross lines : List ℕ} {m n line k v q : ℕ} {qs : List ℕ} →
    Trail own other wown wother link link' cross lines m n line k v (q ∷ qs) →
    (w : ℕ) × (v ≡ w + 1) × Stop other wother link cross line n k w (along wown line k) q × (q < n)
trail-stop (step {v = w} s l t) = (w, refl, s, l)

pub stop-first : {other inks link cross : List ℕ} {line n at v s : ℕ} (a b : ℕ) →
    Stop other inks link cross line n at v s a → Stop other inks link cross line n at v s b → a < n → a ≤ b
stop-first a b p q l = pick (dec_le a b)
  where
    pick : Dec (a ≤ b) → a ≤ b
    pick (yes h) = h
    pick (no h) = clash (q.found (omega arith)).1 (p.before b (omega arith) (q.found (omega arith)).0)
