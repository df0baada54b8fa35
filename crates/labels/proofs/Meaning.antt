-- What labels mean: a label k + 1 says that k segments, the first along the line, lead to a target, and no fewer.
use Prim.Native.Nat.{ℕ, zero, suc, ◌+◌, ◌-◌, ◌≤◌, ◌<◌}
use native.Mathlib.Omega.{arith}
use native.Mathlib.Numerals.{add-one}
use native.Mathlib.Decide.{dec_le, dec_lt}
use mathlib.Core.Path.{◌≡◌, refl, sym, subst, ◌∙◌}
use mathlib.Core.Logic.{◌≢◌, ⊎_elim}
use mathlib.Core.Bool.{Bool, true}
use mathlib.Core.List.{List}
use lib.ListN.{get_or}
use Rattle.foil_spec.specs.Paths.{gap}
use Rattle.course_laws.specs.Course.{flip, Span, Course, Within, TargetFree}
use Rattle.course_laws.proofs.Course.{span-sym, span-start, within_more, within-course, course-within}
use Rattle.runs.specs.Line.{along, across, Linked, is_stop}
use Rattle.grid.specs.Lines.{Lines}
use Rattle.runs.specs.Ink.{LeastInk, Inked, Lean}
use Rattle.labels.specs.Pass.{Cell, kept, none, new, Pass, Part, stood, got, Parts, Below}
use Rattle.labels.specs.Rounds.{Rounds, start, more, Last}
use Rattle.labels.specs.Walk.{Grounded}
use Rattle.runs.proofs.Line.{linked-sym, of-stop, to-stop}
use Rattle.labels.proofs.Part.{pass-parts, part-keep, parts_below, parts-lean}
use Rattle.labels.proofs.Going.{pass_below}
use Rattle.labels.proofs.Faithful.{Faithful}

-- what the label a of the point (x, y) says after n rounds
pub record Says (f : ℕ → ℕ → Bool) (T : ℕ → ℕ → Type 0) (n x y a : ℕ) : Type 0 where
  pub never : a ≡ 0 → (k : ℕ) → k ≤ n → Course k f T x y → ⊥
  pub course : (k : ℕ) → a ≡ k + 1 → Course k f T x y
  pub least : (k : ℕ) → a ≡ k + 1 → (i : ℕ) → i < k → Course i f T x y → ⊥

-- the labels of m lines with n crossings each are right after r rounds
pub record Labelled (f : ℕ → ℕ → Bool) (T : ℕ → ℕ → Type 0) (cross : List ℕ) (n : ℕ) (lines : List ℕ) (m r : ℕ)
    (lab : List ℕ) : Type 0 where
  pub says : (j : ℕ) → j < m → (i : ℕ) → i < n → Says f T r (get_or cross i 0) (get_or lines j 0) (along lab j i)

-- what the ink s of the point (x, y) says, beside its label a
pub record Measures (f : ℕ → ℕ → Bool) (T : ℕ → ℕ → Type 0) (x y a s : ℕ) : Type 0 where
  pub within : (k : ℕ) → a ≡ k + 1 → Within k s f T x y
  pub least : (k : ℕ) → a ≡ k + 1 → (t : ℕ) → Within k t f T x y → s ≤ t

-- the inks of m lines with n crossings each are right
pub record Measured (f : ℕ → ℕ → Bool) (T : ℕ → ℕ → Type 0) (cross : List ℕ) (n : ℕ) (lines : List ℕ) (m : ℕ)
    (lab inks : List ℕ) : Type 0 where
  pub says : (j : ℕ) → j < m → (i : ℕ) → i < n →
      Measures f T (get_or cross i 0) (get_or lines j 0) (along lab j i) (along inks j i)

course-free : (n : ℕ) (f : ℕ → ℕ → Bool) (T : ℕ → ℕ → Type 0) → TargetFree f T → (x y : ℕ) → Course n f T x y →
    f x y ≡ true
course-free zero f T tf x y r = tf x y r
course-free (suc n) f T tf x y r = span-start f y x r.0 r.1

-- fewer rounds say less
says_less : {f : ℕ → ℕ → Bool} {T : ℕ → ℕ → Type 0} (r : ℕ) {x y a : ℕ} → Says f T (r + 1) x y a → Says f T r x y a
says_less r s = record { never = λ e k l h. s.never e k (omega arith) h; course = s.course; least = s.least }

labelled-less : {f : ℕ → ℕ → Bool} {T : ℕ → ℕ → Type 0} {cross : List ℕ} {n : ℕ} {lines : List ℕ} {m : ℕ} (r : ℕ)
    {lab : List ℕ} → Labelled f T cross n lines m (r + 1) lab → Labelled f T cross n lines m r lab
labelled-less r L = record { says = λ j lj i li. says_less r (L.says j lj i li) }

-- A pass.
module _ {f : ℕ → ℕ → Bool} {T : ℕ → ℕ → Type 0} (tf : TargetFree f T) {cross : List ℕ} {n : ℕ} {lines : List ℕ} {m : ℕ}
    {link : List ℕ} (F : Faithful f T cross n lines m link) {other : List ℕ} {r : ℕ}
    (O : Labelled (flip f) (flip T) lines m cross n r other) where
  -- one segment to a crossing with a label k + 1
  pub step-span : (i j q k : ℕ) → i < n → j < m → q < n → Linked link j i q → across other j q ≡ k + 1 →
      Span f (get_or lines j 0) (get_or cross i 0) (get_or cross q 0)
  step-span i j q k li lj lq h e =
      let free = course-free k (flip f) (flip T) (λ a b t. tf b a t) _ _ ((O.says q lq j lj).course k e) in
      span-sym f (get_or lines j 0) (get_or cross q 0) (get_or cross i 0)
      (F.joined j q i lj lq li free (linked-sym link j i q h))

  pub step-course : (i j q k : ℕ) → i < n → j < m → q < n → Linked link j i q → across other j q ≡ k + 1 →
      Course (suc k) f T (get_or cross i 0) (get_or lines j 0)
  step-course i j q k li lj lq h e = (get_or cross q 0, step-span i j q k li lj lq h e, (O.says q lq j lj).course k e)

  -- what is joined with a point that no more than w segments leave, and is left by w segments itself, has the
  -- label w + 1
  pub exact : (i j q w : ℕ) → i < n → j < m → q < n → w ≤ r →
      ((k : ℕ) → k ≤ w → Course k f T (get_or cross i 0) (get_or lines j 0) → ⊥) → Linked link j i q →
      Course w (flip f) (flip T) (get_or lines j 0) (get_or cross q 0) → across other j q ≡ w + 1
  exact i j q w li lj lq lw low lk rq = go (across other j q) refl
    where
      pick : (k : ℕ) → Dec (w < k) → Dec (k < w) → across other j q ≡ k + 1 → k + 1 ≡ w + 1
      pick k (yes p) u e = absurd ((O.says q lq j lj).least k e w p rq)
      pick k (no p) (yes u) e = absurd (low (suc k) (omega arith) (step-course i j q k li lj lq lk e))
      pick k (no p) (no u) e = omega arith

      go : (a : ℕ) → across other j q ≡ a → a ≡ w + 1
      go zero e = absurd ((O.says q lq j lj).never e w lw rq)
      go (suc k) e = sym (add-one k) ∙ pick k (dec_lt w k) (dec_lt k w) (e ∙ sym (add-one k))

  -- no crossing with the label r + 1, and fewer segments do not lead there: nor do r + 1
  no_step : (i j : ℕ) → i < n → j < m → ((q : ℕ) → q < n → Linked link j i q → across other j q ≢ r + 1) →
      ((k : ℕ) → k ≤ r → Course k f T (get_or cross i 0) (get_or lines j 0) → ⊥) →
      Course (suc r) f T (get_or cross i 0) (get_or lines j 0) → ⊥
  no_step i j li lj h low t =
      let u = course-within r (flip f) (flip T) (get_or lines j 0) t.0 t.2 in
      let w = F.near r u.0 i j t.0 li lj t.1 u.1 in
      h w.0 w.2 w.3
      (exact i j w.0 r li lj w.2 (omega arith) low w.3
      (within-course r w.1 (flip f) (flip T) (get_or lines j 0) (get_or cross w.0 0) w.4))

  pass-cell : (i j : ℕ) → i < n → j < m → (a b : ℕ) → Cell other link j n (r + 1) i a b →
      Says f T r (get_or cross i 0) (get_or lines j 0) a → Says f T (r + 1) (get_or cross i 0) (get_or lines j 0) b
  pass-cell i j li lj a b (kept z) s =
      record { never = λ e k l t. absurd (z e); course = s.course; least = s.least }
  pass-cell i j li lj a b (none h) s = record {
    never = λ e k l t. pick k l t (dec_le k r);
    course = λ k e. absurd (omega arith);
    least = λ k e. absurd (omega arith);
  }
    where
      pick : (k : ℕ) → k ≤ r + 1 → Course k f T (get_or cross i 0) (get_or lines j 0) → Dec (k ≤ r) → ⊥
      pick k l t (yes p) = s.never refl k p t
      pick k l t (no p) =
          let e : k ≡ suc r = omega arith in
          no_step i j li lj h (s.never refl)
          (subst (λ (x : ℕ). Course x f T (get_or cross i 0) (get_or lines j 0)) e t)
  pass-cell i j li lj a b (new q lq lk e) s = record {
    never = λ z. absurd (omega arith);
    course = λ k z.
        let u : suc r ≡ k = omega arith in
        subst (λ (x : ℕ). Course x f T (get_or cross i 0) (get_or lines j 0)) u (step-course i j q r li lj lq lk e);
    least = λ k z x l t. s.never refl x (omega arith) t;
  }

  part-cell : (i j : ℕ) → i < n → j < m → (a b : ℕ) → Part other link j n (r + 1) i a b →
      Says f T r (get_or cross i 0) (get_or lines j 0) a → Says f T r (get_or cross i 0) (get_or lines j 0) b
  part-cell i j li lj a b stood s = s
  part-cell i j li lj a b (got q lq lk e) s = says_less r (pass-cell i j li lj a b (new q lq lk e) s)

  -- a part of a pass leaves labels as right as they were
  parts-labels : {l l' : List ℕ} → Labelled f T cross n lines m r l → Parts other link m n (r + 1) l l' →
      Labelled f T cross n lines m r l'
  parts-labels {l} {l'} L P = record {
    says = λ j lj i li. part-cell i j li lj (along l j i) (along l' j i) (P.part j lj i li) (L.says j lj i li);
  }

  pass-labels : {l l' : List ℕ} → Labelled f T cross n lines m r l → Pass other link m n (r + 1) l l' →
      Labelled f T cross n lines m (r + 1) l'
  pass-labels {l} {l'} L P = record {
    says = λ j lj i li. pass-cell i j li lj (along l j i) (along l' j i) (P.cell j lj i li) (L.says j lj i li);
  }

  -- the inks after a pass
  module _ {inks : List ℕ} (OM : Measured (flip f) (flip T) lines m cross n other inks) where
    pub step-within : (i j q k : ℕ) → i < n → j < m → q < n → Linked link j i q → across other j q ≡ k + 1 →
        Within (suc k) (across inks j q + gap (get_or cross i 0) (get_or cross q 0)) f T (get_or cross i 0) (get_or lines j 0)
    step-within i j q k li lj lq h e = (
      get_or cross q 0,
      across inks j q,
      omega arith,
      step-span i j q k li lj lq h e,
      (OM.says q lq j lj).within k e,
    )

    new-ink : (i j s : ℕ) → i < n → j < m →
        ((k : ℕ) → k ≤ r → Course k f T (get_or cross i 0) (get_or lines j 0) → ⊥) →
        LeastInk other inks link cross j n (r + 1) i s →
        Measures f T (get_or cross i 0) (get_or lines j 0) (r + 1 + 1) s
    new-ink i j s li lj low L = record {
      within = λ k e.
          let w : suc r ≡ k = omega arith in
          subst (λ (k : ℕ). Within k s f T (get_or cross i 0) (get_or lines j 0)) w
          (within_more (suc r) _ s f T (get_or cross i 0) (get_or lines j 0) L.ge
          (step-within i j L.q r li lj L.below L.linked L.stop));
      least = λ k e t w.
          let z : k ≡ suc r = omega arith in
          no_less t (subst (λ (k : ℕ). Within k t f T (get_or cross i 0) (get_or lines j 0)) z w);
    }
      where
        no_less : (t : ℕ) → Within (suc r) t f T (get_or cross i 0) (get_or lines j 0) → s ≤ t
        no_less t u =
            let w = F.near r u.1 i j u.0 li lj u.3 u.4 in
            let e =
            exact i j w.0 r li lj w.2 (omega arith) low w.3
            (within-course r w.1 (flip f) (flip T) (get_or lines j 0) (get_or cross w.0 0) w.4) in
            let a = L.le w.0 w.2 w.3 e in
            let b = (OM.says w.0 w.2 j lj).least r e w.1 w.4 in
            let c = u.2 in
            ⊎_elim (λ z. let y = z.0 in omega arith) (λ z. omega arith) w.5

    parts-inks : {l l' w w' : List ℕ} → Labelled f T cross n lines m r l → Measured f T cross n lines m l w →
        Parts other link m n (r + 1) l l' → Inked other inks link cross m n (r + 1) l l' w w' →
        Measured f T cross n lines m l' w'
    parts-inks {l} {l'} {w} {w'} A M P I = record {
      says = λ j lj i li. pick j lj i li (along l j i) (along l' j i) refl refl (P.part j lj i li);
    }
      where
        pick : (j : ℕ) → j < m → (i : ℕ) → i < n → (a b : ℕ) → along l j i ≡ a → along l' j i ≡ b →
            Part other link j n (r + 1) i a b →
            Measures f T (get_or cross i 0) (get_or lines j 0) (along l' j i) (along w' j i)
        pick j lj i li zero b ea eb stood = record {
          within = λ k e. absurd (omega arith);
          least = λ k e. absurd (omega arith);
        }
        pick j lj i li (suc a) b ea eb stood =
            rw (I.kept j lj i li (λ z. omega arith), eb ∙ sym ea) (M.says j lj i li)
        pick j lj i li a b ea eb (got q lq lk e) =
            rw eb
            (new-ink i j (along w' j i) li lj ((A.says j lj i li).never ea)
            (I.fresh j lj i li ea (λ z. omega arith)))

pub rounds-pos : {kl ku cols rows : List ℕ} {nc nr : ℕ} {l₀ u₀ wl₀ wu₀ : List ℕ} {v : ℕ} {l u wl wu : List ℕ} →
    Rounds kl ku cols rows nc nr l₀ u₀ wl₀ wu₀ v l u wl wu → 1 ≤ v
rounds-pos start = omega arith
rounds-pos (more r x a y b) = omega arith

-- both lists of labels are right after n rounds
abbrev pub Both : (ℕ → ℕ → Bool) → (ℕ → ℕ → Type 0) → List ℕ → ℕ → List ℕ → ℕ → ℕ → List ℕ → List ℕ → Type 0
Both f T cols nc rows nr n l u = Labelled f T cols nc rows nr n l × Labelled (flip f) (flip T) rows nr cols nc n u

-- The rounds.
module _ {f : ℕ → ℕ → Bool} {T : ℕ → ℕ → Type 0} (tf : TargetFree f T) {cols : List ℕ} {nc : ℕ} {rows : List ℕ} {nr : ℕ}
    {kl ku : List ℕ} (L : Faithful f T cols nc rows nr kl) (U : Faithful (flip f) (flip T) rows nr cols nc ku) where
  both-more : (n v : ℕ) {l u l' u' : List ℕ} → v ≡ n + 1 → Both f T cols nc rows nr n l u → Pass u kl nr nc v l l' →
      Pass l' ku nc nr v u u' → Both f T cols nc rows nr v l' u'
  both-more n v e B x y =
      let l2 = pass-labels tf L B.1 B.0 (rw e at x) in
      rw e (l2, pass-labels (λ a b t. tf b a t) U (labelled-less n l2) B.1 (rw e at y))

  pub rounds-labels : {l₀ u₀ wl₀ wu₀ : List ℕ} → Both f T cols nc rows nr 0 l₀ u₀ → {v : ℕ} {l u wl wu : List ℕ} →
      Rounds kl ku cols rows nc nr l₀ u₀ wl₀ wu₀ v l u wl wu → Both f T cols nc rows nr (v - 1) l u
  rounds-labels B start = B
  rounds-labels B (more {v = v} r x a y b) =
      let p = rounds-pos r in
      let e : v + 1 - 1 ≡ v = omega arith in
      rw e (both-more (v - 1) v (omega arith) (rounds-labels B r) x y)

  pub rounds-inks : {l₀ u₀ wl₀ wu₀ : List ℕ} → Both f T cols nc rows nr 0 l₀ u₀ →
      Measured f T cols nc rows nr l₀ wl₀ × Measured (flip f) (flip T) rows nr cols nc u₀ wu₀ →
      {v : ℕ} {l u wl wu : List ℕ} → Rounds kl ku cols rows nc nr l₀ u₀ wl₀ wu₀ v l u wl wu →
      Measured f T cols nc rows nr l wl × Measured (flip f) (flip T) rows nr cols nc u wu
  rounds-inks B M start = M
  rounds-inks B M (more {v = v} r x a y b) =
      let p = rounds-pos r in
      let e : v ≡ v - 1 + 1 = omega arith in
      let A = rounds-labels B r in
      let K = rounds-inks B M r in
      let l2 = pass-labels tf L A.1 A.0 (rw e at x) in
      let k2 = parts-inks tf L A.1 K.1 A.0 K.0 (pass-parts (rw e at x)) (rw e at a) in (
        k2,
        parts-inks (λ a b t. tf b a t) U (labelled-less (v - 1) l2) k2 A.1 K.1 (pass-parts (rw e at y))
            (rw e at b),
      )

-- A round that changes nothing: what has no label then leads to no target.
module _ {f : ℕ → ℕ → Bool} {T : ℕ → ℕ → Type 0} (tf : TargetFree f T) {cross : List ℕ} {n : ℕ} {lines : List ℕ} {m : ℕ}
    {link : List ℕ} (F : Faithful f T cross n lines m link) {r : ℕ} {l u : List ℕ}
    (A : Labelled f T cross n lines m r l) (B : Labelled (flip f) (flip T) lines m cross n r u)
    (C : Below n m u r) where
  stuck-step : (k : ℕ) →
      ((i : ℕ) → i < n → (j : ℕ) → j < m → along u i j ≡ 0 →
      Course k (flip f) (flip T) (get_or lines j 0) (get_or cross i 0) → ⊥) →
      (j : ℕ) → j < m → (i : ℕ) → i < n → along l j i ≡ 0 →
      Course (suc k) f T (get_or cross i 0) (get_or lines j 0) → ⊥
  stuck-step k ih j lj i li z t =
      let e = course-within k (flip f) (flip T) (get_or lines j 0) t.0 t.2 in
      let w = F.near k e.0 i j t.0 li lj t.1 e.1 in
      go w.0 w.2 w.3 (within-course k w.1 (flip f) (flip T) (get_or lines j 0) (get_or cross w.0 0) w.4)
      (along u w.0 j) refl
    where
      go : (q : ℕ) → q < n → Linked link j i q → Course k (flip f) (flip T) (get_or lines j 0) (get_or cross q 0) →
          (a : ℕ) → along u q j ≡ a → ⊥
      go q lq lk rq zero e = ih q lq j lj e rq
      go q lq lk rq (suc a) e =
          let b = C.le q lq j lj in
          (A.says j lj i li).never z (suc a) (omega arith)
          (step-course tf F B i j q a li lj lq lk (e ∙ sym (add-one a)))

-- Every label but the first rests on one of the other direction, and is at most as large as the rounds allow.
grounded-own : {other inks link cross : List ℕ} {m n v : ℕ} {l l' w w' : List ℕ} → Parts other link m n v l l' →
    Inked other inks link cross m n v l l' w w' → Grounded l other w inks link cross m n →
    Grounded l' other w' inks link cross m n
grounded-own {other} {inks} {link} {cross} {m} {n} {v} {l} {l'} {w} {w'} P I G = record {
  next = λ i li k lk u p e. go i li k lk u p (along l i k) (along l' i k) refl refl (P.part i li k lk) e;
}
  where
    go : (i : ℕ) → i < m → (k : ℕ) → k < n → (u : ℕ) → 1 ≤ u → (x y : ℕ) → along l i k ≡ x → along l' i k ≡ y →
        Part other link i n v k x y → along l' i k ≡ u + 1 →
        (q : ℕ) × (q < n) × Linked link i k q
        × (is_stop other inks cross i (get_or cross k 0) u (along w' i k) q ≡ true)
    go i li k lk u p x y ex ey stood h =
        rw (I.kept i li k lk (λ f. omega arith)) (G.next i li k lk u p (ex ∙ sym ey ∙ h))
    go i li k lk u p x y ex ey (got q lq z e) h =
        let L = I.fresh i li k lk ex (λ f. omega arith) in
        let le = L.le L.q L.below L.linked L.stop in
        let ge = L.ge in
        (L.q, L.below, L.linked, to-stop _ _ _ _ _ _ _ _ (omega (arith, L.stop)) (omega arith))

-- the labels of the other direction keep what is rested on
grounded-other : {own wown other other' inks inks' link link' cross lines : List ℕ} {m n v : ℕ} →
    Parts own link' n m v other other' → Inked own wown link' lines n m v other other' inks inks' →
    {l w : List ℕ} → Grounded l other w inks link cross m n → Grounded l other' w inks' link cross m n
grounded-other P I G = record {
  next = λ i li k lk u p e.
      let r = G.next i li k lk u p e in
      let s = of-stop _ _ _ _ _ _ _ _ r.3 in
      let on = part-keep (P.part r.0 r.1 i li) (omega (arith, s.0)) in
      let ink = I.kept r.0 r.1 i li (omega (arith, s.0)) in
      (r.0, r.1, r.2, to-stop _ _ _ _ _ _ _ _ (on ∙ s.0) (rw ink s.1));
}

-- a part of a round
grounded-more : {kl ku cols rows : List ℕ} {nc nr v : ℕ} {l u wl wu l' u' wl' wu' : List ℕ} →
    Parts u kl nr nc v l l' → Inked u wu kl cols nr nc v l l' wl wl' →
    Parts l' ku nc nr v u u' → Inked l' wl' ku rows nc nr v u u' wu wu' →
    Grounded l u wl wu kl cols nr nc × Grounded u l wu wl ku rows nc nr →
    Grounded l' u' wl' wu' kl cols nr nc × Grounded u' l' wu' wl' ku rows nc nr
grounded-more x a y b G =
    (grounded-other y b (grounded-own x a G.0), grounded-own y b (grounded-other x a G.1))

module _ {kl ku cols rows : List ℕ} {nc nr : ℕ} {l₀ u₀ wl₀ wu₀ : List ℕ} (bl : Below nr nc l₀ 1) (bu : Below nc nr u₀ 1)
  where
    pub rounds-grounded : {v : ℕ} {l u wl wu : List ℕ} → Rounds kl ku cols rows nc nr l₀ u₀ wl₀ wu₀ v l u wl wu →
        Grounded l u wl wu kl cols nr nc × Grounded u l wu wl ku rows nc nr
    rounds-grounded start = (
      record { next = λ j lj i li w p e. let b = bl.le j lj i li in absurd (omega arith) },
      record { next = λ i li j lj w p e. let b = bu.le i li j lj in absurd (omega arith) },
    )
    rounds-grounded (more r x a y b) =
        grounded-more (pass-parts x) a (pass-parts y) b (rounds-grounded r)

    pub rounds-below : {v : ℕ} {l u wl wu : List ℕ} → Rounds kl ku cols rows nc nr l₀ u₀ wl₀ wu₀ v l u wl wu →
        Below nr nc l v × Below nc nr u v
    rounds-below start = (bl, bu)
    rounds-below (more r x a y b) = let ih = rounds-below r in (pass_below x ih.0, pass_below y ih.1)

module _ {f : ℕ → ℕ → Bool} {T : ℕ → ℕ → Type 0} (tf : TargetFree f T) {cols : List ℕ} {nc : ℕ} {rows : List ℕ} {nr : ℕ}
    {kl ku : List ℕ} (L : Faithful f T cols nc rows nr kl) (U : Faithful (flip f) (flip T) rows nr cols nc ku)
    {l₀ u₀ wl₀ wu₀ : List ℕ} (S : Both f T cols nc rows nr 0 l₀ u₀) (bl : Below nr nc l₀ 1) (bu : Below nc nr u₀ 1)
    {v : ℕ} {l u wl wu : List ℕ} (R : Rounds kl ku cols rows nc nr l₀ u₀ wl₀ wu₀ v l u wl wu)
    (P : Pass u kl nr nc v l l)
    (Q : Pass l ku nc nr v u u) where
  still : Both f T cols nc rows nr v l u
  still = let p = rounds-pos R in both-more tf L U (v - 1) v (omega arith) (rounds-labels tf L U S R) P Q

  pub rounds-stuck : (k : ℕ) →
      ((j : ℕ) → j < nr → (i : ℕ) → i < nc → along l j i ≡ 0 → Course k f T (get_or cols i 0) (get_or rows j 0) → ⊥)
      × ((i : ℕ) → i < nc → (j : ℕ) → j < nr → along u i j ≡ 0 →
      Course k (flip f) (flip T) (get_or rows j 0) (get_or cols i 0) → ⊥)
  rounds-stuck zero = (
    λ j lj i li z t. (still.0.says j lj i li).never z 0 (omega arith) t,
    λ i li j lj z t. (still.1.says i li j lj).never z 0 (omega arith) t,
  )
  rounds-stuck (suc k) =
      let ih = rounds-stuck k in
      let low = rounds-below bl bu R in (
        stuck-step tf L still.0 still.1 low.1 k ih.1,
        stuck-step (λ a b t. tf b a t) U still.1 still.0 low.0 k ih.0,
      )

-- The last round, with labels that were right before: all of them are as right then, and those of the crossing that it
-- is about are right after one round more.
module _ {kl ku cols rows : List ℕ} {nc nr i j v : ℕ} {l u wl wu l' u' wl' wu' : List ℕ} (p : 1 ≤ v)
    (E : Last kl ku cols rows nc nr i j v l u wl wu l' u' wl' wu') where
  same-round : v ≡ v - 1 + 1
  same-round = omega arith

  pub last-below : Below nr nc l v × Below nc nr u v → Below nr nc l' (v + 1) × Below nc nr u' (v + 1)
  last-below B = (parts_below E.level B.0, parts_below E.upright B.1)

  pub last-lean : Lines cols nc → Lines rows nr → Lean nr nc l wl × Lean nc nr u wu →
      Lean nr nc l' wl' × Lean nc nr u' wu'
  last-lean C R H =
      let k = parts-lean C p E.level E.level-inks H.1 H.0 in
      (k, parts-lean R p E.upright E.upright-inks k H.1)

  pub last-grounded : Grounded l u wl wu kl cols nr nc × Grounded u l wu wl ku rows nc nr →
      Grounded l' u' wl' wu' kl cols nr nc × Grounded u' l' wu' wl' ku rows nc nr
  last-grounded G = grounded-more E.level E.level-inks E.upright E.upright-inks G

  module _ {f : ℕ → ℕ → Bool} {T : ℕ → ℕ → Type 0} (tf : TargetFree f T) (L : Faithful f T cols nc rows nr kl)
      (U : Faithful (flip f) (flip T) rows nr cols nc ku) (B : Both f T cols nc rows nr (v - 1) l u) where
    pub last-labels : Both f T cols nc rows nr (v - 1) l' u'
    last-labels =
        let l2 = parts-labels tf L B.1 B.0 (rw same-round at E.level) in
        (l2, parts-labels (λ a b t. tf b a t) U l2 B.1 (rw same-round at E.upright))

    pub last-inks : Measured f T cols nc rows nr l wl × Measured (flip f) (flip T) rows nr cols nc u wu →
        Measured f T cols nc rows nr l' wl' × Measured (flip f) (flip T) rows nr cols nc u' wu'
    last-inks M =
        let k2 = parts-inks tf L B.1 M.1 B.0 M.0 (rw same-round at E.level)
        (rw same-round at E.level-inks) in (
          k2,
          parts-inks (λ a b t. tf b a t) U last-labels.0 k2 B.1 M.1 (rw same-round at E.upright)
              (rw same-round at E.upright-inks),
        )

    pub last-level : i < nc → j < nr → Says f T (v - 1 + 1) (get_or cols i 0) (get_or rows j 0) (along l' j i)
    last-level li lj =
        pass-cell tf L B.1 i j li lj (along l j i) (along l' j i) (rw same-round at E.level-here)
        (B.0.says j lj i li)

    pub last-upright : i < nc → j < nr →
        Says (flip f) (flip T) (v - 1 + 1) (get_or rows j 0) (get_or cols i 0) (along u' i j)
    last-upright li lj =
        pass-cell (λ a b t. tf b a t) U last-labels.0 j i lj li (along u i j) (along u' i j)
        (rw same-round at E.upright-here) (B.1.says i li j lj)
