-- The way that is chosen by the labels has fewest segments, and a walk that way takes the best path.
use Prim.Native.Nat.{ℕ, suc, ◌+◌, ◌-◌, ◌≤◌, ◌<◌}
use native.Mathlib.Omega.{arith}
use mathlib.Core.Path.{◌≡◌, subst}
use mathlib.Core.Logic.{◌≢◌, ◌⊎◌, inl, inr}
use mathlib.Core.Bool.{Bool, true, false, not}
use mathlib.Core.List.{List, [], ◌∷◌}
use lib.Dec.{eqb, ltb}
use borrow.Author.Tests.{eq-eqb, eqb-true}
use Rattle.std.proofs.lemmas.Bool.{eqb-false, ltb-true, ltb-false}
use Rattle.list_laws.proofs.Tests.{both}
use lib.ListN.{get_or, length}
use Rattle.course_laws.specs.Course.{Course, flip, Path, ink, TargetFree}
use Rattle.course_laws.specs.Best.{PathD, ink_d, LexD, Best}
use Rattle.course_laws.proofs.Greedy.{path-course, path-within}
use Rattle.course_laws.proofs.Best.{Fewest, level-fewest, upright-fewest, best-level, best-upright}
use Rattle.grid.specs.Lines.{Rising}
use Rattle.labels.specs.Walk.{Grounded, Trail, label_at}
use Rattle.labels.proofs.Walk.{grounded-next}
use Rattle.labels.proofs.Faithful.{Faithful}
use Rattle.labels.proofs.Meaning.{Says, Labelled, Measured}
use Rattle.labels.proofs.First.{coords, coords-length, trail-length, trail-greedy, first-stop, trail-stop, stop-first}
use Rattle.runs.specs.Line.{along, Stop}
use Rattle.search.specs.Choice.{Choice, level-only, upright-only, level-less, upright-less}
use Rattle.search.specs.Choice.{here, tie-level, tie-upright}
use Rattle.search.specs.Search.{Starts, goes}

module _ {l u wl wu ku rows : List ℕ} {nr i j : ℕ} where
  -- one way has no label
  pub choose_only : (along l j i ≢ 0) ⊎ (along u i j ≢ 0) → (along l j i ≡ 0) ⊎ (along u i j ≡ 0)
      → Choice l u wl wu ku rows nr i j (eqb (along l j i) 0)
  choose_only (inl p) (inl z) = absurd (p z)
  choose_only (inr p) (inl z) = rw (eq-eqb (along l j i) 0 z) (upright-only p (inl z))
  choose_only p (inr z) =
      both (eqb (along l j i) 0) (λ t. absurd (none p (eqb-true (along l j i) 0 t)))
      (λ t. rw t (level-only (eqb-false (along l j i) 0 t) (inl z)))
    where
      none : (along l j i ≢ 0) ⊎ (along u i j ≢ 0) → along l j i ≡ 0 → ⊥
      none (inl q) e = q e
      none (inr q) e = q z

  -- one way needs fewer segments
  pub choose_few : along l j i ≢ 0 → along u i j ≢ 0 → along l j i ≢ along u i j
      → Choice l u wl wu ku rows nr i j (ltb (along u i j) (along l j i))
  choose_few p q ne =
      both (ltb (along u i j) (along l j i)) (λ t. rw t (upright-only q (inr (ltb-true (along u i j) (along l j i) t))))
      (λ t. let le = ltb-false (along u i j) (along l j i) t in rw t (level-only p (inr (omega arith))))

  -- both ways need as many segments, and one has fewer steps
  pub choose_less : along l j i ≢ 0 → along l j i ≡ along u i j → along wl j i ≢ along wu i j
      → Choice l u wl wu ku rows nr i j (ltb (along wu i j) (along wl j i))
  choose_less p e ne =
      both (ltb (along wu i j) (along wl j i))
      (λ t. rw t (upright-less p e (ltb-true (along wu i j) (along wl j i) t)))
      (λ t. let le = ltb-false (along wu i j) (along wl j i) t in rw t (level-less p e (omega arith)))

  -- both ways end here
  pub choose_here : along l j i ≡ 1 → along l j i ≡ along u i j
      → Choice l u wl wu ku rows nr i j (not (eqb (along l j i) 1))
  choose_here p e = rw (eq-eqb (along l j i) 1 p) (here p (omega arith))

  -- and as many steps
  pub choose_tie : {r : ℕ} → along l j i ≢ 0 → along l j i ≡ along u i j → along wl j i ≡ along wu i j
      → along l j i ≢ 1 → Stop l wl ku rows i nr j (along l j i - 1) (along wu i j) r
      → Choice l u wl wu ku rows nr i j (ltb r j)
  choose_tie {r} p e k q s =
      both (ltb r j)
      (λ t. rw t (tie-upright (along l j i - 1) r (omega arith) (omega arith) (omega arith) k s (ltb-true r j t)))
      (λ t. rw t (tie-level (along l j i - 1) r (omega arith) (omega arith) (omega arith) k s (ltb-false r j t)))

  -- the chosen way has a label
  pub choice-some : (up : Bool) → Choice l u wl wu ku rows nr i j up → 1 ≤ label_at up l u i j
  unfolding label_at
  choice-some false (level-only p q) = omega arith
  choice-some false (level-less p e lt) = omega arith
  choice-some false (here p q) = omega arith
  choice-some false (tie-level v r p kl ku w s le) = omega arith
  choice-some true (upright-only p q) = omega arith
  choice-some true (upright-less p e lt) = omega arith
  choice-some true (tie-upright v r p kl ku w s lt) = omega arith

  -- where the walk starts
  module _ {nc : ℕ} {up : Bool} {corners : ℕ} (c : Choice l u wl wu ku rows nr i j up) where
    pub starts_level : up ≡ false → corners ≡ along l j i → Starts l u wl wu ku rows nc nr i j
        (record { columns = nc; rows = nr; i = i; j = j; upright = up; corners = corners })
    unfolding label_at
    starts_level e k = rw (e, k) (goes false (rw e at c))

    pub starts_upright : up ≡ true → corners ≡ along u i j → Starts l u wl wu ku rows nc nr i j
        (record { columns = nc; rows = nr; i = i; j = j; upright = up; corners = corners })
    unfolding label_at
    starts_upright e k = rw (e, k) (goes true (rw e at c))

-- the labels l and u and the inks wl and wu are right after n rounds, and those of the start, the crossing of column i
-- and row j, after one more
module _ {f : ℕ → ℕ → Bool} {T : ℕ → ℕ → Type 0} (tf : TargetFree f T) {cols : List ℕ} {nc : ℕ} {rows : List ℕ} {nr : ℕ}
    {kl ku : List ℕ} (L : Faithful f T cols nc rows nr kl) (U : Faithful (flip f) (flip T) rows nr cols nc ku)
    (R : Rising rows nr) {n : ℕ} {l u wl wu : List ℕ} (A : Labelled f T cols nc rows nr n l)
    (B : Labelled (flip f) (flip T) rows nr cols nc n u) (AM : Measured f T cols nc rows nr l wl)
    (BM : Measured (flip f) (flip T) rows nr cols nc u wu) (G : Grounded u l wu wl ku rows nc nr)
    {i j : ℕ} (i-in : i < nc) (j-in : j < nr)
    (level-says : Says f T (n + 1) (get_or cols i 0) (get_or rows j 0) (along l j i))
    (upright-says : Says (flip f) (flip T) (n + 1) (get_or rows j 0) (get_or cols i 0) (along u i j))
    (l-most : along l j i ≤ n + 1 + 1) (u-most : along u i j ≤ n + 1 + 1) where
  -- fewer segments than the chosen label says do not lead to a target
  level-low : (k m : ℕ) → Choice l u wl wu ku rows nr i j false → along l j i ≡ k + 1 → m < k
      → Course m (flip f) (flip T) (get_or rows j 0) (get_or cols i 0) → ⊥
  level-low k m (level-only z (inl x)) e lm t = upright-says.never x m (omega arith) t
  level-low k m (level-only z (inr x)) e lm t = upright-says.least (along u i j - 1) (omega arith) m (omega arith) t
  level-low k m (level-less z x lt) e lm t = upright-says.least k (omega arith) m lm t
  level-low k m (here kl ku) e lm t = omega arith
  level-low k m (tie-level w q p kl ku i st le) e lm t = upright-says.least w ku m (omega arith) t

  upright-low : (k m : ℕ) → Choice l u wl wu ku rows nr i j true → along u i j ≡ k + 1 → m < k
      → Course m f T (get_or cols i 0) (get_or rows j 0) → ⊥
  upright-low k m (upright-only z (inl x)) e lm t = level-says.never x m (omega arith) t
  upright-low k m (upright-only z (inr x)) e lm t = level-says.least (along l j i - 1) (omega arith) m (omega arith) t
  upright-low k m (upright-less z x lt) e lm t = level-says.least k (omega arith) m lm t
  upright-low k m (tie-upright w q p kl ku i st lt) e lm t = level-says.least w kl m (omega arith) t

  -- no path of k segments has fewer steps than the ink says, where the label is k + 1
  level-least : (k : ℕ) (cs : List ℕ) → along l j i ≡ k + 1 → Path cs f T (get_or cols i 0) (get_or rows j 0)
      → k ≡ length cs → along wl j i ≤ ink cs (get_or cols i 0) (get_or rows j 0)
  level-least k cs e p kl =
      (AM.says j j-in i i-in).least (length cs) (omega arith) (ink cs (get_or cols i 0) (get_or rows j 0))
      (path-within cs f T (get_or cols i 0) (get_or rows j 0) p)

  upright-least : (k : ℕ) (cs : List ℕ) → along u i j ≡ k + 1
      → Path cs (flip f) (flip T) (get_or rows j 0) (get_or cols i 0) → k ≡ length cs
      → along wu i j ≤ ink cs (get_or rows j 0) (get_or cols i 0)
  upright-least k cs e p kl =
      (BM.says i i-in j j-in).least (length cs) (omega arith) (ink cs (get_or rows j 0) (get_or cols i 0))
      (path-within cs (flip f) (flip T) (get_or rows j 0) (get_or cols i 0) p)

  -- no upright path of w segments, and as few steps, goes to a smaller y, where the first upright stop does not
  no_lower : (w q c : ℕ) (cs : List ℕ) → 1 ≤ w → along u i j ≡ w + 1
      → Stop l wl ku rows i nr j w (along wu i j) q → j ≤ q
      → Path (c ∷ cs) (flip f) (flip T) (get_or rows j 0) (get_or cols i 0) → w ≡ suc (length cs)
      → ink (c ∷ cs) (get_or rows j 0) (get_or cols i 0) ≤ along wu i j → c < get_or rows j 0 → ⊥
  no_lower w q c cs p e st le pa ew few lt =
      let st1 : Stop l wl ku rows i nr j ((w + 1) - 1) (along wu i j) q =
      subst (λ (k : ℕ). Stop l wl ku rows i nr j k (along wu i j) q) (omega arith) st in
      let lq = (grounded-next i j (w + 1) q G i-in j-in (omega arith) (omega arith) e st1).0 in
      let so = U.sorted j q le lq in
      let e2 : w ≡ length cs + 1 = omega arith in
      first-stop (λ y x z. tf x y z) U B A BM AM j i (length cs) q c (ink cs (get_or cols i 0) c) j-in i-in lq
      (omega arith) (omega arith) (rw e2 at st) (omega arith) pa.1 (omega arith)
      (path-within cs f T (get_or cols i 0) c pa.2)

  -- the chosen label is that of fewest segments
  pub fewest-level : (k : ℕ) → Choice l u wl wu ku rows nr i j false → along l j i ≡ k + 1
      → Fewest f T (get_or cols i 0) (get_or rows j 0) k
  fewest-level k c e =
      level-fewest f T tf (get_or cols i 0) (get_or rows j 0) k (λ m lm t. level-says.least k e m lm t)
      (λ m lm t. level-low k m c e lm t) (level-says.course k e)

  pub fewest-upright : (k : ℕ) → Choice l u wl wu ku rows nr i j true → along u i j ≡ k + 1
      → Fewest f T (get_or cols i 0) (get_or rows j 0) k
  fewest-upright k c e =
      upright-fewest f T tf (get_or cols i 0) (get_or rows j 0) k (λ m lm t. upright-low k m c e lm t)
      (λ m lm t. upright-says.least k e m lm t) (upright-says.course k e)

  -- what another way's ink says, where the chosen label is k + 1
  no-upright : (k : ℕ) (cs : List ℕ) → Choice l u wl wu ku rows nr i j false → along l j i ≡ k + 1
      → Path cs (flip f) (flip T) (get_or rows j 0) (get_or cols i 0) → k ≡ length cs
      → along wl j i ≤ ink cs (get_or rows j 0) (get_or cols i 0)
  no-upright k cs (level-only z (inl x)) e p kl =
      absurd
      (upright-says.never x (length cs) (omega arith)
      (path-course cs (flip f) (flip T) (get_or rows j 0) (get_or cols i 0) p))
  no-upright k cs (level-only z (inr x)) e p kl =
      absurd
      (upright-says.least (along u i j - 1) (omega arith) (length cs) (omega arith)
      (path-course cs (flip f) (flip T) (get_or rows j 0) (get_or cols i 0) p))
  no-upright k cs (level-less z x lt) e p kl = let a = upright-least k cs (omega arith) p kl in omega arith
  no-upright k cs (here x y) e p kl =
      let a = (AM.says j j-in i i-in).least 0 (omega arith) 0 (level-says.course 0 (omega arith)) in omega arith
  no-upright k cs (tie-level w q z x y i st le) e p kl =
      let a = upright-least k cs (omega arith) p kl in omega arith

  no-level : (k : ℕ) (cs : List ℕ) → Choice l u wl wu ku rows nr i j true → along u i j ≡ k + 1
      → Path cs f T (get_or cols i 0) (get_or rows j 0) → k ≡ length cs
      → along wu i j ≤ ink cs (get_or cols i 0) (get_or rows j 0)
  no-level k cs (upright-only z (inl x)) e p kl =
      absurd
      (level-says.never x (length cs) (omega arith) (path-course cs f T (get_or cols i 0) (get_or rows j 0) p))
  no-level k cs (upright-only z (inr x)) e p kl =
      absurd
      (level-says.least (along l j i - 1) (omega arith) (length cs) (omega arith)
      (path-course cs f T (get_or cols i 0) (get_or rows j 0) p))
  no-level k cs (upright-less z x lt) e p kl = let a = level-least k cs (omega arith) p kl in omega arith
  no-level k cs (tie-upright w q z x y i st le) e p kl = let a = level-least k cs (omega arith) p kl in omega arith

  -- and a walk from it takes the best path
  module _ (k : ℕ) (qs : List ℕ) where
    pub walk-level : Choice l u wl wu ku rows nr i j false → along l j i ≡ k + 1
        → Trail l u wl wu kl ku cols rows nr nc j i (k + 1) qs
        → Best false (coords cols rows qs) f T (get_or cols i 0) (get_or rows j 0)
    walk-level c e tr =
        let tl = trail-length tr in
        let cl = coords-length cols rows qs in
        let g = trail-greedy tf L U A B AM BM tr i-in j-in (omega arith) e in
        best-level f T tf (get_or cols i 0) (get_or rows j 0) (coords cols rows qs)
        (λ m lm t. level-says.least k e m (omega arith) t) (λ m lm t. level-low k m c e (omega arith) t)
        g.0 (λ d ks p n. shorter d ks p (omega arith) g.1)
        (λ a cs p n y lt. later c a cs p (omega arith) (omega (arith, g.1)) lt)
      where
        shorter : {s : ℕ} (d : Bool) (ks : List ℕ) → PathD d ks f T (get_or cols i 0) (get_or rows j 0) → k ≡ length ks
            → s ≡ along wl j i → s ≤ ink_d d ks (get_or cols i 0) (get_or rows j 0)
        shorter false ks p n s = let a = level-least k ks e p n in omega arith
        shorter true ks p n s = let a = no-upright k ks c e p n in omega arith

        later : Choice l u wl wu ku rows nr i j false → (a : ℕ) (cs : List ℕ)
            → Path (a ∷ cs) (flip f) (flip T) (get_or rows j 0) (get_or cols i 0) → k ≡ suc (length cs)
            → along wl j i ≡ ink (a ∷ cs) (get_or rows j 0) (get_or cols i 0) → a < get_or rows j 0 → ⊥
        later (level-only z (inl x)) a cs p kl s lt =
            upright-says.never x (suc (length cs)) (omega arith)
            (path-course (a ∷ cs) (flip f) (flip T) (get_or rows j 0) (get_or cols i 0) p)
        later (level-only z (inr x)) a cs p kl s lt =
            upright-says.least (along u i j - 1) (omega arith) (suc (length cs)) (omega arith)
            (path-course (a ∷ cs) (flip f) (flip T) (get_or rows j 0) (get_or cols i 0) p)
        later (level-less z x less) a cs p kl s lt =
            let b = upright-least k (a ∷ cs) (omega arith) p kl in omega arith
        later (here x y) a cs p kl s lt = omega arith
        later (tie-level w q z x y v st le) a cs p kl s lt =
            no_lower w q a cs z y st le p (omega arith) (omega arith) lt

    pub walk-upright : Choice l u wl wu ku rows nr i j true → along u i j ≡ k + 1
        → Trail u l wu wl ku kl rows cols nc nr i j (k + 1) qs
        → Best true (coords rows cols qs) f T (get_or cols i 0) (get_or rows j 0)
    walk-upright c e tr =
        let tl = trail-length tr in
        let cl = coords-length rows cols qs in
        let g = trail-greedy (λ y x z. tf x y z) U L B A BM AM tr j-in i-in (omega arith) e in
        best-upright f T tf (get_or cols i 0) (get_or rows j 0) (coords rows cols qs)
        (λ m lm t. upright-low k m c e (omega arith) t) (λ m lm t. upright-says.least k e m (omega arith) t)
        g.0 (λ d ks p n. shorter d ks p (omega arith) g.1)
        (λ cs p n y. earlier c qs tr cs p (omega arith) (omega (arith, g.1)))
      where
        shorter : {s : ℕ} (d : Bool) (ks : List ℕ) → PathD d ks f T (get_or cols i 0) (get_or rows j 0) → k ≡ length ks
            → s ≡ along wu i j → s ≤ ink_d d ks (get_or cols i 0) (get_or rows j 0)
        shorter true ks p n s = let a = upright-least k ks e p n in omega arith
        shorter false ks p n s = let a = no-level k ks c e p n in omega arith

        earlier : Choice l u wl wu ku rows nr i j true → (qs : List ℕ)
            → Trail u l wu wl ku kl rows cols nc nr i j (k + 1) qs
            → (cs : List ℕ) → Path cs f T (get_or cols i 0) (get_or rows j 0) → k ≡ length cs
            → along wu i j ≡ ink cs (get_or cols i 0) (get_or rows j 0)
            → LexD (get_or rows j 0) true (coords rows cols qs) false cs
        earlier (upright-only z (inl x)) qs tr cs p kl s =
            absurd
            (level-says.never x (length cs) (omega arith) (path-course cs f T (get_or cols i 0) (get_or rows j 0) p))
        earlier (upright-only z (inr x)) qs tr cs p kl s =
            absurd
            (level-says.least (along l j i - 1) (omega arith) (length cs) (omega arith)
            (path-course cs f T (get_or cols i 0) (get_or rows j 0) p))
        earlier (upright-less z x lt) qs tr cs p kl s =
            let b = level-least k cs (omega arith) p kl in absurd (omega arith)
        earlier (tie-upright w r z x y v st lt) [] tr cs p kl s = tt
        earlier (tie-upright w r z x y v st lt) (q ∷ qs) tr cs p kl s =
            let b = trail-stop tr in
            let ew : b.0 ≡ w = omega (arith, b.1) in
            let s2 : Stop l wl ku rows i nr j w (along wu i j) q =
            subst (λ (v : ℕ). Stop l wl ku rows i nr j v (along wu i j) q) ew b.2 in
            let m = stop-first q r s2 st b.3 in
            R.up q j (omega arith) j-in
