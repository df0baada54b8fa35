-- The labels say how many corners the first path of fewest bends has, and a walk takes them; or there is no path.
use Prim.Native.Nat.{ℕ, ◌+◌, ◌-◌, ◌≤◌, ◌<◌}
use native.Mathlib.Omega.{arith}
use mathlib.Core.Path.{◌≡◌, refl, sym, ap, ◌∙◌, subst}
use mathlib.Core.Bool.{Bool, true, false}
use mathlib.Core.List.{List, [], ◌∷◌}
use mathlib.Core.Option.{Option, none, some}
use Rattle.std.specs.Prelude.{Some, None, unwrap_or}
use Rattle.std.specs.Bool.{then_some}
use Rattle.std.specs.Prelude as std
use Rattle.std.proofs.lemmas.Option.{none-some}
use lib.ListN.{get_or, length}
use Rattle.foil_spec.specs.Foil.{Point, point}
use Rattle.foil_spec.specs.Paths.{first_path_to}
use Rattle.zones.proofs.Free.{not_covered}
use Rattle.course_laws.specs.Course.{Course, flip, TargetFree}
use Rattle.course_laws.specs.Best.{PathD, Best, corners, On}
use Rattle.course_laws.proofs.Greedy.{path-course}
use Rattle.course_laws.proofs.Best.{Fewest}
use Rattle.course_laws.proofs.FirstPath.{best-first, none_first, fewest-first}
use Rattle.grid.specs.Lines.{Lines}
use Rattle.runs.specs.Line.{along, label_top}
use Rattle.runs.specs.Ink.{Lean}
use Rattle.labels.specs.Pass.{Pass, Below}
use Rattle.labels.specs.Rounds.{Sized, Rounds, Last, Ended, found, stuck}
use Rattle.labels.specs.Walk.{Grounded, Trails, label_at}
use Rattle.runs.proofs.Inks.{lean-low}
use Rattle.labels.proofs.Going.{rounds-lean}
use Rattle.labels.proofs.Faithful.{Faithful}
use Rattle.labels.proofs.Meaning.{Says, Both, Measured, rounds-pos, rounds-labels, rounds-inks, rounds-below}
use Rattle.labels.proofs.Meaning.{rounds-grounded, rounds-stuck, last-labels, last-level, last-upright, last-inks}
use Rattle.labels.proofs.Meaning.{last-below, last-lean, last-grounded}
use Rattle.labels.proofs.First.{coords}
use Rattle.search.specs.Grid.{free_of, target_of, start_of, path_to, Aimed, Grid}
use Rattle.sowing.specs.Seeds.{Sown}
use Rattle.search.specs.Choice.{Choosing, ChoiceAsked, Choice}
use Rattle.search.specs.Search.{Labelling, Labelled, blank, arrived, Starts, goes, turns, path_corners, Begins}
use Rattle.search.specs.Search.{Searched}
use Rattle.search.specs.declared.Aim.{Aim}
use Rattle.search.specs.declared.Arrived.{Arrived}
use Rattle.search.specs.declared.Start.{Start}
use Rattle.search.proofs.Grid.{target_free, level-faithful, upright-faithful, level-targets, upright-targets}
use Rattle.search.proofs.Grid.{seeds, crossing}
use Rattle.sowing.proofs.Seeds.{sown-inks, sown-below, sown-lean}
use Rattle.search.proofs.Choice.{choice-some, fewest-level, fewest-upright, walk-level, walk-upright}

-- the coordinates of a walk's crossings
abbrev coordinates : Bool → List ℕ → List ℕ → List ℕ → List ℕ
coordinates false cols rows qs = coords cols rows qs
coordinates true cols rows qs = coords rows cols qs

turns-are : (up : Bool) (cols rows : List ℕ) (i j : ℕ) (qs : List ℕ)
    → turns up cols rows i j qs ≡ corners up (coordinates up cols rows qs) (get_or cols i 0) (get_or rows j 0)
unfolding turns
turns-are false cols rows i j [] = refl
turns-are true cols rows i j [] = refl
turns-are false cols rows i j (q ∷ qs) =
    ap (λ (ps : List Point). point (get_or cols q 0) (get_or rows j 0) ∷ ps) (turns-are true cols rows q j qs)
turns-are true cols rows i j (q ∷ qs) =
    ap (λ (ps : List Point). point (get_or cols i 0) (get_or rows q 0) ∷ ps) (turns-are false cols rows i q qs)

module _ {z t : List ℕ} {a : Aim} (P : Aimed z t a) {cols rows kl ku : List ℕ} {nc nr : ℕ}
    (G : Grid z t a cols rows kl ku nc nr) {i j : ℕ} {b : Bool} {l u wl wu : List ℕ}
    (B : Labelling z t a cols rows kl ku nc nr i j b l u wl wu) where
  abbrev f : ℕ → ℕ → Bool
  f = free_of z a

  inside : (x y : ℕ) → f x y ≡ true → (x < a.w) × (y < a.h)
  inside x y e = let r = not_covered a.w a.h a.n z x y e in (r.0, r.1)

  -- the targets
  abbrev T : Point → Bool
  T = target_of z t a

  free-targets : TargetFree f (On T)
  free-targets = target_free z t a

  -- the start's crossing is the start
  abbrev start : Point
  start = point (get_or cols i 0) (get_or rows j 0)

  start_is : start ≡ start_of a
  start_is k = point (B.i-at k) (B.j-at k)

  start-free : f start.x start.y ≡ true
  start-free = rw (B.i-at, B.j-at) P.s-free

  -- the first path from the start to a target
  abbrev path : Option (List Point)
  path = path_to z t a

  path-is : (o : Option (List Point)) → first_path_to f a.w a.h start T ≡ o → path ≡ o
  path-is o e = subst (λ (p : Point). first_path_to f a.w a.h p T ≡ o) start_is e

  corners-are : (cs : List Point) → first_path_to f a.w a.h start T ≡ some cs → path_corners path ≡ cs
  corners-are cs e = ap path_corners (path-is (some cs) e)

  -- the lines of both axes, and the grid's faithfulness in both directions
  C : Lines cols nc
  C = G.column-axis.fits

  R : Lines rows nr
  R = G.row-axis.fits

  L : Faithful f (On T) cols nc rows nr kl
  L = level-faithful G

  U : Faithful (flip f) (flip (On T)) rows nr cols nc ku
  U = upright-faithful G

  -- the labels before the first round
  level-sown : Sown (λ j i. T (point (get_or cols i 0) (get_or rows j 0))) nr nc B.l₀ B.wl₀
  level-sown = level-targets G B.level-sown

  upright-sown : Sown (λ i j. T (point (get_or cols i 0) (get_or rows j 0))) nc nr B.u₀ B.wu₀
  upright-sown = upright-targets G B.upright-sown

  right : Both f (On T) cols nc rows nr 0 B.l₀ B.u₀
  right = seeds G B.level-sown B.upright-sown

  seed-inks : Measured f (On T) cols nc rows nr B.l₀ B.wl₀
      × Measured (flip f) (flip (On T)) rows nr cols nc B.u₀ B.wu₀
  seed-inks = (
    sown-inks (λ j lj i li e. e) (λ j lj i li e. e) level-sown,
    sown-inks (λ i li j lj e. e) (λ i li j lj e. e) upright-sown,
  )

  level-low : Below nr nc B.l₀ 1
  level-low = sown-below level-sown

  upright-low : Below nc nr B.u₀ 1
  upright-low = sown-below upright-sown

  -- a round that changes nothing: there is no path
  no-path : {v : ℕ} {wl₁ wu₁ : List ℕ} → Rounds kl ku cols rows nc nr B.l₀ B.u₀ B.wl₀ B.wu₀ v l u wl₁ wu₁
      → along l j i ≡ 0 → along u i j ≡ 0
      → Pass u kl nr nc v l l → Pass l ku nc nr v u u
      → (e : Bool) (ks : List ℕ) → PathD e ks f (On T) start.x start.y → ⊥
  no-path r zl zu p q e ks on =
      go e on (rounds-stuck free-targets L U right level-low upright-low r p q (length ks))
    where
      go : (e : Bool) → PathD e ks f (On T) start.x start.y
          → ((b : ℕ) → b < nr → (a : ℕ) → a < nc → along l b a ≡ 0
          → Course (length ks) f (On T) (get_or cols a 0) (get_or rows b 0) → ⊥)
          × ((a : ℕ) → a < nc → (b : ℕ) → b < nr → along u a b ≡ 0
          → Course (length ks) (flip f) (flip (On T)) (get_or rows b 0) (get_or cols a 0) → ⊥) → ⊥
      go false on out =
          out.0 j B.j-in i B.i-in zl (path-course ks f (On T) start.x start.y on)
      go true on out =
          out.1 i B.i-in j B.j-in zu (path-course ks (flip f) (flip (On T)) start.y start.x on)

  -- the start has a label, after rounds up to v and a last one
  module _ {v : ℕ} {l₁ u₁ wl₁ wu₁ : List ℕ}
      (r : Rounds kl ku cols rows nc nr B.l₀ B.u₀ B.wl₀ B.wu₀ v l₁ u₁ wl₁ wu₁)
      (E : Last kl ku cols rows nc nr i j v l₁ u₁ wl₁ wu₁ l u wl wu) where
    before : Both f (On T) cols nc rows nr (v - 1) l₁ u₁
    before = rounds-labels free-targets L U right r

    labelled : Both f (On T) cols nc rows nr (v - 1) l u
    labelled = last-labels (rounds-pos r) E free-targets L U before

    level-says : Says f (On T) (v - 1 + 1) start.x start.y (along l j i)
    level-says = last-level (rounds-pos r) E free-targets L U before B.i-in B.j-in

    upright-says : Says (flip f) (flip (On T)) (v - 1 + 1) start.y start.x (along u i j)
    upright-says = last-upright (rounds-pos r) E free-targets L U before B.i-in B.j-in

    measured : Measured f (On T) cols nc rows nr l wl × Measured (flip f) (flip (On T)) rows nr cols nc u wu
    measured = last-inks (rounds-pos r) E free-targets L U before (rounds-inks free-targets L U right seed-inks r)

    grounded : Grounded l u wl wu kl cols nr nc × Grounded u l wu wl ku rows nc nr
    grounded = last-grounded (rounds-pos r) E (rounds-grounded level-low upright-low r)

    lean : Lean nr nc l wl × Lean nc nr u wu
    lean =
        let k = rounds-lean C R (sown-lean level-sown) (sown-lean upright-sown) r in
        last-lean (rounds-pos r) E C R (k.1, k.2)

    below : Below nr nc l (v + 1) × Below nc nr u (v + 1)
    below = last-below (rounds-pos r) E (rounds-below level-low upright-low r)

    most : (along l j i ≤ v - 1 + 1 + 1) × (along u i j ≤ v - 1 + 1 + 1)
    most =
        let p = rounds-pos r in
        let a = below.0.le j B.j-in i B.i-in in
        let c = below.1.le i B.i-in j B.j-in in
        (omega arith, omega arith)

    fewest : (k : ℕ) (up : Bool) → Choice l u wl wu ku rows nr i j up → label_at up l u i j ≡ k + 1
        → Fewest f (On T) start.x start.y k
    unfolding label_at
    fewest k false c e =
        fewest-level free-targets L U R.rising labelled.0 labelled.1 measured.0 measured.1
        grounded.1 B.i-in B.j-in level-says upright-says most.0 most.1 k c e
    fewest k true c e =
        fewest-upright free-targets L U R.rising labelled.0 labelled.1 measured.0 measured.1
        grounded.1 B.i-in B.j-in level-says upright-says most.0 most.1 k c e

    best : (k : ℕ) (qs : List ℕ) (up : Bool) → Choice l u wl wu ku rows nr i j up → label_at up l u i j ≡ k + 1
        → Trails up l u wl wu kl ku cols rows nc nr i j (k + 1) qs
        → Best up (coordinates up cols rows qs) f (On T) start.x start.y
    unfolding label_at Trails
    best k qs false c e tr =
        walk-level free-targets L U R.rising labelled.0 labelled.1 measured.0 measured.1
        grounded.1 B.i-in B.j-in level-says upright-says most.0 most.1 k qs c e tr
    best k qs true c e tr =
        walk-upright free-targets L U R.rising labelled.0 labelled.1 measured.0 measured.1
        grounded.1 B.i-in B.j-in level-says upright-says most.0 most.1 k qs c e tr

    takes : (k : ℕ) (qs : List ℕ) (up : Bool) → Choice l u wl wu ku rows nr i j up → label_at up l u i j ≡ k + 1
        → Trails up l u wl wu kl ku cols rows nc nr i j (k + 1) qs
        → start ∷ turns up cols rows i j qs ≡ path_corners path
    takes k qs up c e tr =
        ap (λ (ps : List Point). start ∷ ps) (turns-are up cols rows i j qs)
        ∙ sym
        (corners-are (start ∷ corners up (coordinates up cols rows qs) start.x start.y)
        (best-first f a.w a.h inside start T start-free up (coordinates up cols rows qs) (best k qs up c e tr)))

below_top : {m n v : ℕ} {lab : List ℕ} → v < label_top → Below m n lab (v + 1) → Below m n lab label_top
below_top l B = record { le = λ i li k lk. let b = B.le i li k lk in omega arith }

-- what `label` answers, by whether the crossing (i, j) has a label
pub labelled-if : {z t : List ℕ} {a : Aim} {cols rows kl ku : List ℕ} {nc nr : ℕ} {l u wl wu : List ℕ} {i j : ℕ}
    (found : Bool) → Labelling z t a cols rows kl ku nc nr i j found l u wl wu
    → Labelled z t a cols rows kl ku nc nr l u wl wu (then_some found (record { i = i; j = j }))
labelled-if false B = blank _ _ B
labelled-if true B = arrived _ _ B

-- What the choice is asked of, and what `labels` answers.
module _ {z t : List ℕ} {a : Aim} (P : Aimed z t a) {cols rows kl ku : List ℕ} {nc nr : ℕ}
    (G : Grid z t a cols rows kl ku nc nr) {i j : ℕ} {l u wl wu : List ℕ} where
  chooses : Labelling z t a cols rows kl ku nc nr i j true l u wl wu → Choosing l u wl nr i j
  chooses B = go B.ended
    where
      go : Ended kl ku cols rows nc nr i j B.l₀ B.u₀ B.wl₀ B.wu₀ l u wl wu true → Choosing l u wl nr i j
      go (found m r E) =
          let low = (below P G B r E).0.le j B.j-in i B.i-in in
          record {
            some = E.some;
            top = omega arith;
            low = λ v one. lean-low i v (lean P G B r E).0 B.i-in one;
          }

  searched-none : Labelling z t a cols rows kl ku nc nr i j false l u wl wu
      → Searched (path_to z t a) cols rows kl ku l u wl wu None
  searched-none B = go B.ended
    where
      go : Ended kl ku cols rows nc nr i j B.l₀ B.u₀ B.wl₀ B.wu₀ l u wl wu false
          → Searched (path_to z t a) cols rows kl ku l u wl wu None
      go (stuck r zl zu p q) =
          let e = path-is P G B none
          (none_first (f P G B) a.w a.h (inside P G B) (start P G B) (T P G B) (no-path P G B r zl zu p q)) in
          record { nowhere = λ n. e; begins = λ r n. absurd (none-some r n) }

module _ {z t : List ℕ} {a : Aim} (P : Aimed z t a) {cols rows kl ku : List ℕ} {nc nr : ℕ}
    (G : Grid z t a cols rows kl ku nc nr) {i j : ℕ} {l u wl wu : List ℕ}
    (Z : Sized l u wl wu kl ku cols rows nc nr) where
  searched-some : Labelling z t a cols rows kl ku nc nr i j true l u wl wu → (up : Bool)
      → Choice l u wl wu ku rows nr i j up
      → Begins (path_to z t a) cols rows kl ku l u wl wu
      (record { columns = nc; rows = nr; i = i; j = j; upright = up; corners = label_at up l u i j })
  searched-some B up c = go B.ended
    where
      go : Ended kl ku cols rows nc nr i j B.l₀ B.u₀ B.wl₀ B.wu₀ l u wl wu true
          → Begins (path_to z t a) cols rows kl ku l u wl wu
          (record { columns = nc; rows = nr; i = i; j = j; upright = up; corners = label_at up l u i j })
      go (found m r E) =
          let one = choice-some up c in
          let e : label_at up l u i j ≡ (label_at up l u i j - 1) + 1 = omega arith in
          let F = fewest P G B r E (label_at up l u i j - 1) up c e in
          let q = fewest-first (f P G B) a.w a.h (inside P G B) (start P G B) (T P G B) (start-free P G B)
          (label_at up l u i j - 1) F in
          record {
            count = let k = ap length (corners-are P G B q.0 q.1) in omega (arith, q.2);
            ready = record {
              walkable = record {
                sized = Z;
                level = (grounded P G B r E).0;
                upright = (grounded P G B r E).1;
                level-low = below_top m (below P G B r E).0;
                upright-low = below_top m (below P G B r E).1;
                level-lean = (lean P G B r E).0;
                upright-lean = (lean P G B r E).1;
              };
              i-in = B.i-in;
              j-in = B.j-in;
              some = one;
              label = refl;
              takes = λ qs tr.
                  takes P G B r E (label_at up l u i j - 1) qs up c e
                  (subst (λ (v : ℕ). Trails up l u wl wu kl ku cols rows nc nr i j v qs) e tr);
            };
          }

  searched-from : {s : Start} → Labelling z t a cols rows kl ku nc nr i j true l u wl wu
      → Starts l u wl wu ku rows nc nr i j s
      → Searched (path_to z t a) cols rows kl ku l u wl wu (Some s)
  searched-from {s} B (goes up c) = record {
    nowhere = λ n. absurd (none-some s (sym n));
    begins = λ r n.
        subst (λ (q : Start). Begins (path_to z t a) cols rows kl ku l u wl wu q)
        (ap (λ (q : std.Option Start). unwrap_or q s) n) (searched-some B up c);
  }

  -- whether the target was found or not
  pub searched : {found : Bool} {s : Start} → Labelling z t a cols rows kl ku nc nr i j found l u wl wu
      → (found ≡ true → Starts l u wl wu ku rows nc nr i j s)
      → Searched (path_to z t a) cols rows kl ku l u wl wu (then_some found s)
  searched {found = false} B S = searched-none P G B
  searched {found = true} B S = searched-from B (S refl)

module _ {z t : List ℕ} {a : Aim} (P : Aimed z t a) {cols rows kl ku : List ℕ} {nc nr : ℕ}
    (G : Grid z t a cols rows kl ku nc nr) {l u wl wu : List ℕ} where
  pub no_search : Labelled z t a cols rows kl ku nc nr l u wl wu None
      → Searched (path_to z t a) cols rows kl ku l u wl wu None
  no_search (blank i j B) = searched-none P G B

  module _ (Z : Sized l u wl wu kl ku cols rows nc nr) {at : Arrived}
      (L : Labelled z t a cols rows kl ku nc nr l u wl wu (Some at)) where
    pub choice-asked : ChoiceAsked l u wl wu ku rows nr at.i at.j
    choice-asked = go L
      where
        go : {r : Arrived} → Labelled z t a cols rows kl ku nc nr l u wl wu (Some r)
            → ChoiceAsked l u wl wu ku rows nr r.i r.j
        go (arrived i j B) = record { room = crossing Z B.i-in B.j-in; choosing = chooses P G B }

    pub searched-at : {s : Start} → Starts l u wl wu ku rows nc nr at.i at.j s
        → Searched (path_to z t a) cols rows kl ku l u wl wu (Some s)
    searched-at S = go L S
      where
        go : {r : Arrived} {s : Start} → Labelled z t a cols rows kl ku nc nr l u wl wu (Some r)
            → Starts l u wl wu ku rows nc nr r.i r.j s → Searched (path_to z t a) cols rows kl ku l u wl wu (Some s)
        go (arrived i j B) S = searched P G Z B (λ found. S)
