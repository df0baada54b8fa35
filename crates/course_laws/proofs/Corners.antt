-- Paths by coordinates and paths by corners are the same, and so are their orders.
use Prim.Native.Nat.{ℕ, suc}
use native.Mathlib.Omega.{arith}
use mathlib.Core.Path.{◌≡◌, refl, sym, ap, ◌∙◌, subst}
use mathlib.Core.Bool.{Bool, true, false}
use mathlib.Core.Logic.{◌⊎◌, inl, inr, ⊎_elim}
use mathlib.Core.List.{List, [], ◌∷◌}
use lib.ListN.{length}
use Rattle.foil_spec.specs.Foil.{Point, point}
use Rattle.foil_spec.specs.Paths.{Heading, either, level, upright, between, level_free, upright_free, segment}
use Rattle.foil_spec.specs.Paths.{after, leads, corners_before, steps_from}
use Rattle.list_laws.proofs.Tests.{and_l, and_r, and_i, or_cases}
use Rattle.path_laws.proofs.Segments.{between-at, between-to, Level, Upright, of-level, of-upright}
use Rattle.path_laws.proofs.Segments.{to_level, to-upright, after-level, after-upright, before-row, before-rows}
use Rattle.path_laws.proofs.Goings.{before_head, before-tail}
use Rattle.course_laws.specs.Course.{flip, Span, Path, Lex}
use Rattle.course_laws.specs.Best.{PathD, ink_d, LexD, corners, On}

pub corners-length : (up : Bool) (cs : List ℕ) (x y : ℕ) → length (corners up cs x y) ≡ length cs
corners-length false [] x y = refl
corners-length true [] x y = refl
corners-length false (c ∷ cs) x y = ap suc (corners-length true cs c y)
corners-length true (c ∷ cs) x y = ap suc (corners-length false cs x c)

-- the steps over the corners of a path
pub corners-ink : (up : Bool) (cs : List ℕ) (x y : ℕ) → steps_from (point x y) (corners up cs x y) ≡ ink_d up cs x y
unfolding steps_from
corners-ink false [] x y = refl
corners-ink true [] x y = refl
corners-ink false (c ∷ cs) x y = let h = corners-ink true cs c y in omega arith
corners-ink true (c ∷ cs) x y = let h = corners-ink false cs x c in omega arith

abbrev pub heading : Bool → Heading
heading false = level
heading true = upright

module _ (f : ℕ → ℕ → Bool) where
  span_between : (y a b : ℕ) → Span f y a b → between (λ (x : ℕ). f x y) a b ≡ true
  unfolding Span
  span_between y a b s = between-to (λ (x : ℕ). f x y) a b s

  between-span : (y a b : ℕ) → between (λ (x : ℕ). f x y) a b ≡ true → Span f y a b
  unfolding Span
  between-span y a b h x lo hi = between-at (λ (x : ℕ). f x y) a b x h lo hi

module _ (f : ℕ → ℕ → Bool) (T : Point → Bool) where
  -- a path by coordinates, by its corners
  pub path-leads : (up : Bool) (cs : List ℕ) (x y : ℕ) → PathD up cs f (On T) x y
      → leads f T (heading up) (point x y) (corners up cs x y) ≡ true
  unfolding leads segment
  path-leads false [] x y t = t
  path-leads true [] x y t = t
  path-leads false (c ∷ cs) x y p =
      let s : Level f (point x y) (point c y) =
      record { row = refl; apart = λ e. p.0 (sym e); clear = span_between f y x c p.1 } in
      and_i {a = level_free f (point x y) (point c y)} (to_level f (point x y) (point c y) s)
      (rw (after-level f (point x y) (point c y) s) (path-leads true cs c y p.2))
  path-leads true (c ∷ cs) x y p =
      let s : Upright f (point x y) (point x c) =
      record { column = refl; apart = λ e. p.0 (sym e); clear = span_between (flip f) x y c p.1 } in
      and_i {a = upright_free f (point x y) (point x c)} (to-upright f (point x y) (point x c) s)
      (rw (after-upright f (point x y) (point x c) s) (path-leads false cs x c p.2))

  -- the coordinates of a path that is given by its corners
  abbrev Coordinates : Bool → ℕ → ℕ → List Point → Type 0
  Coordinates up x y ps = (cs : List ℕ) × PathD up cs f (On T) x y × (ps ≡ corners up cs x y)

  level-more : (x y : ℕ) (q : Point) (ps : List Point) → Level f (point x y) q → Coordinates true q.x q.y ps
      → Coordinates false x y (q ∷ ps)
  level-more x y q ps s r =
      let e : q.y ≡ y = sym s.row in
      let p : Path r.0 (flip f) (flip (On T)) y q.x =
      subst (λ (k : ℕ). Path r.0 (flip f) (flip (On T)) k q.x) e r.1 in
      let c : ps ≡ corners true r.0 q.x y = r.2 ∙ ap (λ (k : ℕ). corners true r.0 q.x k) e in
      (q.x ∷ r.0, (λ n. s.apart (sym n), between-span f y x q.x s.clear, p), λ i. point q.x (e i) ∷ c i)

  upright-more : (x y : ℕ) (q : Point) (ps : List Point) → Upright f (point x y) q → Coordinates false q.x q.y ps
      → Coordinates true x y (q ∷ ps)
  upright-more x y q ps s r =
      let e : q.x ≡ x = sym s.column in
      let p : Path r.0 f (On T) x q.y = subst (λ (k : ℕ). Path r.0 f (On T) k q.y) e r.1 in
      let c : ps ≡ corners false r.0 x q.y = r.2 ∙ ap (λ (k : ℕ). corners false r.0 k q.y) e in (
        q.y ∷ r.0,
        (λ n. s.apart (sym n), between-span (flip f) x y q.y s.clear, p),
        λ i. point (e i) q.y ∷ c i,
      )

  leads-path : (up : Bool) (x y : ℕ) (ps : List Point) → leads f T (heading up) (point x y) ps ≡ true
      → Coordinates up x y ps
  unfolding leads segment
  leads-path false x y [] h = ([], h, refl)
  leads-path true x y [] h = ([], h, refl)
  leads-path false x y (q ∷ ps) h =
      let s =
      of-level f (point x y) q (and_l (level_free f (point x y) q) (leads f T (after (point x y) q) q ps) h) in
      level-more x y q ps s
      (leads-path true q.x q.y ps
      (rw (after-level f (point x y) q s) at
      (and_r (level_free f (point x y) q) (leads f T (after (point x y) q) q ps) h)))
  leads-path true x y (q ∷ ps) h =
      let s =
      of-upright f (point x y) q (and_l (upright_free f (point x y) q) (leads f T (after (point x y) q) q ps) h) in
      upright-more x y q ps s
      (leads-path false q.x q.y ps
      (rw (after-upright f (point x y) q s) at
      (and_r (upright_free f (point x y) q) (leads f T (after (point x y) q) q ps) h)))

  -- a path by corners goes one way or the other at first
  pub either-path : (S : Point) (ps : List Point) → leads f T either S ps ≡ true
      → (up : Bool) × (cs : List ℕ) × PathD up cs f (On T) S.x S.y × (ps ≡ corners up cs S.x S.y)
  unfolding leads segment
  either-path S [] h = let r = leads-path false S.x S.y [] h in (false, r.0, r.1, r.2)
  either-path S (q ∷ ps) h =
      let on = and_r (segment f either S q) (leads f T (after S q) q ps) h in
      ⊎_elim
      (λ (k : level_free f S q ≡ true).
      let r = leads-path false S.x S.y (q ∷ ps) (and_i {a = level_free f S q} k on) in
      (false, r.0, r.1, r.2))
      (λ (k : upright_free f S q ≡ true).
      let r = leads-path true S.x S.y (q ∷ ps) (and_i {a = upright_free f S q} k on) in
      (true, r.0, r.1, r.2))
      (or_cases (level_free f S q) (upright_free f S q)
      (and_l (segment f either S q) (leads f T (after S q) q ps) h))

-- the first list of corners comes before the second or is the same
abbrev NoLater : List Point → List Point → Type 0
NoLater ps qs = (ps ≡ qs) ⊎ (corners_before ps qs ≡ true)

no-later-tail : (p : Point) (ps qs : List Point) → NoLater ps qs → NoLater (p ∷ ps) (p ∷ qs)
no-later-tail p ps qs (inl e) = inl (ap (λ (l : List Point). p ∷ l) e)
no-later-tail p ps qs (inr b) = inr (before-tail p ps qs b)

-- the order of coordinates is the order of corners, for paths that go the same way at first
lex-before : (up : Bool) (cs ks : List ℕ) (x y : ℕ) → length cs ≡ length ks → Lex cs ks
    → NoLater (corners up cs x y) (corners up ks x y)
lex-before false [] [] x y n l = inl refl
lex-before true [] [] x y n l = inl refl
lex-before up [] (k ∷ ks) x y n l = absurd (omega arith)
lex-before up (c ∷ cs) [] x y n l = absurd (omega arith)
lex-before false (c ∷ cs) (k ∷ ks) x y n (inl l) =
    inr
    (before_head (point c y) (point k y) (corners true cs c y) (corners true ks k y)
    (before-row (point c y) (point k y) refl l))
lex-before true (c ∷ cs) (k ∷ ks) x y n (inl l) =
    inr
    (before_head (point x c) (point x k) (corners false cs x c) (corners false ks x k)
    (before-rows (point x c) (point x k) l))
lex-before false (c ∷ cs) (k ∷ ks) x y n (inr l) =
    subst (λ (m : ℕ). NoLater (corners false (c ∷ cs) x y) (corners false (m ∷ ks) x y)) l.0
    (no-later-tail (point c y) (corners true cs c y) (corners true ks c y)
    (lex-before true cs ks c y (omega arith) l.1))
lex-before true (c ∷ cs) (k ∷ ks) x y n (inr l) =
    subst (λ (m : ℕ). NoLater (corners true (c ∷ cs) x y) (corners true (m ∷ ks) x y)) l.0
    (no-later-tail (point x c) (corners false cs x c) (corners false ks x c)
    (lex-before false cs ks x c (omega arith) l.1))

-- and for any two
pub lexd-before : (up d : Bool) (cs ks : List ℕ) (x y : ℕ) → length cs ≡ length ks → LexD y up cs d ks
    → NoLater (corners up cs x y) (corners d ks x y)
lexd-before false false cs ks x y n l = lex-before false cs ks x y n l
lexd-before true true cs ks x y n l = lex-before true cs ks x y n l
lexd-before false true [] [] x y n l = inl refl
lexd-before true false [] [] x y n l = inl refl
lexd-before false true [] (k ∷ ks) x y n l = absurd (omega arith)
lexd-before true false [] (k ∷ ks) x y n l = absurd (omega arith)
lexd-before false true (c ∷ cs) [] x y n l = absurd (omega arith)
lexd-before true false (c ∷ cs) [] x y n l = absurd (omega arith)
lexd-before false true (c ∷ cs) (k ∷ ks) x y n l =
    inr
    (before_head (point c y) (point x k) (corners true cs c y) (corners false ks x k)
    (before-rows (point c y) (point x k) l))
lexd-before true false (c ∷ cs) (k ∷ ks) x y n l =
    inr
    (before_head (point x c) (point k y) (corners false cs x c) (corners true ks k y)
    (before-rows (point x c) (point k y) l))
