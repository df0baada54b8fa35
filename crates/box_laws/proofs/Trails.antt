-- Trails from strip to strip that meet no strip twice. Every course gives one: its level segments stay in their strip,
-- its upright ones cross to another, and what lies between two visits of a strip is left out. A trail over n strips
-- takes a level segment in each of them and an upright one between each two; over one strip, two segments.
use Prim.Native.Nat.{ℕ, zero, suc, ◌≤◌, ◌<◌}
use native.Mathlib.Omega.{arith}
use mathlib.Core.Path.{◌≡◌, refl, subst}
use mathlib.Core.Bool.{Bool, true, false}
use mathlib.Core.List.{List, [], ◌∷◌}
use mathlib.Core.Logic.{⊎_elim}
use lib.ListN.{length}
use Rattle.foil_spec.specs.Lists.{any}
use Rattle.foil_spec.specs.Foil.{Point, point}
use Rattle.foil_spec.specs.Strips.{Strip, strips, holds}
use Rattle.list_laws.proofs.Tests.{both, clash, or_cases, or-il, or-ir}
use Rattle.list_laws.proofs.Members.{In}
use Rattle.list_laws.proofs.Counting.{count, count-lt, count-length}
use Rattle.strip_laws.proofs.Laws.{in-a-strip, in-one-only}
use Rattle.strip_laws.proofs.Rectangle.{free-between, same-strip}
use Rattle.course_laws.specs.Course.{flip, Span, Course}
use Rattle.course_laws.proofs.Course.{span-sym, span-trans, span-end, course-merge}
use Rattle.box_laws.specs.Bound.{OnFoil}

-- ---- spans in a strip

module _ (f : ℕ → ℕ → Bool) (W H : ℕ) (s : Strip) (listed : In s (strips f W H)) where
  -- from p along its row to the column of q
  along-row : (p q : Point) → holds p s ≡ true → holds q s ≡ true → Span f p.y p.x q.x
  unfolding Span
  along-row p q hp hq x lo hi = free-between f W H s listed p q hp hq x p.y lo hi (omega arith) (omega arith)

  -- and on along that column to q
  along-column : (p q : Point) → holds p s ≡ true → holds q s ≡ true → Span (flip f) q.x p.y q.y
  unfolding Span
  along-column p q hp hq y lo hi = free-between f W H s listed p q hp hq q.x y (omega arith) (omega arith) lo hi

  -- a level span that begins in the strip ends in it
  stays : OnFoil f W H → (x y c : ℕ) → holds (point x y) s ≡ true → Span f y x c → holds (point c y) s ≡ true
  unfolding Span
  stays inside x y c h span = same-strip f W H s listed x y c h (inside c y (span-end f y x c span)).0 span

-- ---- trails

-- the strip holds one of the points
abbrev pub meets : List Point → Strip → Bool
meets ps s = any (λ (p : Point). holds p s) ps

-- the segments that are enough for a trail of n points after its first
abbrev pub segments_for : ℕ → ℕ
segments_for zero = 2
segments_for (suc zero) = 3
segments_for (suc (suc n)) = suc (suc (segments_for (suc n)))

-- from (x, y) to a target by n segments, the first level or, if up, upright
abbrev pub CourseD : (ℕ → ℕ → Bool) → (ℕ → ℕ → Type 0) → Bool → ℕ → ℕ → ℕ → Type 0
CourseD f T false n x y = Course n f T x y
CourseD f T true n x y = Course n (flip f) (flip T) y x

module _ (f : ℕ → ℕ → Bool) (W H : ℕ) (T : ℕ → ℕ → Type 0) where
  -- s is a strip that holds p
  abbrev Home : Point → Strip → Type 0
  Home p s = In s (strips f W H) × (holds p s ≡ true)

  -- an upright span from a point of the strip to q
  abbrev Crossing : Strip → Point → Type 0
  Crossing s q = (y : ℕ) × (holds (point q.x y) s ≡ true) × Span (flip f) q.x y q.y

  -- the strip holds a target
  abbrev Met : Strip → Type 0
  Met s = (e : Point) × (holds e s ≡ true) × T e.x e.y

  -- each point is crossed to from the strip of the one before, which holds none that follow; the last one's holds a
  -- target
  abbrev pub Trail : Point → List Point → Type 0
  Trail p [] = (s : Strip) × Home p s × Met s
  Trail p (q ∷ qs) = (s : Strip) × Home p s × Crossing s q × (meets (q ∷ qs) s ≡ false) × Trail q qs

  -- ---- the number of its strips

  -- it meets more strips with each point
  met : (p : Point) (qs : List Point) → Trail p qs → length qs < count (meets (p ∷ qs)) (strips f W H)
  met p [] (s, (i, h), k) =
      omega (
        arith,
        count-lt (meets []) (meets (p ∷ [])) s (strips f W H) (λ u e. or-ir (holds p u) e) i refl (or-il false h),
      )
  met p (q ∷ qs) (s, (i, h), c, apart, t) =
      omega (
        arith,
        met q qs t,
        count-lt (meets (q ∷ qs)) (meets (p ∷ q ∷ qs)) s (strips f W H) (λ u e. or-ir (holds p u) e)
            i apart (or-il (meets (q ∷ qs) s) h),
      )

  -- so there are strips for all its points
  pub strips-met : (p : Point) (qs : List Point) → Trail p qs → suc (length qs) ≤ length (strips f W H)
  strips-met p qs t = omega (arith, met p qs t, count-length (meets (p ∷ qs)) (strips f W H))

  -- ---- the segments that it takes

  -- within the last strip, the first segment upright
  upright-end : (p : Point) → Trail p [] → Course 2 (flip f) (flip T) p.y p.x
  upright-end p (s, (i, h), (e, k, t)) = (
    e.y,
    span-sym (flip f) p.x e.y p.y (along-column f W H s i e p k h),
    (e.x, span-sym f e.y e.x p.x (along-row f W H s i e p k h), t),
  )

  -- from p along its row to the column of q, and along that to q
  over-column : (p q : Point) (s : Strip) → Home p s → Crossing s q
      → Span f p.y p.x q.x × Span (flip f) q.x p.y q.y
  over-column p q s (i, h) (y, k, up) = (
    along-row f W H s i p (point q.x y) h k,
    span-trans (flip f) q.x p.y y q.y (along-column f W H s i p (point q.x y) h k) up,
  )

  -- the segments of a trail
  pub trail-course : (p : Point) (qs : List Point)
      → Trail p qs → Course (segments_for (length qs)) f T p.x p.y
  trail-course p [] (s, (i, h), (e, k, t)) =
      (e.x, along-row f W H s i p e h k, (e.y, along-column f W H s i p e h k, t))
  trail-course p (q ∷ []) (s, a, c, apart, t) =
      let (along, up) = over-column p q s a c in
      (q.x, along, course-merge 1 (flip f) (flip T) p.y q.x q.y up (upright-end q t))
  trail-course p (q ∷ r ∷ rs) (s, a, c, apart, t) =
      let (along, up) = over-column p q s a c in
      (q.x, along, (q.y, up, trail-course q (r ∷ rs) t))

  -- ---- a trail of every course

  -- another point of the same strip
  home-too : (p q : Point) (s t : Strip) → Home p s → holds q s ≡ true → Home q t → Home p t
  home-too p q s t a k b =
      (b.0, subst (λ (u : Strip). holds p u ≡ true) (in-one-only f W H q s t a.0 b.0 k b.1) a.1)

  -- p instead of another point q of its strip
  restart : (p q : Point) (qs : List Point) (s : Strip) → Home p s → holds q s ≡ true → Trail q qs → Trail p qs
  restart p q [] s a k (t, b, end) = (t, home-too p q s t a k b, end)
  restart p q (r ∷ rs) s a k (t, b, c, apart, on) = (t, home-too p q s t a k b, c, apart, on)

  -- a trail that comes to the strip of p: p instead of the first point there
  rejoin : (p q : Point) (qs : List Point) (s : Strip) → Home p s → Trail q qs → meets (q ∷ qs) s ≡ true
      → (rs : List Point) × Trail p rs
  rejoin p q [] s a t m =
      ⊎_elim
      (λ (k : holds q s ≡ true). ([], restart p q [] s a k t))
      (λ (k : false ≡ true). clash k refl)
      (or_cases (holds q s) false m)
  rejoin p q (r ∷ rs) s a t m =
      ⊎_elim
      (λ (k : holds q s ≡ true). (r ∷ rs, restart p q (r ∷ rs) s a k t))
      (λ (k : meets (r ∷ rs) s ≡ true). rejoin p r rs s a t.4 k)
      (or_cases (holds q s) (meets (r ∷ rs) s) m)

  -- one crossing more in front
  extend : (p q : Point) (qs : List Point) (s : Strip) → Home p s → Crossing s q → Trail q qs
      → (rs : List Point) × Trail p rs
  extend p q qs s a c t =
      both (meets (q ∷ qs) s) (λ m. rejoin p q qs s a t m) (λ m. (q ∷ qs, (s, a, c, m, t)))

  module _ (inside : OnFoil f W H) where
    -- the strip of a free point
    home : (x y : ℕ) → f x y ≡ true → (s : Strip) × Home (point x y) s
    home x y h =
        let i = inside x y h in
        let a = in-a-strip f W H (point x y) i.0 i.1 h in
        (a.0, (a.1, a.2))

    -- the trail at a target itself
    at-end : (x y : ℕ) → f x y ≡ true → T x y → Trail (point x y) []
    at-end x y h t = let a = home x y h in (a.0, a.1, (point x y, a.1.1, t))

    -- the trail of a course
    pub course-trail : (up : Bool) (n x y : ℕ) → f x y ≡ true → CourseD f T up n x y
        → (qs : List Point) × Trail (point x y) qs
    course-trail false zero x y h t = ([], at-end x y h t)
    course-trail true zero x y h t = ([], at-end x y h t)
    course-trail false (suc n) x y h (c, span, r) =
        let t = course-trail true n c y (span-end f y x c span) r in
        let a = home x y h in
        let k = stays f W H a.0 a.1.0 inside x y c a.1.1 span in
        (t.0, restart (point x y) (point c y) t.0 a.0 a.1 k t.1)
    course-trail true (suc n) x y h (c, span, r) =
        let t = course-trail false n x c (span-end (flip f) x y c span) r in
        let a = home x y h in
        extend (point x y) (point x c) t.0 a.0 a.1 (y, a.1.1, span) t.1
