-- A segment by the box that its ends span, and the way it goes.
use Prim.Native.Nat.{ℕ, ◌≤◌}
use native.Mathlib.Omega.{arith}
use mathlib.Core.Path.{◌≡◌, refl, sym, ◌∙◌, subst, subst₂}
use mathlib.Core.Bool.{Bool, true, false, not, and-false, or-false}
use lib.Dec.{eqb}
use borrow.Author.Tests.{eqb-true, not-true, not-false}
use Rattle.foil_spec.specs.Foil.{Point}
use Rattle.foil_spec.specs.Paths.{either, between, level_free, upright_free, after, segment}
use Rattle.list_laws.proofs.Tests.{both, clash, and_l}
use Rattle.path_laws.proofs.Segments.{between-at, between-to, of-level, of-upright, after-level, after-upright}
use Rattle.booking.specs.Clear.{low_of, high_of, Cleared}
use Rattle.booking.specs.Segments.{headed, heads}

-- ---- its points

-- the box that two points span
pub spans : (p q a b : Point) → a ≡ low_of p q → b ≡ high_of p q → (a.x ≤ b.x) × (a.y ≤ b.y)
spans p q a b low high = rw (low, high) (omega arith, omega arith)

module _ (f : ℕ → ℕ → Bool) (p q a b : Point) (low : a ≡ low_of p q) (high : b ≡ high_of p q) (r : Bool)
    (box : Cleared f a b r) where
  c : Cleared f (low_of p q) (high_of p q) r
  c = subst₂ (λ (u v : Point). Cleared f u v r) low high box

  row-clear : p.y ≡ q.y → r ≡ between (λ (x : ℕ). f x p.y) p.x q.x
  row-clear e =
      both r
      (λ t.
      t
      ∙ sym (between-to (λ (x : ℕ). f x p.y) p.x q.x
      (λ k l u.
      c.yes t k p.y (record { left = l; right = u; top = omega arith; bottom = omega arith }))))
      (λ t.
      let (x, y, i, out) = c.no t in
      let here : y ≡ p.y = omega (arith, i.top, i.bottom) in
      t
      ∙ sym (both (between (λ (x : ℕ). f x p.y) p.x q.x)
      (λ all.
      clash (between-at (λ (x : ℕ). f x p.y) p.x q.x x all i.left i.right)
      (subst (λ (v : ℕ). f x v ≡ false) here out))
      (λ z. z)))

  column-clear : p.x ≡ q.x → r ≡ between (λ (y : ℕ). f p.x y) p.y q.y
  column-clear e =
      both r
      (λ t.
      t
      ∙ sym (between-to (λ (y : ℕ). f p.x y) p.y q.y
      (λ k l u.
      c.yes t p.x k (record { left = omega arith; right = omega arith; top = l; bottom = u }))))
      (λ t.
      let (x, y, i, out) = c.no t in
      let here : x ≡ p.x = omega (arith, i.left, i.right) in
      t
      ∙ sym (both (between (λ (y : ℕ). f p.x y) p.y q.y)
      (λ all.
      clash (between-at (λ (y : ℕ). f p.x y) p.y q.y y all i.top i.bottom)
      (subst (λ (u : ℕ). f u y ≡ false) here out))
      (λ z. z)))

  clear-is : (u : Bool) → heads u p q ≡ true → r ≡ segment f (headed u) p q
  unfolding heads headed segment level_free upright_free
  clear-is true h =
      let e : p.x ≡ q.x = eqb-true p.x q.x (and_l (eqb p.x q.x) (not (eqb p.y q.y)) h) in
      column-clear e ∙ rw h refl
  clear-is false h =
      let e : p.y ≡ q.y = eqb-true p.y q.y (and_l (eqb p.y q.y) (not (eqb p.x q.x)) h) in
      row-clear e ∙ rw h refl

  -- a segment that goes as it should is one just if its box is clear
  pub segment-clear : (u d : Bool) → d ≡ heads u p q → not d ≡ false → r ≡ segment f (headed u) p q
  segment-clear u d d-is n = clear-is u (sym d-is ∙ not-false d n)

-- the corner of a box of one point
pub point-clear : (f : ℕ → ℕ → Bool) (p : Point) (r : Bool) → Cleared f p p r → r ≡ f p.x p.y
point-clear f p r c =
    both r
    (λ t.
    t
    ∙ sym (c.yes t p.x p.y
    (record { left = omega arith; right = omega arith; top = omega arith; bottom = omega arith })))
    (λ t.
    let (x, y, i, out) = c.no t in
    let ex : x ≡ p.x = omega (arith, i.left, i.right) in
    let ey : y ≡ p.y = omega (arith, i.top, i.bottom) in
    t ∙ sym (subst (λ (u : ℕ). f u p.y ≡ false) ex (subst (λ (v : ℕ). f x v ≡ false) ey out)))

module _ (f : ℕ → ℕ → Bool) (p q : Point) where
  none_is : (u : Bool) → heads u p q ≡ false → false ≡ segment f (headed u) p q
  unfolding heads headed segment level_free upright_free
  none_is true h = rw h refl
  none_is false h = rw h refl

  -- one that goes another way is none
  pub no-segment : (u d : Bool) → d ≡ heads u p q → not d ≡ true → false ≡ segment f (headed u) p q
  no-segment u d d-is n = none_is u (sym d-is ∙ not-true d n)

  -- after one that goes this way the next goes the other
  pub turns : (u : Bool) → segment f (headed u) p q ≡ true → after p q ≡ headed (not u)
  unfolding headed segment
  turns true s = after-upright f p q (of-upright f p q s)
  turns false s = after-level f p q (of-level f p q s)

  -- the first one goes as its ends do
  pub first-heading : segment f either p q ≡ segment f (headed (eqb p.x q.x)) p q
  unfolding headed segment
  first-heading =
      both (eqb p.x q.x)
      (λ t. rw t (unfold level_free in simp (t, and-false)))
      (λ t. rw t (unfold upright_free in simp (t, or-false)))
