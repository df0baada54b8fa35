-- The ends of a path, return by return.
use Prim.Native.Nat.{ℕ, ◌≤◌, ◌<◌}
use mathlib.Core.Path.{◌≡◌, refl, sym, ◌∙◌}
use mathlib.Core.Bool.{Bool, true, false, not, ◌||◌, or-true}
use mathlib.Core.List.{List, []}
use lib.Dec.{leb}
use borrow.Author.Tests.{lt-leb, le-leb, leb-false}
use Rattle.foil_spec.specs.Foil.{Point, Layout}
use Rattle.foil_spec.specs.Ledger.{off_foil, blocked, first}
use Rattle.foil_spec.specs.Lent.{lent, layout_of, held, sound, listed_strips}
use Rattle.foil_spec.specs.declared.Board.{Board}
use Rattle.list_laws.proofs.Tests.{clash, or_l, or_r, not-ff}
use Rattle.std.specs.Prelude.{Option, Some, None, Ok, Err}
use Rattle.std.specs.Option.{is_some}
use Rattle.strips.specs.Places.{place_in}
use Rattle.foil.proofs.Looking.{nowhere-blocked, somewhere-free}
use Rattle.finding.specs.Points.{OffFoil, PointsChecked}

-- ---- whether a point is off the foil

module _ (b : Board) (p : Point) where
  pub off-right : b.width ≤ p.x → OffFoil b p true
  unfolding off_foil held layout_of
  off-right l = record { is = λ t s. simp (le-leb b.width p.x l) }

  pub off-below : p.x < b.width → OffFoil b p (leb b.height p.y)
  unfolding off_foil held layout_of
  off-below l = record { is = λ t s. simp (lt-leb b.width p.x l) }

  -- a point that is not off the foil
  pub on-foil : (r : Bool) → OffFoil b p r → r ≡ false → (p.x < b.width) × (p.y < b.height)
  unfolding off_foil held layout_of
  on-foil r o e =
      let h : (leb b.width p.x || leb b.height p.y) ≡ false = sym (o.is [] []) ∙ e in (
        leb-false b.width p.x (or_l (leb b.width p.x) (leb b.height p.y) h),
        leb-false b.height p.y (or_r (leb b.width p.x) (leb b.height p.y) h),
      )

-- ---- whether no strip holds a point

module _ (b : Board) (t s : List ℕ) (p : Point) (g : sound (lent b t s) ≡ true) (wide : p.x < b.width)
    (high : p.y < b.height) where
  -- o is the place of its strip, and r says that there is none
  pub is-blocked : (o : Option ℕ) → o ≡ place_in p (listed_strips s b.strips) → (r : Bool) → is_some o ≡ not r
      → r ≡ blocked (held (lent b t s)) p
  is-blocked None e true n = nowhere-blocked b t s p g wide high (sym e)
  is-blocked None e false n = clash n refl
  is-blocked (Some k) e true n = clash refl n
  is-blocked (Some k) e false n = somewhere-free b t s p g wide high k (sym e)

-- ---- the refusals for two points

module _ (b : Board) (t s : List ℕ) (S T : Point) (f : Bool) (f-is : OffFoil b S f) where
  abbrev l : Layout
  l = held (lent b t s)

  pub s-off : f ≡ true → PointsChecked l S T (Err 7)
  unfolding first
  s-off e rs = rw (sym (f-is.is t s) ∙ e) refl

  module _ (s-in : f ≡ false) (g : Bool) (g-is : OffFoil b T g) where
    pub t-off : g ≡ true → PointsChecked l S T (Err 7)
    unfolding first
    t-off e rs = simp (sym (g-is.is t s) ∙ e, or-true) refl

    module _ (t-in : g ≡ false) (v : Bool) (v-is : v ≡ blocked l S) where
      pub s-blocked : v ≡ true → PointsChecked l S T (Err 8)
      unfolding first
      s-blocked e rs = rw (sym (f-is.is t s) ∙ s-in, sym (g-is.is t s) ∙ t-in, sym v-is ∙ e) refl

      module _ (s-free : v ≡ false) (w : Bool) (w-is : w ≡ blocked l T) where
        pub t-blocked : w ≡ true → PointsChecked l S T (Err 8)
        unfolding first
        t-blocked e rs = simp (sym (f-is.is t s) ∙ s-in, sym (g-is.is t s) ∙ t-in, sym w-is ∙ e, or-true) refl

        pub both-free : w ≡ false → (u : Unit {0}) → PointsChecked l S T (Ok u)
        unfolding blocked
        both-free e u = (not-ff _ (sym v-is ∙ s-free), not-ff _ (sym w-is ∙ e))
