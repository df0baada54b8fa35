-- Whether corners are a way, one segment a turn.
use Prim.Native.Nat.{ℕ, suc, ◌+◌, ◌-◌, ◌/◌, ◌%◌, ◌≤◌, ◌<◌}
use native.Mathlib.Omega.{arith}
use mathlib.Core.Path.{◌≡◌, refl, sym, ap, ap₂, ◌∙◌}
use mathlib.Core.Bool.{Bool, true, false, not, ◌&&◌}
use mathlib.Core.List.{List, [], ◌∷◌, map}
use lib.Dec.{eqb}
use lib.ListN.{length}
use borrow.Author.Tests.{not-true, not-false}
use Rattle.foil_spec.specs.Lists.{range}
use Rattle.foil_spec.specs.Foil.{Point}
use Rattle.foil_spec.specs.Paths.{anywhere, either, after, segment, leads, is_way}
use Rattle.foil_spec.specs.Corners.{corner_at, corners_in, drawn}
use Rattle.path_laws.proofs.Ways.{way-is}
use Rattle.ledger_laws.proofs.CornerLists.{drawn-whole, drawn-half}
use Rattle.booking.specs.Clear.{Cleared}
use Rattle.booking.specs.Segments.{headed, corners_from}
use Rattle.booking.proofs.Segments.{point-clear, turns, first-heading}

module _ (list : List ℕ) (k : ℕ) where
  from_more : (i : ℕ) → i < k → corners_from list k i ≡ corner_at list i ∷ corners_from list k (i + 1)
  unfolding corners_from
  from_more i l =
      let e : k - i ≡ suc (k - (i + 1)) = omega arith in
      let s : suc i ≡ i + 1 = omega arith in
      rw e (ap (λ (j : ℕ). corner_at list i ∷ map (corner_at list) (range j (k - (i + 1)))) s)

  from_end : (i : ℕ) → k ≤ i → corners_from list k i ≡ []
  unfolding corners_from
  from_end i l = let e : k - i ≡ 0 = omega arith in rw e refl

  from_first : 0 < k → corners_in list k ≡ corner_at list 0 ∷ corners_from list k 1
  unfolding corners_in
  from_first l =
      let e : k ≡ k - 0 = omega arith in
      ap (λ (j : ℕ). map (corner_at list) (range 0 j)) e ∙ unfold corners_from in from_more 0 l

-- ---- the turns

module _ (f : ℕ → ℕ → Bool) (list : List ℕ) (k : ℕ) (first : Bool) where
  -- whether segments go on by turns from corner j
  abbrev leads_from : Bool → ℕ → Bool
  leads_from u j = leads f anywhere (headed u) (corner_at list j) (corners_from list k (j + 1))

  -- up to corner j they do
  pub record Going (u : Bool) (j : ℕ) : Type 0 where
    pub le : j < k
    pub is : leads f anywhere (headed first) (corner_at list 0) (corners_from list k 1) ≡ leads_from u j

  pub going-first : 1 ≤ k → Going first 0
  going-first l = record { le = l; is = refl }

  module _ (u : Bool) (j : ℕ) (g : Going u j) where
    pub going_done : k ≤ j + 1
        → true ≡ leads f anywhere (headed first) (corner_at list 0) (corners_from list k 1)
    unfolding leads
    going_done l =
        sym (g.is ∙ ap (leads f anywhere (headed u) (corner_at list j)) (from_end list k (j + 1) l))

    module _ (l : j + 1 < k) (p q : Point) (p-is : p ≡ corner_at list j) (q-is : q ≡ corner_at list (j + 1)) (r : Bool)
        (segment-is : r ≡ segment f (headed u) p q) where
      r-is : r ≡ segment f (headed u) (corner_at list j) (corner_at list (j + 1))
      r-is = segment-is ∙ ap₂ (segment f (headed u)) p-is q-is

      step_is : leads f anywhere (headed first) (corner_at list 0) (corners_from list k 1)
          ≡ (r
          && leads f anywhere (after (corner_at list j) (corner_at list (j + 1))) (corner_at list (j + 1))
          (corners_from list k (j + 1 + 1)))
      unfolding leads
      step_is =
          g.is
          ∙ ap (leads f anywhere (headed u) (corner_at list j)) (from_more list k (j + 1) l)
          ∙ ap (λ (b : Bool). b && leads f anywhere (after (corner_at list j) (corner_at list (j + 1)))
          (corner_at list (j + 1)) (corners_from list k (j + 1 + 1))) (sym r-is)

      pub going-not : not r ≡ true
          → false ≡ leads f anywhere (headed first) (corner_at list 0) (corners_from list k 1)
      going-not e = sym (step_is ∙ rw (not-true r e) refl)

      pub going_more : not r ≡ false → Going (not u) (j + 1)
      going_more e =
          let yes = not-false r e in
          let turn = turns f (corner_at list j) (corner_at list (j + 1)) u (sym r-is ∙ yes) in
          record { le = l; is = step_is ∙ rw (yes, turn) refl }

-- ---- the list as a whole

module _ (f : ℕ → ℕ → Bool) (list : List ℕ) where
  pub half_place : (length list % 2 ≡ 0 → ⊥) → false ≡ is_way f (drawn list)
  unfolding is_way
  half_place e = sym (ap (is_way f) (drawn-half list e))

  module _ (even : length list % 2 ≡ 0) where
    pub no-corner : length list / 2 ≡ 0 → false ≡ is_way f (drawn list)
    unfolding is_way corners_in
    no-corner z =
        sym (ap (is_way f) (drawn-whole list even ∙ ap (corners_in list) z))

    module _ (some : length list / 2 ≡ 0 → ⊥) (p : Point) (p-is : p ≡ corner_at list 0) (r : Bool)
        (clear : Cleared f p p r) where
      free-is : r ≡ f (corner_at list 0).x (corner_at list 0).y
      free-is = point-clear f p r clear ∙ ap (λ (c : Point). f c.x c.y) p-is

      way-first : is_way f (drawn list)
          ≡ (r && leads f anywhere either (corner_at list 0) (corners_from list (length list / 2) 1))
      way-first =
          ap (is_way f) (drawn-whole list even ∙ from_first list (length list / 2) (omega (arith, some)))
          ∙ way-is f (corner_at list 0) (corners_from list (length list / 2) 1)
          ∙ ap (λ (b : Bool).
          b && leads f anywhere either (corner_at list 0) (corners_from list (length list / 2) 1)) (sym free-is)

      pub first-blocked : not r ≡ true → false ≡ is_way f (drawn list)
      first-blocked e = sym (way-first ∙ rw (not-true r e) refl)

      module _ (free : not r ≡ false) where
        pub one-corner : length list / 2 ≡ 1 → true ≡ is_way f (drawn list)
        unfolding leads
        one-corner e =
            sym (way-first ∙ rw (not-false r free) (ap (leads f anywhere either (corner_at list 0))
            (from_end list (length list / 2) 1 (omega (arith, e)))))

        pub more-corners : (length list / 2 ≡ 1 → ⊥) → (q : Point) → q ≡ corner_at list 1 → (s : Bool)
            → s ≡ leads f anywhere (headed (eqb p.x q.x)) (corner_at list 0)
            (corners_from list (length list / 2) 1)
            → s ≡ is_way f (drawn list)
        unfolding leads
        more-corners e q q-is s s-is =
            let c = from_more list (length list / 2) 1 (omega (arith, some, e)) in
            let a : Point = corner_at list 0 in
            let b : Point = corner_at list 1 in
            s-is
            ∙ ap₂ (λ (u v : Point).
            leads f anywhere (headed (eqb u.x v.x)) a (corners_from list (length list / 2) 1)) p-is q-is
            ∙ ap (leads f anywhere (headed (eqb a.x b.x)) a) c
            ∙ ap (λ (d : Bool). d && leads f anywhere (after a b) b (corners_from list (length list / 2) (1 + 1)))
            (sym (first-heading f a b))
            ∙ sym (ap (leads f anywhere either a) c)
            ∙ sym (way-first ∙ rw (not-false r free) refl)
