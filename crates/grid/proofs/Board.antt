-- The escape grid over the foil: the marks are those that the search asks for, and a link has 1 exactly if it is free.
use Prim.Native.Nat.{ℕ, suc, ◌+◌, ◌-◌, ◌≤◌, ◌<◌}
use native.Mathlib.Omega.{arith}
use native.Mathlib.Decide.{ℕ_discrete}
use mathlib.Core.Path.{◌≡◌, sym, ◌∙◌, subst}
use mathlib.Core.Logic.{◌≢◌}
use mathlib.Core.Bool.{Bool, true, false, not}
use mathlib.Core.List.{List, map}
use lib.ListN.{get_or, length}
use borrow.Author.Tests.{eqb-false, eq-eqb}
use Rattle.foil_spec.specs.Lists.{range, any}
use Rattle.foil_spec.specs.Limits.{max_side}
use Rattle.foil_spec.specs.Foil.{Entry, point}
use Rattle.foil_spec.specs.Lent.{entry_at}
use Rattle.list_laws.proofs.Members.{any_place, of-any, of_map, of_range}
use Rattle.list_laws.proofs.Tests.{and_l, and_r, and_i, both, clash}
use Rattle.course_laws.specs.Course.{Span, Marks, Steady}
use Rattle.zones.specs.Boxes.{covers, box_free, max_boxes}
use Rattle.zones.proofs.Free.{inside-yes, of-inside, box-free-at, not_covered}
use Rattle.grid.specs.Size.{stride}
use Rattle.grid.specs.Extent.{turned, extent}
use Rattle.grid.specs.Lines.{has_mark, past_box, first_in, last_in, Marked, Collected, Lines}
use Rattle.grid.specs.Targets.{in_boxes, target}
use Rattle.grid.specs.Links.{Painted, Links}
use Rattle.grid.proofs.Covers.{covers_on, turned-covers}

-- the place of one that passes the test
place_of : {A : Type 0} (p : A → Bool) (g : ℕ → A) (n : ℕ) → any p (map g (range 0 n)) ≡ true →
    (i : ℕ) × (i < n) × (p (g i) ≡ true)
place_of p g n h =
    let (x, i, t) = of-any p (map g (range 0 n)) h in
    let (j, r, e) = of_map g x (range 0 n) i in
    let l = of_range j 0 n r in
    (j, omega (arith, l.1), subst (λ y. p y ≡ true) e t)

-- the foil's size along the axis
abbrev pub size_on : ℕ → ℕ → Bool → ℕ
size_on W H false = W
size_on W H true = H

module _ (W H n : ℕ) (z : List ℕ) where
  -- a point is free exactly if it is on the foil and no box has it, seen along an axis
  free_on : (upright : Bool) (x y : ℕ) → x < size_on W H upright → y < size_on W H (not upright) →
      ((k : ℕ) → k < n → turned upright (covers (entry_at z k)) x y ≡ false) →
      turned upright (box_free W H n z) x y ≡ true
  free_on false x y lx ly h = box-free-at W H n z x y lx ly h
  free_on true x y lx ly h = box-free-at W H n z y x ly lx h

  of-free-on : (upright : Bool) (x y : ℕ) → turned upright (box_free W H n z) x y ≡ true →
      (x < size_on W H upright) × (y < size_on W H (not upright))
      × ((k : ℕ) → k < n → turned upright (covers (entry_at z k)) x y ≡ false)
  of-free-on false x y h = not_covered W H n z x y h
  of-free-on true x y h = let r = not_covered W H n z y x h in (r.1, r.0, r.2)

  module _ (k : ℕ) (t : List ℕ) (upright : Bool) (p : ℕ) (m : List ℕ)
      (M : Marked n z k t upright (size_on W H upright) p m) where
    -- a box that has a number but not the next one ends there, and the next one is marked
    covers-next : (x y i : ℕ) → i < n → suc x < size_on W H upright → get_or m (suc x) 0 ≢ 1 →
        turned upright (covers (entry_at z i)) x y ≡ true → turned upright (covers (entry_at z i)) (suc x) y ≡ true
    covers-next x y i l lx u h =
        let e = sym (turned-covers upright (entry_at z i) x y) ∙ h in
        let w = of-inside _ _ x (and_l (covers_on upright (entry_at z i) x) _ e) in
        let b = below w.1 (ℕ_discrete (extent upright (entry_at z i)).to (suc x)) in
        turned-covers upright (entry_at z i) (suc x) y
        ∙ and_i (inside-yes _ _ (suc x) (omega arith) b) (and_r (covers_on upright (entry_at z i) x) _ e)
      where
        below : x < (extent upright (entry_at z i)).to → Dec ((extent upright (entry_at z i)).to ≡ suc x) →
            suc x < (extent upright (entry_at z i)).to
        below w (no e) = omega arith
        below w (yes e) = absurd (u (rw e at (M.sides.first i l (omega arith))))

    -- a box that has the next number but not this one begins there, and this one is marked
    covers-here : (x y i : ℕ) → i < n → x < size_on W H upright → get_or m x 0 ≢ 1 →
        turned upright (covers (entry_at z i)) (suc x) y ≡ true → turned upright (covers (entry_at z i)) x y ≡ true
    covers-here x y i l lx u h =
        let e = sym (turned-covers upright (entry_at z i) (suc x) y) ∙ h in
        let w = of-inside _ _ (suc x) (and_l (covers_on upright (entry_at z i) (suc x)) _ e) in
        let b = above w.0 (ℕ_discrete (extent upright (entry_at z i)).from (suc x)) in
        turned-covers upright (entry_at z i) x y
        ∙ and_i (inside-yes _ _ x b (omega arith)) (and_r (covers_on upright (entry_at z i) (suc x)) _ e)
      where
        above : (extent upright (entry_at z i)).from ≤ suc x → Dec ((extent upright (entry_at z i)).from ≡ suc x) →
            (extent upright (entry_at z i)).from ≤ x
        above w (no e) = omega arith
        above w (yes e) =
            let d : (extent upright (entry_at z i)).from - 1 ≡ x = omega arith in
            absurd (u (rw d at (M.sides.second i l (omega arith))))

    -- what is free stays free to the next number, or to the one before, where there is no mark
    free-down : (x y : ℕ) → has_mark m (suc x) ≡ false → turned upright (box_free W H n z) (suc x) y ≡ true →
        turned upright (box_free W H n z) x y ≡ true
    free-down x y u h =
        let r = of-free-on upright (suc x) y h in
        free_on upright x y (omega arith) r.1 (λ k l.
        both (turned upright (covers (entry_at z k)) x y)
        (λ e. clash (covers-next x y k l r.0 (eqb-false _ _ u) e) (r.2 k l))
        (λ e. e))

    free_up : (x y : ℕ) → has_mark m x ≡ false → turned upright (box_free W H n z) x y ≡ true →
        turned upright (box_free W H n z) (suc x) y ≡ true
    free_up x y u h =
        let r = of-free-on upright x y h in
        let o : x ≢ size_on W H upright - 1 = λ e. eqb-false _ _ u (rw (← e) at M.last_on) in
        free_on upright (suc x) y (omega arith) r.1 (λ k l.
        both (turned upright (covers (entry_at z k)) (suc x) y)
        (λ e. clash (covers-here x y k l r.0 (eqb-false _ _ u) e) (r.2 k l))
        (λ e. e))

    -- the marks are those that the search asks for
    pub grid-marks : Marks (turned upright (box_free W H n z)) (has_mark m) (size_on W H upright)
    grid-marks = record {
      first = eq-eqb _ _ M.first_on;
      last = eq-eqb _ _ M.last_on;
      below = λ x y h. (of-free-on upright x y h).0;
      down = free-down;
      up = free_up;
    }

    -- a target, seen along the axis: free, and in one of the target boxes
    of-target : (x y : ℕ) → turned upright (λ a b. target W H n z k t (point a b)) x y ≡ true →
        (turned upright (box_free W H n z) x y ≡ true)
        × ((i : ℕ) × (i < k) × (turned upright (covers (entry_at t i)) x y ≡ true))
    of-target x y h = go upright h
      where
        parts-of : (a b : ℕ) → target W H n z k t (point a b) ≡ true →
            (box_free W H n z a b ≡ true) × ((i : ℕ) × (i < k) × (covers (entry_at t i) a b ≡ true))
        parts-of a b e = unfold target in_boxes in
            let free : box_free W H n z a b ≡ true = and_r (in_boxes k t a b) (box_free W H n z a b) e in
            let (i, l, c) = place_of (λ (e : Entry). covers e a b) (entry_at t) k (and_l (in_boxes k t a b) _ e) in
            (free, (i, l, c))

        go : (u : Bool) → turned u (λ a b. target W H n z k t (point a b)) x y ≡ true →
            (turned u (box_free W H n z) x y ≡ true)
            × ((i : ℕ) × (i < k) × (turned u (covers (entry_at t i)) x y ≡ true))
        go false h = parts-of x y h
        go true h = parts-of y x h

    to-target : (x y i : ℕ) → turned upright (box_free W H n z) x y ≡ true → i < k →
        turned upright (covers (entry_at t i)) x y ≡ true →
        turned upright (λ a b. target W H n z k t (point a b)) x y ≡ true
    to-target x y i f l c = go upright f c
      where
        whole : (a b : ℕ) → box_free W H n z a b ≡ true → covers (entry_at t i) a b ≡ true →
            target W H n z k t (point a b) ≡ true
        whole a b f c = unfold target in_boxes in
            and_i {a = in_boxes k t a b} (any_place (λ (e : Entry). covers e a b) (entry_at t) k i l c) f

        go : (u : Bool) → turned u (box_free W H n z) x y ≡ true → turned u (covers (entry_at t i)) x y ≡ true →
            turned u (λ a b. target W H n z k t (point a b)) x y ≡ true
        go false f c = whole x y f c
        go true f c = whole y x f c

    -- off the marked lines a target goes on to both sides: it is strictly inside its box
    pub grid-steady : Steady (λ x y. turned upright (λ a b. target W H n z k t (point a b)) x y ≡ true) (has_mark m)
    grid-steady = record {
      down = λ x y u h.
          let (f, (i, l, c)) = of-target (suc x) y h in
          let s = (of-free-on upright (suc x) y f).0 in
          to-target x y i (free-down x y u f) l (inside-down x y i l (eqb-false _ _ u) s c);
      up = λ x y u h.
          let (f, (i, l, c)) = of-target x y h in
          let s = (of-free-on upright x y f).0 in
          to-target (suc x) y i (free_up x y u f) l (inside-up x y i l (eqb-false _ _ u) s c);
    }
      where
        inside-down : (x y i : ℕ) → i < k → get_or m (suc x) 0 ≢ 1 → suc x < size_on W H upright →
            turned upright (covers (entry_at t i)) (suc x) y ≡ true → turned upright (covers (entry_at t i)) x y ≡ true
        inside-down x y i l u s c =
            let e = sym (turned-covers upright (entry_at t i) (suc x) y) ∙ c in
            let w = of-inside _ _ (suc x) (and_l (covers_on upright (entry_at t i) (suc x)) _ e) in
            turned-covers upright (entry_at t i) x y
            ∙ and_i (inside-yes _ _ x (begins w.0 (ℕ_discrete (first_in t upright i) (suc x))) (omega arith))
            (and_r (covers_on upright (entry_at t i) (suc x)) _ e)
          where
            begins : first_in t upright i ≤ suc x → Dec (first_in t upright i ≡ suc x) → first_in t upright i ≤ x
            begins a (no d) = omega arith
            begins a (yes d) = absurd (u (rw d at (M.ends.first i l (omega arith))))

        inside-up : (x y i : ℕ) → i < k → get_or m x 0 ≢ 1 → x < size_on W H upright →
            turned upright (covers (entry_at t i)) x y ≡ true → turned upright (covers (entry_at t i)) (suc x) y ≡ true
        inside-up x y i l u s c =
            let e = sym (turned-covers upright (entry_at t i) x y) ∙ c in
            let w = of-inside _ _ x (and_l (covers_on upright (entry_at t i) x) _ e) in
            turned-covers upright (entry_at t i) (suc x) y
            ∙ and_i (inside-yes _ _ (suc x) (omega arith) (stops w.1 (ℕ_discrete (last_in t upright i) x)))
            (and_r (covers_on upright (entry_at t i) x) _ e)
          where
            stops : x < past_box t upright i → Dec (last_in t upright i ≡ x) → suc x < past_box t upright i
            stops a (no d) = omega arith
            stops a (yes d) = absurd (u (rw d at (M.ends.second i l (omega arith))))

module _ (W H : ℕ) {n : ℕ} {z : List ℕ} (upright : Bool) {lines : List ℕ} {l : ℕ} {cross : List ℕ} {k : ℕ}
    {m m' e : List ℕ} (L : Collected m (size_on W H (not upright)) lines l)
    (C : Collected m' (size_on W H upright) cross k) (P : Painted z upright lines l cross k n e) where
  -- a link has 1 exactly if it is free
  pub grid-links : Links (turned upright (box_free W H n z)) cross k lines l e
  unfolding Span
  grid-links = record {
    span = λ j i lj li h x lo hi.
        let r = C.rising.up i (suc i) (omega arith) li in
        let b = C.below (suc i) li in
        free_on W H n z upright x (get_or lines j 0) (omega arith) (L.below j lj) (λ a la.
        (P.free j lj i li h a la).point x (omega arith) (omega arith));
    one = λ j i lj li s.
        let r = C.rising.up i (suc i) (omega arith) li in
        P.one j lj i li (λ a la. record {
          point = λ x lo hi.
              (of-free-on W H n z upright x (get_or lines j 0) (s x (omega arith) (omega arith))).2 a la;
        });
  }

-- at most as many lines as marks
pub lines_of : {n : ℕ} {z : List ℕ} {k : ℕ} {t : List ℕ} {upright : Bool} {size p : ℕ} {m lines : List ℕ} {l : ℕ} →
    n + k ≤ max_boxes + 1 → size ≤ max_side → stride ≤ length lines → Marked n z k t upright size p m →
    Collected m size lines l → Lines lines l
lines_of l s r M C = record {
  fit = omega (arith, M.few, C.count);
  few = omega (arith, M.few, C.count);
  below = λ i li. omega (arith, C.below i li);
  rising = C.rising;
}
