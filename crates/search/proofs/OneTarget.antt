-- A path to one point is a path to a target box of that point.
use Prim.Native.Nat.{ℕ, ◌+◌, ◌≤◌, ◌<◌}
use native.Mathlib.Omega.{arith}
use mathlib.Core.Path.{◌≡◌, sym, ap, ◌∙◌, subst, fun_ext}
use mathlib.Core.Bool.{true, false, ◌&&◌, ◌||◌, or-false}
use mathlib.Core.List.{List, [], ◌∷◌}
use mathlib.Core.Option.{Option}
use Rattle.std.specs.Prelude as std
use lib.Dec.{eqb}
use borrow.Author.Tests.{eq-eqb, eqb-true}
use Rattle.foil_spec.specs.Foil.{Point, Entry, same}
use Rattle.foil_spec.specs.Lent.{entry_at}
use Rattle.foil_spec.specs.Paths.{at, first_path, first_path_to}
use Rattle.list_laws.proofs.Tests.{and_l, and_r, and_i, same_test}
use Rattle.path_laws.proofs.Segments.{same-eq}
use Rattle.zones.specs.Boxes.{inside, covers, box_free, Boxes}
use Rattle.zones.proofs.Free.{inside-yes, of-inside, not_covered}
use Rattle.grid.specs.Targets.{in_boxes, target}
use Rattle.search.specs.Grid.{Posed, path_to, Aimed}
use Rattle.search.specs.Search.{PathFound}

-- the table of the one box with the point (x, y)
abbrev pub point_box : ℕ → ℕ → List ℕ
point_box x y = 0 ∷ x ∷ y ∷ (x + 1) ∷ (y + 1) ∷ []

module _ {z : List ℕ} {n w h : ℕ} {S T : Point} (P : Posed z n w h S T) where
  on : (T.x < w) × (T.y < h)
  on = let e = not_covered w h n z T.x T.y P.t-free in (e.0, e.1)

  -- only place 0 is below 1
  at-0 : (Q : Entry → Type 0) → Q (entry_at (point_box T.x T.y) 0) → (k : ℕ) → k < 1 → Q (entry_at (point_box T.x T.y) k)
  at-0 Q q k l = let e : 0 ≡ k = omega arith in subst (λ (i : ℕ). Q (entry_at (point_box T.x T.y) i)) e q

  point-boxes : Boxes (point_box T.x T.y) 1 w h
  unfolding entry_at
  point-boxes =
      record {
        len = omega arith;
        few = omega arith;
        width = P.boxes.width;
        height = P.boxes.height;
        x-order = at-0 (λ e. e.x0 < e.x1) (omega arith);
        y-order = at-0 (λ e. e.y0 < e.y1) (omega arith);
        x-end = at-0 (λ e. e.x1 ≤ w) (omega (arith, on.0));
        y-end = at-0 (λ e. e.y1 ≤ h) (omega (arith, on.1));
      }

  pub one-aimed : Aimed z (point_box T.x T.y) (record { n = n; k = 1; w = w; h = h; from = S })
  one-aimed =
      record {
        boxes = P.boxes;
        targets = point-boxes;
        few = omega (arith, P.boxes.few);
        s-free = P.s-free;
      }

  -- the one target
  is-target : (p : Point) → target w h n z 1 (point_box T.x T.y) p ≡ at T p
  unfolding target in_boxes covers entry_at
  is-target p = same_test _ _ to from
    where
      to : ((inside T.x (T.x + 1) p.x && inside T.y (T.y + 1) p.y || false) && box_free w h n z p.x p.y) ≡ true
          → same p T ≡ true
      to e =
          let c : (inside T.x (T.x + 1) p.x && inside T.y (T.y + 1) p.y) ≡ true =
          sym (or-false _) ∙ and_l (inside T.x (T.x + 1) p.x && inside T.y (T.y + 1) p.y || false) _ e in
          let a = of-inside T.x (T.x + 1) p.x (and_l _ _ c) in
          let b = of-inside T.y (T.y + 1) p.y (and_r (inside T.x (T.x + 1) p.x) _ c) in
          and_i {a = eqb p.x T.x} (eq-eqb p.x T.x (omega (arith, a))) (eq-eqb p.y T.y (omega (arith, b)))

      from : same p T ≡ true
          → ((inside T.x (T.x + 1) p.x && inside T.y (T.y + 1) p.y || false) && box_free w h n z p.x p.y) ≡ true
      from e =
          let ex = eqb-true p.x T.x (and_l (eqb p.x T.x) _ e) in
          let ey = eqb-true p.y T.y (and_r (eqb p.x T.x) _ e) in
          let free : box_free w h n z p.x p.y ≡ true =
          subst (λ (q : Point). box_free w h n z q.x q.y ≡ true) (sym (same-eq p T e)) P.t-free in
          and_i {a = inside T.x (T.x + 1) p.x && inside T.y (T.y + 1) p.y || false}
          (or-false _
          ∙ and_i {a = inside T.x (T.x + 1) p.x} (inside-yes T.x (T.x + 1) p.x (omega arith) (omega arith))
          (inside-yes T.y (T.y + 1) p.y (omega arith) (omega arith)))
          free

  pub one_found : {out out' : List ℕ} {k : std.Option ℕ}
      → PathFound (path_to z (point_box T.x T.y) (record { n = n; k = 1; w = w; h = h; from = S })) out out' k
      → PathFound (first_path (box_free w h n z) w h S T) out out' k
  one_found {out} {out'} {k} F =
      subst (λ (o : Option (List Point)). PathFound o out out' k)
      (ap (first_path_to (box_free w h n z) w h S) (fun_ext is-target)) F
