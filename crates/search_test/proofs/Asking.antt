-- When the search can be asked for a path: the boxes of a board leave free what the test of its points has free.
use Rattle.std.proofs.Common.{◌≡◌, ℕ, ◌<◌, ◌≤◌, Bool, true, List, length, ap, ◌∙◌, arith}
use Rattle.foil_spec.specs.Foil.{point, pen, pen_rule, free}
use Rattle.foil_spec.specs.Lent.{layout_of}
use Rattle.zones.specs.Boxes.{Zoned}
use Rattle.zones.specs.Table.{Table}
use Rattle.zones.proofs.Free.{free-at, of-far}
use Rattle.search.specs.Grid.{Posed}
use Rattle.plain.specs.Free.{Unblocked}
use Rattle.search_test.specs.Box.{AllBoxes}

module _ {t : List ℕ} {n g w h : ℕ} where
  pub table_of : 640 ≡ length t → n ≤ 128 → g ≤ 15 → 0 < w → 0 < h → w ≤ 4096 → h ≤ 4096 → AllBoxes w h n t
      → Table t n (pen_rule (pen 0 g)) w h
  unfolding pen_rule
  table_of len few small some-w some-h wide high ok =
      record {
        len = omega arith;
        few = few;
        small = record { patch = omega arith; leg = omega arith; edge = omega arith };
        sized = record { some-width = some-w; some-height = some-h; width = wide; height = high };
        x-order = λ k l. (ok k l).across;
        y-order = λ k l. (ok k l).down;
        x-end = λ k l. (ok k l).right;
        y-end = λ k l. (ok k l).bottom;
      }

  is_free : {x y : ℕ} → Unblocked t n (pen 0 g) w h x y → free (layout_of w h (pen 0 g) n t) x y ≡ true
  unfolding pen_rule free layout_of
  is_free {x} {y} u =
      free-at (pen_rule (pen 0 g)) w h n t x y (omega (arith, (of-far _ w x u.x-off).1))
      (omega (arith, (of-far _ h y u.y-off).1)) u.x-off u.y-off u.none

  pub posed : {z : List ℕ} {c sx sy tx ty : ℕ} → Zoned (free (layout_of w h (pen 0 g) n t)) w h z c
      → Unblocked t n (pen 0 g) w h sx sy → Unblocked t n (pen 0 g) w h tx ty
      → Posed z c w h (point sx sy) (point tx ty)
  posed {sx = sx} {sy = sy} {tx = tx} {ty = ty} Z s g =
      record {
        boxes = Z.boxes;
        s-free = ap (λ (f : ℕ → ℕ → Bool). f sx sy) Z.same ∙ is_free s;
        t-free = ap (λ (f : ℕ → ℕ → Bool). f tx ty) Z.same ∙ is_free g;
      }
