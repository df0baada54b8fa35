-- The first path to the target boxes, over points that the boxes leave free, is that of the join.
use Prim.Native.Nat.{ℕ}
use native.Mathlib.Nat.{add-zero}
use mathlib.Core.Path.{◌≡◌, sym, ap, ap₂, ◌∙◌, fun_ext}
use mathlib.Core.Bool.{Bool, ◌&&◌}
use mathlib.Core.List.{List}
use lib.Dec.{leb, ltb}
use Rattle.foil_spec.specs.Lists.{any}
use Rattle.foil_spec.specs.Foil.{Point, Entry, Layout, within, blocks}
use Rattle.foil_spec.specs.Nets.{legs_of}
use Rattle.foil_spec.specs.Paths.{first_path_to}
use Rattle.foil_spec.specs.Ledger.{on_legs, on_net, join_of}
use Rattle.zones.specs.Boxes.{inside, covers, box_free}
use Rattle.grid.specs.Targets.{in_boxes, target}
use Rattle.joining.specs.Sought.{Sought}

-- an entry that is not widened has the points of its box
within_none : (lo hi v : ℕ) → within lo hi 0 v ≡ inside lo hi v
unfolding within inside
within_none lo hi v = ap₂ (λ (a b : ℕ). leb lo a && ltb v b) (add-zero v) (add-zero hi)

blocks-none : (e : Entry) (x y : ℕ) → blocks 0 e x y ≡ covers e x y
unfolding blocks covers
blocks-none e x y =
    ap₂ (λ (a b : Bool). a && b) (within_none e.x0 e.x1 x) (within_none e.y0 e.y1 y)

module _ {l : Layout} {net : ℕ} {z : List ℕ} {n : ℕ} {t : List ℕ} {k : ℕ} (A : Sought l net z n t k) where
  -- the target is the net
  target_is : (p : Point) → target l.width l.height n z k t p ≡ on_net net l p
  unfolding target in_boxes on_net on_legs
  target_is p =
      ap₂ (λ (a b : Bool). a && b)
      (ap (any (λ (e : Entry). covers e p.x p.y)) A.legs
      ∙ ap (λ (f : Entry → Bool). any f (legs_of net l.entries)) (fun_ext (λ e. sym (blocks-none e p.x p.y))))
      (ap (λ (f : ℕ → ℕ → Bool). f p.x p.y) A.zones.same)

  -- and the path is the join's
  pub join_is : (S : Point)
      → first_path_to (box_free l.width l.height n z) l.width l.height S
      (target l.width l.height n z k t)
      ≡ join_of net l S
  unfolding join_of
  join_is S =
      ap₂ (λ (f : ℕ → ℕ → Bool) (T : Point → Bool). first_path_to f l.width l.height S T) A.zones.same
      (fun_ext target_is)
