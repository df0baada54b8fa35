-- The boxes of a table leave free what its layout has free, so the first path between them is the layout's.
use Prim.Native.Nat.{ℕ}
use mathlib.Core.Path.{◌≡◌, ap, ◌∙◌, subst}
use mathlib.Core.Bool.{Bool}
use mathlib.Core.List.{List}
use mathlib.Core.Option.{Option}
use Rattle.std.specs.Prelude as std
use Rattle.foil_spec.specs.Foil.{Point, Pen, free}
use Rattle.foil_spec.specs.Paths.{first_path}
use Rattle.foil_spec.specs.Ledger.{path_of}
use Rattle.foil_spec.specs.Lent.{layout_of}
use Rattle.zones.specs.Boxes.{box_free, Zoned}
use Rattle.search.specs.Grid as boxes
use Rattle.search.specs.Search as search
use Rattle.finding.specs.Found.{Posed, Found}

module _ {t : List ℕ} {n : ℕ} {p : Pen} {w h : ℕ} {S T : Point} (P : Posed t n p w h S T) {z : List ℕ} {c : ℕ}
    (Z : Zoned (free (layout_of w h p n t)) w h z c) where
  pub boxes-posed : boxes.Posed z c w h S T
  boxes-posed =
      record {
        boxes = Z.boxes;
        s-free = ap (λ (f : ℕ → ℕ → Bool). f S.x S.y) Z.same ∙ P.s-free;
        t-free = ap (λ (f : ℕ → ℕ → Bool). f T.x T.y) Z.same ∙ P.t-free;
      }

  path-is : first_path (box_free w h c z) w h S T ≡ path_of (layout_of w h p n t) S T
  unfolding path_of layout_of
  path-is = ap (λ (f : ℕ → ℕ → Bool). first_path f w h S T) Z.same

  pub layout-found : {out out' : List ℕ} {k : std.Option ℕ}
      → search.PathFound (first_path (box_free w h c z) w h S T) out out' k
      → Found (layout_of w h p n t) S T out out' k
  layout-found {out} {out'} {k} F =
      subst (λ (o : Option (List Point)). search.PathFound o out out' k) path-is F
