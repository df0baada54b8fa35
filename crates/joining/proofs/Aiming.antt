-- What the rows of the other nets and of the net's legs give the search.
use Prim.Native.Nat.{ℕ, ◌+◌, ◌≤◌}
use native.Mathlib.Omega.{arith}
use mathlib.Core.Path.{◌≡◌, sym, ap, ◌∙◌, subst}
use mathlib.Core.Bool.{Bool, true, not, and-true}
use mathlib.Core.List.{List, [], ◌∷◌, map}
use mathlib.Core.Option.{Option}
use Rattle.std.specs.Prelude.{Option as Counted}
use Rattle.foil_spec.specs.Lists.{range}
use Rattle.foil_spec.specs.Foil.{Point, point, Entry, Pen, Rule, Layout, entry_ok, pen_rule, free_by, free}
use Rattle.foil_spec.specs.Nets.{of_net, legs_of}
use Rattle.foil_spec.specs.Paths.{leads, is_way}
use Rattle.foil_spec.specs.Corners.{corner_at, corners_in, drawn}
use Rattle.path_laws.proofs.Ways.{way-is}
use Rattle.foil_spec.specs.Ledger.{without, free_for, join_of}
use Rattle.foil_spec.specs.Lent.{lent, entry_at, layout_of, pen_in, held, sound}
use Rattle.foil_spec.specs.declared.Board.{Board}
use Rattle.ledger_laws.proofs.Rules.{of-ok}
use Rattle.ledger_laws.proofs.Sound.{of-sound}
use Rattle.foil.proofs.Limits.{held-table}
use Rattle.list_laws.proofs.Tests.{all_keep}
use Rattle.zones.specs.Boxes.{box_free, Boxes, Zoned}
use Rattle.zones.specs.Table.{Table}
use Rattle.zones.proofs.Zoning.{zoned-free}
use Rattle.tables.specs.Rows.{other_nets, Kept}
use Rattle.tables.proofs.Filling.{read-rows}
use Rattle.foil.proofs.Making.{rows-layout, rows-table}
use Rattle.search.specs.Grid.{path_to, Aimed}
use Rattle.search.specs.Search.{PathFound}
use Rattle.search.specs.declared.Aim.{Aim}
use Rattle.joining.specs.Sought.{Own, Known, Asked, Sought}
use Rattle.joining.proofs.Own.{both-count}
use Rattle.joining.proofs.Seeking.{join_is}

-- a table's entries are boxes
table-boxes : {t : List ℕ} {n : ℕ} {r : Rule} {w h : ℕ} → Table t n r w h → Boxes t n w h
table-boxes T =
    record {
      len = T.len;
      few = omega (arith, T.few);
      width = T.sized.width;
      height = T.sized.height;
      x-order = T.x-order;
      y-order = T.y-order;
      x-end = T.x-end;
      y-end = T.y-end;
    }

module _ {t : List ℕ} {n : ℕ} {p : Pen} {w h : ℕ} (P : Known t n p w h) {net : ℕ} {others : List ℕ} {j : ℕ}
    (K : Kept others t net n j) where
  abbrev l : Layout
  l = layout_of w h p n t

  -- the rows of the other nets are a table
  pub others-table : Table others j (pen_rule p) w h
  unfolding other_nets
  others-table =
      rows-table others (other_nets net t n) j (sym K.counted) K.is (pen_rule p) w h
      (omega (arith, K.few, P.table.few)) P.table.small P.table.sized
      (all_keep (entry_ok w h) (λ (e : Entry). not (of_net net e)) (map (entry_at t) (range 0 n)) P.entries)

  others-layout : layout_of w h p j others ≡ without net l
  unfolding layout_of other_nets
  others-layout = rows-layout others (other_nets net t n) j (sym K.counted) K.is w h p

  module _ {legs : List ℕ} {k : ℕ} (O : Own legs t net n k) where
    legs-table : Table legs k (pen_rule p) w h
    unfolding legs_of
    legs-table =
        rows-table legs (legs_of net (map (entry_at t) (range 0 n))) k (sym O.counted) O.is (pen_rule p) w h
        (omega (arith, O.few, P.table.few)) P.table.small P.table.sized
        (all_keep (entry_ok w h) (of_net net) (map (entry_at t) (range 0 n)) P.entries)

    module _ {r : Rule} (rule : r ≡ pen_rule p) {z : List ℕ} {c : ℕ}
        (Z : Zoned (free_by r w h (map (entry_at others) (range 0 j))) w h z c) (few : c ≤ j + 4) where
      sought : Sought l net z c legs k
      unfolding free_for layout_of
      sought =
          record {
            zones =
                subst (λ (x : Layout). Zoned (free x) w h z c) others-layout
                (zoned-free w h p j others z c r rule Z);
            legs = read-rows legs (legs_of net (map (entry_at t) (range 0 n))) k (sym O.counted) O.is;
          }

      -- the search from a point to the legs
      abbrev aim : Point → Aim
      aim S = record { n = c; k = k; w = w; h = h; from = S }

      pub net-aimed : {S : Point} → free_for net l S.x S.y ≡ true → Aimed z legs (aim S)
      unfolding layout_of
      net-aimed {S} free =
          record {
            boxes = Z.boxes;
            targets = table-boxes legs-table;
            few = omega (arith, few, both-count K O, P.table.few);
            s-free = ap (λ (f : ℕ → ℕ → Bool). f S.x S.y) sought.zones.same ∙ free;
          }

      pub net-found : (S : Point) {out out' : List ℕ} {i : Counted ℕ} → PathFound (path_to z legs (aim S)) out out' i
          → PathFound (join_of net l S) out out' i
      unfolding layout_of
      net-found S {out} {out'} {i} F =
          subst (λ (o : Option (List Point)). PathFound o out out' i) (join_is sought S) F

-- a foil that keeps the rules, and a point that is free for the net
pub known : (b : Board) (t s : List ℕ) → sound (lent b t s) ≡ true
    → Known t b.entries (pen_in b) b.width b.height
unfolding held layout_of
known b t s g =
    record {
      table = held-table b t s g;
      entries = (of-ok (held (lent b t s)) (of-sound (lent b t s) g).kept).entries;
    }

pub asked : (b : Board) (t s : List ℕ) (net : ℕ) (S : Point) → sound (lent b t s) ≡ true
    → free_for net (held (lent b t s)) S.x S.y ≡ true
    → Asked t b.entries (pen_in b) b.width b.height net S
unfolding held layout_of
asked b t s net S g free = record { known = known b t s g; s-free = free }

-- the way of one corner is its point
spot-way : (f : ℕ → ℕ → Bool) (x y : ℕ) → is_way f (drawn (x ∷ y ∷ [])) ≡ f x y
unfolding drawn corners_in corner_at leads
spot-way f x y = way-is f (point x y) [] ∙ and-true (f x y)

module _ {t : List ℕ} {n : ℕ} {p : Pen} {w h : ℕ} (P : Known t n p w h) {net : ℕ} {others : List ℕ} {j : ℕ}
    (K : Kept others t net n j) {z : List ℕ} {c : ℕ} where
  -- a point that the boxes of the other nets leave free is free for the net
  pub clear-is : Zoned (free (layout_of w h p j others)) w h z c → (x y : ℕ) {r : Bool}
      → r ≡ is_way (box_free w h c z) (drawn (x ∷ y ∷ [])) → r ≡ free_for net (layout_of w h p n t) x y
  unfolding free_for
  clear-is Z x y e =
      e ∙ spot-way (box_free w h c z) x y ∙ ap (λ (f : ℕ → ℕ → Bool). f x y) Z.same
      ∙ ap (λ (l : Layout). free l x y) (others-layout P K)
