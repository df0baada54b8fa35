-- The foil: its limits, the entries of its table, how far away they block by the pen, and which points are free.
use Rattle.std.specs.Prelude.{ℕ, suc, ◌+◌, Bool, cond, not, ◌&&◌, ◌||◌, List, [], ◌∷◌, leb, ltb, eqb}
use Rattle.foil_spec.specs.Lists.{all, any}
use Rattle.foil_spec.specs.Limits.{max_side, max_reach}
use Rattle.foil_spec.specs.declared.Point as declared_point
use Rattle.foil_spec.specs.declared.Entry as declared_entry
use Rattle.foil_spec.specs.declared.Pen as declared_pen
use Rattle.foil_spec.specs.declared.Rule as declared_rule

-- a point of the foil
abbrev pub Point : Type 0
Point = declared_point.Point

-- the point (x, y)
abbrev pub point : ℕ → ℕ → Point
point x y = record { x = x; y = y }

-- the two points are one
abbrev pub same : Point → Point → Bool
same p q = eqb p.x q.x && eqb p.y q.y

-- an entry of the patch table: its net, and the points with x0 ≤ x < x1 and y0 ≤ y < y1
abbrev pub Entry : Type 0
Entry = declared_entry.Entry

-- an entry from its five numbers
abbrev pub entry : ℕ → ℕ → ℕ → ℕ → ℕ → Entry
entry net x0 y0 x1 y1 = record { net = net; x0 = x0; y0 = y0; x1 = x1; y1 = y1 }

-- its five numbers
unfoldable pub entry_numbers : Entry → List ℕ
entry_numbers e = e.net ∷ e.x0 ∷ e.y0 ∷ e.x1 ∷ e.y1 ∷ []

-- a pen: its half width h, and the gap g that its ink keeps
abbrev pub Pen : Type 0
Pen = declared_pen.Pen

-- the pen of half width h and gap g
abbrev pub pen : ℕ → ℕ → Pen
pen h g = record { half = h; gap = g }

-- what a record and a table say: W, H, the pen and the row of entries
pub record Layout : Type 0 where
  pub width : ℕ
  pub height : ℕ
  pub pen : Pen
  pub entries : List Entry

-- no foil is begun yet
abbrev pub no_foil : Layout
no_foil = record { width = 0; height = 0; pen = pen 0 0; entries = [] }

-- W and H run from 1 to 4,096
unfoldable pub size_ok : ℕ → Bool
size_ok n = leb 1 n && leb n max_side

-- document 01's reach runs from 0 to 15
unfoldable pub reach_ok : ℕ → Bool
reach_ok d = leb d max_reach

-- h runs from 0 to 7, g from 0 to 15
unfoldable pub pen_ok : Pen → Bool
pen_ok p = leb p.half 7 && leb p.gap max_reach

-- the nets of tracks run from 1 to 999
unfoldable pub net_ok : ℕ → Bool
net_ok net = leb 1 net && leb net 999

-- x0 < x1 ≤ W and y0 < y1 ≤ H
unfoldable pub box_ok : ℕ → ℕ → Entry → Bool
box_ok W H e = ltb e.x0 e.x1 && leb e.x1 W && ltb e.y0 e.y1 && leb e.y1 H

-- net 0 is a drawn patch; any other net's entry is a leg, one point wide in one direction
unfoldable pub shape_ok : Entry → Bool
shape_ok e = eqb e.net 0 || net_ok e.net && (eqb e.x1 (suc e.x0) || eqb e.y1 (suc e.y0))

-- an entry that a table may hold
unfoldable pub entry_ok : ℕ → ℕ → Entry → Bool
entry_ok W H e = box_ok W H e && shape_ok e

-- lo − d ≤ v < hi + d
unfoldable pub within : ℕ → ℕ → ℕ → ℕ → Bool
within lo hi d v = leb lo (v + d) && ltb v (hi + d)

-- the entry, widened by d, has the point (x, y)
unfoldable pub blocks : ℕ → Entry → ℕ → ℕ → Bool
blocks d e x y = within e.x0 e.x1 d x && within e.y0 e.y1 d y

-- the box of p, widened by m, has a point of the box of e
unfoldable pub meets : ℕ → Entry → Entry → Bool
meets m p e =
    ltb e.x0 (p.x1 + m) && ltb p.x0 (e.x1 + m) && ltb e.y0 (p.y1 + m) && ltb p.y0 (e.y1 + m)

-- p is a patch, which blocks up to m away, and blocks a point of e, a leg
unfoldable pub crosses : ℕ → Entry → Entry → Bool
crosses m p e = eqb p.net 0 && not (eqb e.net 0) && meets m p e

-- p is a patch that blocks a point of one of the legs of the row es
unfoldable pub over_leg : ℕ → List Entry → Entry → Bool
over_leg m es p = any (crosses m p) es

-- one of the patches of the row es blocks a point of e, a leg
unfoldable pub under_patch : ℕ → List Entry → Entry → Bool
under_patch m es e = any (λ (p : Entry). crosses m p e) es

-- no patch of the row blocks a point of one of its legs
unfoldable pub no_crossing : ℕ → List Entry → Bool
no_crossing m es = all (λ (e : Entry). not (under_patch m es e)) es

-- a rule of blocking: how far away a patch, a leg and the foil's edge block
abbrev pub Rule : Type 0
Rule = declared_rule.Rule

-- the rule of a pen: a patch and the edge block up to h + g away, a leg up to 2h + g
unfoldable pub pen_rule : Pen → Rule
pen_rule p = record { patch = p.half + p.gap; leg = p.half + (p.half + p.gap); edge = p.half + p.gap }

-- how far away a patch blocks by the pen
unfoldable pub patch_margin : Pen → ℕ
patch_margin p = (pen_rule p).patch

-- document 01's rule: patches and legs block up to the reach away, the edge nothing
unfoldable pub reach_rule : ℕ → Rule
reach_rule d = record { patch = d; leg = d; edge = 0 }

-- how far away an entry blocks
unfoldable pub margin : Rule → Entry → ℕ
margin r e = cond (eqb e.net 0) r.patch r.leg

-- v < m or v ≥ size − m
unfoldable pub near_edge : ℕ → ℕ → ℕ → Bool
near_edge m size v = ltb v m || leb size (v + m)

-- the point (x, y) is on a foil of W by H and not too near its edge, and none of the entries blocks it
unfoldable pub free_by : Rule → ℕ → ℕ → List Entry → ℕ → ℕ → Bool
free_by r W H es x y =
    ltb x W && ltb y H && not (near_edge r.edge W x || near_edge r.edge H y)
    && all (λ (e : Entry). not (blocks (margin r e) e x y)) es

-- free is free by the rule of the foil's pen
unfoldable pub free : Layout → ℕ → ℕ → Bool
free l x y = free_by (pen_rule l.pen) l.width l.height l.entries x y
