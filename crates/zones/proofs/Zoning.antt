-- The zones of a table, written one after the other: on the foil a zone has just the points that its entry blocks.
use Prim.Native.Nat.{ℕ, ◌+◌, ◌*◌, ◌-◌, ◌≤◌, ◌<◌, min}
use native.Mathlib.Omega.{arith}
use native.Mathlib.Decide.{ℕ_discrete}
use mathlib.Core.Path.{◌≡◌, sym, ap, ap₂, subst, ◌∙◌, fun_ext}
use mathlib.Core.Bool.{Bool, true, false, ◌&&◌}
use mathlib.Core.Logic.{⊎_elim, by_cases}
use mathlib.Core.List.{List, map}
use lib.Dec.{leb, ltb, eqb}
use borrow.Author.Count.{below_more}
use borrow.Author.Tests.{le-leb, lt-ltb, lt-leb, le-ltb}
use lib.ListN.{length}
use lib.Seq.{sets}
use Rattle.foil_spec.specs.Lists.{range}
use Rattle.foil_spec.specs.Foil.{Entry, entry, entry_numbers, Pen, Rule, within, blocks, pen_rule, margin, near_edge}
use Rattle.foil_spec.specs.Foil.{free_by, free}
use Rattle.foil_spec.specs.Strips.{strips}
use Rattle.foil_spec.specs.Ledger.{strips_of}
use Rattle.foil_spec.specs.Lent.{entry_at, layout_of}
use Rattle.list_laws.proofs.Places.{entry-put, entry_kept}
use Rattle.list_laws.proofs.Tests.{both, clash, and_i, lt-or-le, or_l, or_r, same_test}
use Rattle.zones.specs.Boxes.{max_boxes, inside, covers, box_free, Zoned, zone_of, BoxPut, PutTwo, Edged}
use Rattle.zones.specs.Table.{Small, Table}
use Rattle.zones.proofs.Free.{within-yes, within-below, within-above, inside-yes, inside-below, inside-above}
use Rattle.zones.proofs.Free.{off-column, off-row, box-free-at, not_covered, free-at, of-free}

-- along one axis: widened by d and clipped at the foil's end
clipped : (lo hi d size v : ℕ) → v < size → inside (lo - d) (min (hi + d) size) v ≡ within lo hi d v
clipped lo hi d size v l =
    ⊎_elim
    (λ a. inside-below _ _ v (omega arith) ∙ sym (within-below lo hi d v a))
    (λ a.
    ⊎_elim
    (λ b. inside-yes _ _ v (omega arith) (omega arith) ∙ sym (within-yes lo hi d v a b))
    (λ b. inside-above (lo - d) _ v (omega arith) ∙ sym (within-above lo hi d v b))
    (lt-or-le v (hi + d)))
    (lt-or-le (v + d) lo)

zone-blocks : (d w h : ℕ) (e : Entry) (x y : ℕ) → x < w → y < h → covers (zone_of d w h e) x y ≡ blocks d e x y
unfolding covers blocks zone_of
zone-blocks d w h e x y lx ly =
    ap₂ (λ (a b : Bool). a && b) (clipped e.x0 e.x1 d w x lx) (clipped e.y0 e.y1 d h y ly)

-- a box that was put
pub box-put : (o o' : List ℕ) (k : ℕ) (e : Entry) → k * 5 + 5 ≤ length o → o' ≡ sets o (k * 5) (entry_numbers e)
    → BoxPut o o' k e
box-put o o' k e l is =
    record {
      here = ap (λ (z : List ℕ). entry_at z k) is ∙ entry-put o k e l;
      before = λ j m. ap (λ (z : List ℕ). entry_at z j) is ∙ entry_kept o k e j (λ q. omega (arith, q));
    }

-- the first k zones are written
pub record Zoning (t : List ℕ) (n : ℕ) (r : Rule) (w h : ℕ) (o out : List ℕ) (k : ℕ) : Type 0 where
  pub kn : k ≤ n
  pub same : length out ≡ length o
  pub zone : (i : ℕ) → i < k → entry_at out i ≡ zone_of (margin r (entry_at t i)) w h (entry_at t i)

module _ (t : List ℕ) (n : ℕ) (r : Rule) (w h : ℕ) (o : List ℕ) where
  pub zoning-more : (out out' : List ℕ) (k : ℕ) (e : Entry) → k < n → length out' ≡ length out
      → Zoning t n r w h o out k → e ≡ zone_of (margin r (entry_at t k)) w h (entry_at t k) → BoxPut out out' k e
      → Zoning t n r w h o out' (k + 1)
  zoning-more out out' k e l len z is p =
      record {
        kn = omega arith;
        same = len ∙ z.same;
        zone =
            below_more (λ (i : ℕ). entry_at out' i ≡ zone_of (margin r (entry_at t i)) w h (entry_at t i)) k
            (λ i m. p.before i m ∙ z.zone i m) (p.here ∙ is);
      }

-- ---- what the functions make

-- an entry blocks no further than a leg by the widest pen
pub margin-small : (r : Rule) (e : Entry) → Small r → margin r e ≤ 29
unfolding margin
margin-small r e s =
    both (eqb e.net 0) (λ t. rw t (omega (arith, s.patch))) (λ t. rw t (omega (arith, s.leg)))

-- two boxes put one after the other
pub two-put : (o a b : List ℕ) (n : ℕ) (e f : Entry) → BoxPut o a n e → BoxPut a b (n + 1) f → PutTwo o b n e f
two-put o a b n e f p q =
    record {
      first = q.before n (omega arith) ∙ p.here;
      second = q.here;
      before = λ j l. q.before j (omega arith) ∙ p.before j l;
    }

-- ---- the edge, along one axis

near-low : (m size v : ℕ) → v < size → inside 0 (min m size) v ≡ ltb v m
near-low m size v l =
    ⊎_elim
    (λ a. inside-yes 0 (min m size) v (omega arith) (omega arith) ∙ sym (lt-ltb v m a))
    (λ a. inside-above 0 (min m size) v (omega arith) ∙ sym (le-ltb v m a))
    (lt-or-le v m)

near-high : (m size v : ℕ) → v < size → inside (size - m) size v ≡ leb size (v + m)
near-high m size v l =
    ⊎_elim
    (λ a. inside-below (size - m) size v (omega arith) ∙ sym (lt-leb size (v + m) a))
    (λ a. inside-yes (size - m) size v (omega arith) l ∙ sym (le-leb size (v + m) a))
    (lt-or-le (v + m) size)

-- a box that has all of the other coordinate misses a point by this one
off-x : (e : Entry) (x y : ℕ) → inside e.y0 e.y1 y ≡ true → covers e x y ≡ false
    → inside e.x0 e.x1 x ≡ false
unfolding covers
off-x e x y on off = both (inside e.x0 e.x1 x) (λ t. clash (and_i t on) off) (λ t. t)

off-y : (e : Entry) (x y : ℕ) → inside e.x0 e.x1 x ≡ true → covers e x y ≡ false
    → inside e.y0 e.y1 y ≡ false
unfolding covers
off-y e x y on off = both (inside e.y0 e.y1 y) (λ t. clash (and_i on t) off) (λ t. t)

-- a point that is nearer than m to none of the two ends
not-near : (m size v : ℕ) → v < size → inside 0 (min m size) v ≡ false → inside (size - m) size v ≡ false
    → near_edge m size v ≡ false
unfolding near_edge
not-near m size v l low high = simp (sym (near-low m size v l) ∙ low, sym (near-high m size v l) ∙ high)

of-not-near : (m size v : ℕ) → v < size → near_edge m size v ≡ false
    → (inside 0 (min m size) v ≡ false) × (inside (size - m) size v ≡ false)
unfolding near_edge
of-not-near m size v l e = (
  near-low m size v l ∙ or_l (ltb v m) (leb size (v + m)) e,
  near-high m size v l ∙ or_r (ltb v m) (leb size (v + m)) e,
)

-- ---- the boxes and the rule

module _ (t : List ℕ) (n : ℕ) (r : Rule) (w h : ℕ) (tab : Table t n r w h) where
  -- the test of the rule
  abbrev free-by : ℕ → ℕ → Bool
  free-by x y = free_by r w h (map (entry_at t) (range 0 n)) x y

  module _ (out : List ℕ)
      (zone : (i : ℕ) → i < n → entry_at out i ≡ zone_of (margin r (entry_at t i)) w h (entry_at t i)) where
    has-zone : (i x y : ℕ) → i < n → x < w → y < h
        → covers (entry_at out i) x y ≡ blocks (margin r (entry_at t i)) (entry_at t i) x y
    has-zone i x y l lx ly =
        ap (λ (e : Entry). covers e x y) (zone i l) ∙ zone-blocks (margin r (entry_at t i)) w h (entry_at t i) x y lx ly

    zone-box : (i : ℕ) → i < n
        → ((entry_at out i).x0 < (entry_at out i).x1) × ((entry_at out i).y0 < (entry_at out i).y1)
        × ((entry_at out i).x1 ≤ w) × ((entry_at out i).y1 ≤ h)
    unfolding zone_of
    zone-box i l = rw (zone i l) (
      omega (arith, tab.x-order i l, tab.x-end i l),
      omega (arith, tab.y-order i l, tab.y-end i l),
      omega arith,
      omega arith,
    )

    -- where the edge blocks nothing, the zones are all
    pub zones-alone : max_boxes * 5 ≤ length out → r.edge ≡ 0 → Zoned (free-by) w h out n
    unfolding near_edge
    zones-alone room none =
        record {
          same = fun_ext (λ x. fun_ext (λ y. same_test _ _ (to x y) (from x y)));
          boxes = record {
            len = omega (arith, tab.few);
            few = omega (arith, tab.few);
            width = tab.sized.width;
            height = tab.sized.height;
            x-order = λ i l. (zone-box i l).0;
            y-order = λ i l. (zone-box i l).1;
            x-end = λ i l. (zone-box i l).2;
            y-end = λ i l. (zone-box i l).3;
          };
        }
      where
        away : (size v : ℕ) → v < size → near_edge r.edge size v ≡ false
        away size v l =
            rw none (simp (le-ltb v 0 (omega arith), lt-leb size (v + 0) (omega arith)))

        to : (x y : ℕ) → box_free w h n out x y ≡ true → free-by x y ≡ true
        to x y f =
            let (lx, ly, clear) = not_covered w h n out x y f in
            free-at r w h n t x y lx ly (away w x lx) (away h y ly)
            (λ k l. sym (has-zone k x y l lx ly) ∙ clear k l)

        from : (x y : ℕ) → free-by x y ≡ true → box_free w h n out x y ≡ true
        from x y f =
            let (lx, ly, ex, ey, clear) = of-free r w h n t x y f in
            box-free-at w h n out x y lx ly (λ k l. has-zone k x y l lx ly ∙ clear k l)

  -- ---- with the four boxes along the edge

  module _ (old out : List ℕ) (some : 0 < r.edge) (edged : Edged old out n r.edge w h)
      (zone : (i : ℕ) → i < n → entry_at old i ≡ zone_of (margin r (entry_at t i)) w h (entry_at t i)) where
    still : (i : ℕ) → i < n → entry_at out i ≡ zone_of (margin r (entry_at t i)) w h (entry_at t i)
    still i l = edged.before i l ∙ zone i l

    -- a property of all boxes, from that of the zones and of the four
    at-boxes : (P : Entry → Type 0) → ((i : ℕ) → i < n → P (entry_at out i)) → P (entry 0 0 0 (min r.edge w) h)
        → P (entry 0 (w - r.edge) 0 w h) → P (entry 0 0 0 w (min r.edge h)) → P (entry 0 0 (h - r.edge) w h)
        → (i : ℕ) → i < n + 4 → P (entry_at out i)
    at-boxes P zones left right above below i l =
        ⊎_elim (zones i)
        (λ (le : n ≤ i).
        by_cases (ℕ_discrete i n) (λ e. subst P (sym (ap (entry_at out) e ∙ edged.left)) left)
        (λ a.
        by_cases (ℕ_discrete i (n + 1)) (λ e. subst P (sym (ap (entry_at out) e ∙ edged.right)) right)
        (λ b.
        by_cases (ℕ_discrete i (n + 2)) (λ e. subst P (sym (ap (entry_at out) e ∙ edged.above)) above)
        (λ c.
        let e : i ≡ n + 2 + 1 = omega arith in
        subst P (sym (ap (entry_at out) e ∙ edged.below)) below))))
        (lt-or-le i n)

    pub zones-edged : max_boxes * 5 ≤ length out → Zoned (free-by) w h out (n + 4)
    zones-edged room =
        let s = tab.sized in
        record {
          same = fun_ext (λ x. fun_ext (λ y. same_test _ _ (to x y) (from x y)));
          boxes = record {
            len = omega (arith, tab.few);
            few = omega (arith, tab.few);
            width = s.width;
            height = s.height;
            x-order =
                at-boxes (λ e. e.x0 < e.x1) (λ i l. (zone-box out still i l).0) (omega (arith, s.some-width))
                (omega (arith, s.some-width)) s.some-width s.some-width;
            y-order =
                at-boxes (λ e. e.y0 < e.y1) (λ i l. (zone-box out still i l).1) s.some-height s.some-height
                (omega (arith, s.some-height)) (omega (arith, s.some-height));
            x-end =
                at-boxes (λ e. e.x1 ≤ w) (λ i l. (zone-box out still i l).2) (omega arith) (omega arith) (omega arith)
                (omega arith);
            y-end =
                at-boxes (λ e. e.y1 ≤ h) (λ i l. (zone-box out still i l).3) (omega arith) (omega arith) (omega arith)
                (omega arith);
          };
        }
      where
        whole : (size v : ℕ) → v < size → inside 0 size v ≡ true
        whole size v l = inside-yes 0 size v (omega arith) l

        to : (x y : ℕ) → box_free w h (n + 4) out x y ≡ true → free-by x y ≡ true
        to x y f =
            let (lx, ly, clear) = not_covered w h (n + 4) out x y f in
            free-at r w h n t x y lx ly
            (not-near r.edge w x lx
            (off-x _ x y (whole h y ly) (ap (λ (e : Entry). covers e x y) (sym edged.left) ∙ clear n (omega arith)))
            (off-x _ x y (whole h y ly)
            (ap (λ (e : Entry). covers e x y) (sym edged.right) ∙ clear (n + 1) (omega arith))))
            (not-near r.edge h y ly
            (off-y _ x y (whole w x lx)
            (ap (λ (e : Entry). covers e x y) (sym edged.above) ∙ clear (n + 2) (omega arith)))
            (off-y _ x y (whole w x lx)
            (ap (λ (e : Entry). covers e x y) (sym edged.below) ∙ clear (n + 2 + 1) (omega arith))))
            (λ k l. sym (has-zone out still k x y l lx ly) ∙ clear k (omega arith))

        from : (x y : ℕ) → free-by x y ≡ true → box_free w h (n + 4) out x y ≡ true
        from x y f =
            let (lx, ly, ex, ey, clear) = of-free r w h n t x y f in
            let (left, right) = of-not-near r.edge w x lx ex in
            let (above, below) = of-not-near r.edge h y ly ey in
            box-free-at w h (n + 4) out x y lx ly
            (at-boxes (λ e. covers e x y ≡ false) (λ k l. has-zone out still k x y l lx ly ∙ clear k l)
            (off-column _ x y left) (off-column _ x y right) (off-row _ x y above) (off-row _ x y below))

-- what the zones by the rule of a pen leave is free on the layout
pub zoned-free : (w h : ℕ) (p : Pen) (n : ℕ) (t z : List ℕ) (k : ℕ) (r : Rule) → r ≡ pen_rule p
    → Zoned (free_by r w h (map (entry_at t) (range 0 n))) w h z k → Zoned (free (layout_of w h p n t)) w h z k
unfolding layout_of free
zoned-free w h p n t z k r e zoned =
    subst (λ (q : Rule). Zoned (free_by q w h (map (entry_at t) (range 0 n))) w h z k) e zoned

-- and the strips that they leave are those of the layout
pub zoned-strips : (w h : ℕ) (p : Pen) (n : ℕ) (t z : List ℕ) (k : ℕ) → Zoned (free (layout_of w h p n t)) w h z k
    → strips (box_free w h k z) w h ≡ strips_of (layout_of w h p n t)
unfolding strips_of layout_of
zoned-strips w h p n t z k zoned = ap (λ (f : ℕ → ℕ → Bool). strips f w h) zoned.same
