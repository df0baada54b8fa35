-- A patch blocks a point of a leg where their boxes meet. Where no patch of a row does, none does in a part of the row,
-- nor after the entries that the steps add.
use Prim.Native.Nat.{ℕ, ◌+◌, ◌-◌, ◌≤◌, ◌<◌, max}
use native.Mathlib.Omega.{arith}
use mathlib.Core.Path.{◌≡◌, refl, sym, ap, ◌∙◌}
use mathlib.Core.Bool.{Bool, true, false, not, ◌&&◌}
use mathlib.Core.List.{List, [], ◌∷◌, ◌++◌}
use mathlib.Core.Logic.{inl, inr, ⊎_elim}
use lib.Dec.{leb, ltb, eqb}
use borrow.Author.Tests.{lt-ltb, leb-true, ltb-true, eq-eqb, ne_eqb, eqb-true}
use Rattle.foil_spec.specs.Lists.{all, any, keep}
use Rattle.foil_spec.specs.Foil.{Point, point, Entry, Layout, net_ok, box_ok, entry_ok, within, blocks}
use Rattle.foil_spec.specs.Foil.{meets, crosses, over_leg, under_patch, no_crossing, pen_rule, patch_margin, margin, free_by}
use Rattle.foil_spec.specs.Foil.{free}
use Rattle.foil_spec.specs.Paths.{is_way}
use Rattle.foil_spec.specs.Nets.{of_net}
use Rattle.foil_spec.specs.Ledger.{legs}
use Rattle.list_laws.proofs.Tests.{both, clash, and_l, and_r, and_i, not_f, not_t, parts}
use Rattle.list_laws.proofs.Members.{In, in_left, in_right, in-cases, of-keep, of-all, to-all, not-any, none_of}
use Rattle.zones.proofs.Free.{within-yes, free-inside}
use Rattle.ledger_laws.specs.Apart.{Has}
use Rattle.ledger_laws.proofs.Legs.{legs-ok, legs-free, legs-net}

-- ---- two boxes

-- the box of e is not empty
pub record Full (e : Entry) : Type 0 where
  pub wide : e.x0 < e.x1
  pub high : e.y0 < e.y1

pub ok-full : (W H : ℕ) (e : Entry) → entry_ok W H e ≡ true → Full e
unfolding entry_ok box_ok
ok-full W H e h =
    let a : ltb e.x0 e.x1 ≡ true = search parts depth 9 in
    let b : ltb e.y0 e.y1 ≡ true = search parts depth 9 in
    record { wide = ltb-true e.x0 e.x1 a; high = ltb-true e.y0 e.y1 b }

pub of-within : (lo hi d v : ℕ) → within lo hi d v ≡ true → (lo ≤ v + d) × (v < hi + d)
unfolding within
of-within lo hi d v h = (leb-true lo (v + d) (and_l _ _ h), ltb-true v (hi + d) (and_r (leb lo (v + d)) _ h))

module _ (m : ℕ) (p e : Entry) where
  -- a point of e that p blocks is one by which they meet
  pub point-meets : (q : Point) → Has e q → blocks m p q.x q.y ≡ true → meets m p e ≡ true
  unfolding blocks meets
  point-meets q on b =
      let across = of-within p.x0 p.x1 m q.x (and_l _ _ b) in
      let down = of-within p.y0 p.y1 m q.y (and_r (within p.x0 p.x1 m q.x) _ b) in
      simp (
        lt-ltb e.x0 (p.x1 + m) (omega (arith, across, on.from-x)),
        lt-ltb p.x0 (e.x1 + m) (omega (arith, across, on.to-x)),
        lt-ltb e.y0 (p.y1 + m) (omega (arith, down, on.from-y)),
        lt-ltb p.y0 (e.y1 + m) (omega (arith, down, on.to-y)),
      )

  -- and where boxes that are not empty meet, p blocks a point of e
  pub meets-point : Full p → Full e → meets m p e ≡ true → (q : Point) × Has e q × (blocks m p q.x q.y ≡ true)
  unfolding blocks meets
  meets-point f g h =
      let a : ltb e.x0 (p.x1 + m) ≡ true = search parts in
      let b : ltb p.x0 (e.x1 + m) ≡ true = search parts in
      let c : ltb e.y0 (p.y1 + m) ≡ true = search parts in
      let d : ltb p.y0 (e.y1 + m) ≡ true = search parts in
      let left = ltb-true e.x0 (p.x1 + m) a in
      let right = ltb-true p.x0 (e.x1 + m) b in
      let above = ltb-true e.y0 (p.y1 + m) c in
      let below = ltb-true p.y0 (e.y1 + m) d in
      let fx = f.wide in
      let fy = f.high in
      let gx = g.wide in
      let gy = g.high in (
        point (max e.x0 (p.x0 - m)) (max e.y0 (p.y0 - m)),
        record { from-x = omega arith; to-x = omega arith; from-y = omega arith; to-y = omega arith },
        and_i
            (within-yes p.x0 p.x1 m (max e.x0 (p.x0 - m)) (omega arith) (omega arith))
            (within-yes p.y0 p.y1 m (max e.y0 (p.y0 - m)) (omega arith) (omega arith)),
      )

  -- a leg crosses nothing, and nothing crosses a patch
  pub leg-crosses : eqb p.net 0 ≡ false → crosses m p e ≡ false
  unfolding crosses
  leg-crosses n = simp n

  pub patch-crossed : eqb e.net 0 ≡ true → crosses m p e ≡ false
  unfolding crosses
  patch-crossed n = rw n (both (eqb p.net 0) (λ t. rw t refl) (λ t. rw t refl))

-- ---- rows

module _ (m : ℕ) where
  pub of-no-crossing : (es : List Entry) → no_crossing m es ≡ true → (p e : Entry) → In p es → In e es
      → crosses m p e ≡ false
  unfolding no_crossing under_patch
  of-no-crossing es h p e i j =
      not-any (λ (x : Entry). crosses m x e) p es
      (not_t _ (of-all (λ (y : Entry). not (any (λ (x : Entry). crosses m x y) es)) e es h j)) i

  pub to-no-crossing : (es : List Entry) → ((p e : Entry) → In p es → In e es → crosses m p e ≡ false)
      → no_crossing m es ≡ true
  unfolding no_crossing under_patch
  to-no-crossing es h =
      to-all (λ (y : Entry). not (any (λ (x : Entry). crosses m x y) es)) es
      (λ e j. not_f (none_of (λ (x : Entry). crosses m x e) es (λ p i. h p e i j)))

  pub bare-uncrossed : no_crossing m [] ≡ true
  unfolding no_crossing
  bare-uncrossed = refl

  -- part of such a row
  pub part-uncrossed : (es fs : List Entry) → ((e : Entry) → In e fs → In e es) → no_crossing m es ≡ true
      → no_crossing m fs ≡ true
  part-uncrossed es fs part h = to-no-crossing fs (λ p e i j. of-no-crossing es h p e (part p i) (part e j))

  pub front-uncrossed : (es fs : List Entry) → no_crossing m (es ++ fs) ≡ true → no_crossing m es ≡ true
  front-uncrossed es fs h = part-uncrossed (es ++ fs) es (λ e i. in_left e es fs i) h

  pub keep-uncrossed : (q : Entry → Bool) (es : List Entry) → no_crossing m es ≡ true → no_crossing m (keep q es) ≡ true
  keep-uncrossed q es h = part-uncrossed es (keep q es) (λ e i. (of-keep q e es i).0) h

  -- two such rows, neither of which crosses the other
  module _ (es fs : List Entry) where
    pub append-uncrossed : no_crossing m es ≡ true
        → ((p e : Entry) → In p es → In e fs → crosses m p e ≡ false)
        → ((p e : Entry) → In p fs → In e (es ++ fs) → crosses m p e ≡ false) → no_crossing m (es ++ fs) ≡ true
    append-uncrossed h under over =
        to-no-crossing (es ++ fs)
        (λ p e i j.
        ⊎_elim
        (λ (i' : In p es).
        ⊎_elim (λ (j' : In e es). of-no-crossing es h p e i' j') (λ (j' : In e fs). under p e i' j')
        (in-cases e es fs j))
        (λ (i' : In p fs). over p e i' j)
        (in-cases p es fs i))

  -- a patch that is over no leg
  pub patch-uncrossed : (es : List Entry) (p : Entry) → eqb p.net 0 ≡ true → no_crossing m es ≡ true
      → over_leg m es p ≡ false → no_crossing m (es ++ p ∷ []) ≡ true
  unfolding over_leg
  patch-uncrossed es p n h o = append-uncrossed es (p ∷ []) h under over
    where
      under : (x e : Entry) → In x es → In e (p ∷ []) → crosses m x e ≡ false
      under x e i (inl is) = patch-crossed m x e (ap (λ (y : Entry). eqb y.net 0) is ∙ n)
      under x e i (inr j) = absurd j

      over : (x e : Entry) → In x (p ∷ []) → In e (es ++ p ∷ []) → crosses m x e ≡ false
      over x e (inl is) j =
          ⊎_elim (λ (k : In e es). ap (λ (y : Entry). crosses m y e) is ∙ not-any (crosses m p) e es o k)
          (λ (k : In e (p ∷ [])). last k) (in-cases e es (p ∷ []) j)
        where
          last : In e (p ∷ []) → crosses m x e ≡ false
          last (inl k) = patch-crossed m x e (ap (λ (y : Entry). eqb y.net 0) k ∙ n)
          last (inr k) = absurd k
      over x e (inr i) j = absurd i

  -- legs that are under no patch
  pub legs-uncrossed : (es fs : List Entry) → no_crossing m es ≡ true
      → ((e : Entry) → In e fs → eqb e.net 0 ≡ false)
      → ((p e : Entry) → In p es → In e fs → crosses m p e ≡ false) → no_crossing m (es ++ fs) ≡ true
  legs-uncrossed es fs h legs under =
      append-uncrossed es fs h under (λ p e i j. leg-crosses m p e (legs p i))

  pub leg-uncrossed : (es : List Entry) (e : Entry) → eqb e.net 0 ≡ false → no_crossing m es ≡ true
      → under_patch m es e ≡ false → no_crossing m (es ++ e ∷ []) ≡ true
  unfolding under_patch
  leg-uncrossed es e n h u = legs-uncrossed es (e ∷ []) h named under
    where
      named : (x : Entry) → In x (e ∷ []) → eqb x.net 0 ≡ false
      named x (inl is) = ap (λ (y : Entry). eqb y.net 0) is ∙ n
      named x (inr i) = absurd i

      under : (p x : Entry) → In p es → In x (e ∷ []) → crosses m p x ≡ false
      under p x i (inl is) =
          ap (λ (y : Entry). crosses m p y) is ∙ not-any (λ (y : Entry). crosses m y e) p es u i
      under p x i (inr j) = absurd j

  -- and back: in such a row the last entry is over no leg and under no patch
  pub last-over : (es : List Entry) (p : Entry) → no_crossing m (es ++ p ∷ []) ≡ true → over_leg m es p ≡ false
  unfolding over_leg
  last-over es p h =
      none_of (crosses m p) es
      (λ e i.
      of-no-crossing (es ++ p ∷ []) h p e (in_right p es (p ∷ []) (inl refl)) (in_left e es (p ∷ []) i))

  pub last_under : (es : List Entry) (e : Entry) → no_crossing m (es ++ e ∷ []) ≡ true → under_patch m es e ≡ false
  unfolding under_patch
  last_under es e h =
      none_of (λ (p : Entry). crosses m p e) es
      (λ p i.
      of-no-crossing (es ++ e ∷ []) h p e (in_left p es (e ∷ []) i) (in_right e es (e ∷ []) (inl refl)))

-- ---- what is free is not blocked

pub free-unblocked : (l : Layout) (p : Point) → free l p.x p.y ≡ true → (e : Entry) → In e l.entries
    → blocks (margin (pen_rule l.pen) e) e p.x p.y ≡ false
unfolding free free_by
free-unblocked l p f e i =
    let none-blocks : all (λ (x : Entry). not (blocks (margin (pen_rule l.pen) x) x p.x p.y)) l.entries
    ≡ true = search parts in
    not_t _
    (of-all (λ (x : Entry). not (blocks (margin (pen_rule l.pen) x) x p.x p.y)) e l.entries
    none-blocks i)

pub patch-margin : (l : Layout) (e : Entry) → e.net ≡ 0 → margin (pen_rule l.pen) e ≡ l.pen.half + l.pen.gap
unfolding margin pen_rule
patch-margin l e n = rw (eq-eqb e.net 0 n) refl

-- a track's net is not that of patches
pub net-not-zero : (net : ℕ) → net_ok net ≡ true → eqb net 0 ≡ false
unfolding net_ok
net-not-zero net n =
    let one : leb 1 net ≡ true = search parts in
    ne_eqb net 0 (λ z. omega (arith, leb-true 1 net one))

pub patch-not-of : (net : ℕ) → net_ok net ≡ true → (p : Entry) → eqb p.net 0 ≡ true → of_net net p ≡ false
unfolding of_net
patch-not-of net n p patch =
    rw (eqb-true p.net 0 patch) (ne_eqb 0 net (λ z. clash (eq-eqb net 0 (sym z)) (net-not-zero net n)))

-- no patch crosses a leg of a way over free points
module _ (l : Layout) (ok : all (entry_ok l.width l.height) l.entries ≡ true) (net : ℕ) (n : net_ok net ≡ true)
    (cs : List Point) (w : is_way (free l) cs ≡ true) where
  way-under : (p e : Entry) → In p l.entries → In e (legs net cs) → crosses (patch_margin l.pen) p e ≡ false
  unfolding crosses patch_margin pen_rule
  way-under p e i j =
      both (eqb p.net 0 && not (eqb e.net 0) && meets (l.pen.half + l.pen.gap) p e)
      (λ c.
      let patch : eqb p.net 0 ≡ true = search parts in
      let meet : meets (l.pen.half + l.pen.gap) p e ≡ true = search parts in
      let at = meets-point (l.pen.half + l.pen.gap) p e
      (ok-full l.width l.height p (of-all (entry_ok l.width l.height) p l.entries ok i))
      (ok-full l.width l.height e
      (of-all (entry_ok l.width l.height) e (legs net cs)
      (legs-ok l.width l.height net n (free l) (free-inside l) cs w) j))
      meet in
      clash at.2
      (ap (λ (d : ℕ). blocks d p at.0.x at.0.y) (sym (patch-margin l p (eqb-true p.net 0 patch)))
      ∙ free-unblocked l at.0 (legs-free (free l) net cs w e j at.0 at.1) p i))
      (λ c. c)

  -- so it may be added to any row whose patches are all on the foil
  pub way-uncrossed : (es : List Entry) → ((p : Entry) → In p es → eqb p.net 0 ≡ true → In p l.entries)
      → no_crossing (patch_margin l.pen) es ≡ true → no_crossing (patch_margin l.pen) (es ++ legs net cs) ≡ true
  way-uncrossed es patches h =
      legs-uncrossed (patch_margin l.pen) es (legs net cs) h
      (λ e i. ap (λ (k : ℕ). eqb k 0) (legs-net net cs e i) ∙ net-not-zero net n)
      (λ p e i j.
      both (eqb p.net 0) (λ t. way-under p e (patches p i t) j) (λ t. leg-crosses (patch_margin l.pen) p e t))
