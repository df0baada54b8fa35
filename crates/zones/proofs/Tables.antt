-- Entries that the rules allow, on a foil and with a pen within their limits, make a table whose zones can be told.
use Prim.Native.Nat.{ℕ, ◌*◌, ◌≤◌, ◌<◌}
use native.Mathlib.Omega.{arith}
use mathlib.Core.Path.{◌≡◌}
use mathlib.Core.Bool.{true}
use mathlib.Core.List.{List, map}
use lib.Dec.{leb, ltb}
use lib.ListN.{length}
use borrow.Author.Tests.{leb-true, ltb-true}
use Rattle.foil_spec.specs.Lists.{range, all}
use Rattle.foil_spec.specs.Limits.{max_entries}
use Rattle.foil_spec.specs.Foil.{Entry, Pen, Rule, size_ok, reach_ok, pen_ok, box_ok, entry_ok, pen_rule, reach_rule}
use Rattle.foil_spec.specs.Lent.{entry_at}
use Rattle.list_laws.proofs.Tests.{and_l, and_r, parts}
use Rattle.list_laws.proofs.Members.{at_place}
use Rattle.zones.specs.Table.{Small, Sized, Table}

-- an entry that the rules allow is on the foil
record OnFoil (w h : ℕ) (e : Entry) : Type 0 where
  x-order : e.x0 < e.x1
  y-order : e.y0 < e.y1
  x-end : e.x1 ≤ w
  y-end : e.y1 ≤ h

on-foil : (w h : ℕ) (e : Entry) → entry_ok w h e ≡ true → OnFoil w h e
unfolding entry_ok box_ok
on-foil w h e ok =
    let a : ltb e.x0 e.x1 ≡ true = search parts in
    let b : ltb e.y0 e.y1 ≡ true = search parts in
    let c : leb e.x1 w ≡ true = search parts in
    let d : leb e.y1 h ≡ true = search parts in
    record {
      x-order = ltb-true _ _ a;
      y-order = ltb-true _ _ b;
      x-end = leb-true _ _ c;
      y-end = leb-true _ _ d;
    }

pub table_of : (t : List ℕ) (n : ℕ) (r : Rule) (w h : ℕ) → n ≤ max_entries → n * 5 ≤ length t → Small r → Sized w h
    → all (entry_ok w h) (map (entry_at t) (range 0 n)) ≡ true → Table t n r w h
table_of t n r w h few len small sized ok =
    record {
      len = len;
      few = few;
      small = small;
      sized = sized;
      x-order = λ k l. (at k l).x-order;
      y-order = λ k l. (at k l).y-order;
      x-end = λ k l. (at k l).x-end;
      y-end = λ k l. (at k l).y-end;
    }
  where
    at : (k : ℕ) → k < n → OnFoil w h (entry_at t k)
    at k l = on-foil w h (entry_at t k) (at_place (entry_ok w h) (entry_at t) n ok k l)

-- the rule of a pen within its limits
pub pen-small : (p : Pen) → pen_ok p ≡ true → Small (pen_rule p)
unfolding pen_ok pen_rule
pen-small p ok =
    let a : leb p.half 7 ≡ true = search parts in
    let b : leb p.gap 15 ≡ true = search parts in
    let half = leb-true p.half 7 a in
    let gap = leb-true p.gap 15 b in
    record { patch = omega (arith, half, gap); leg = omega (arith, half, gap); edge = omega (arith, half, gap) }

-- document 01's rule of a reach within its limits
pub reach-small : (d : ℕ) → reach_ok d ≡ true → Small (reach_rule d)
unfolding reach_ok reach_rule
reach-small d ok =
    let few = leb-true d 15 ok in
    record { patch = omega (arith, few); leg = omega (arith, few); edge = omega arith }

-- a foil within its limits
pub foil-sized : (w h : ℕ) → size_ok w ≡ true → size_ok h ≡ true → Sized w h
unfolding size_ok
foil-sized w h okw okh =
    record {
      some-width = leb-true 1 w (and_l _ _ okw);
      some-height = leb-true 1 h (and_l _ _ okh);
      width = leb-true w 4096 (and_r (leb 1 w) _ okw);
      height = leb-true h 4096 (and_r (leb 1 h) _ okh);
    }
