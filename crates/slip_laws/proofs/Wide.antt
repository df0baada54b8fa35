-- No number that a foil can hold is too wide for its columns.
use Prim.Native.Nat.{ℕ, zero, suc, ◌*◌, ◌≤◌}
use native.Mathlib.Omega.{arith}
use mathlib.Core.Path.{◌≡◌, refl}
use mathlib.Core.Bool.{Bool, true, false, ◌||◌, ◌&&◌}
use mathlib.Core.List.{List, [], ◌∷◌}
use mathlib.Core.Logic.{⊎_elim}
use lib.Dec.{leb, eqb}
use lib.ListN.{length}
use borrow.Author.Tests.{eqb-true, ne_eqb, leb-true}
use Rattle.foil_spec.specs.Lists.{keep, cons_if, all}
use Rattle.foil_spec.specs.Limits.{max_entries}
use Rattle.foil_spec.specs.Foil.{Entry, net_ok, box_ok, shape_ok, entry_ok}
use Rattle.foil_spec.specs.Nets.{of_net, legs_of, leg_steps, steps_of, net_length, first_point}
use Rattle.list_laws.proofs.Tests.{and_l, and_r, or_cases, all_keep}
use Rattle.ledger_laws.proofs.Rules.{of-ok}
use Rattle.nets.proofs.Measuring.{box_of, size-most, few-legs}
use Rattle.slip_laws.specs.Page.{NoneTooWide}

-- an entry that is no patch has a net of tracks, and goes one way only
leg-shape : (e : Entry) → shape_ok e ≡ true → 1 ≤ e.net
    → (net_ok e.net && (eqb e.x1 (suc e.x0) || eqb e.y1 (suc e.y0))) ≡ true
unfolding shape_ok
leg-shape e ok n = rw (ne_eqb e.net 0 (λ z. omega arith)) at ok

pub net-most : (W H net : ℕ) (e : Entry) → entry_ok W H e ≡ true → of_net net e ≡ true → net ≤ 999
unfolding entry_ok net_ok of_net
net-most W H zero e ok own = omega arith
net-most W H (suc net) e ok own =
    let same : e.net ≡ suc net = eqb-true e.net (suc net) own in
    let leg = leg-shape e (and_r (box_ok W H e) _ ok) (omega arith) in
    let few : leb e.net 999 ≡ true = and_r (leb 1 e.net) _ (and_l _ _ leg) in
    omega (arith, leb-true e.net 999 few)

module _ (W H : ℕ) (wide : W ≤ 4096) (high : H ≤ 4096) where
  leg-steps : (e : Entry) → entry_ok W H e ≡ true → 1 ≤ e.net → leg_steps e ≤ 4095
  unfolding leg_steps entry_ok
  leg-steps e ok n =
      let b = box_of W H e wide high ok in
      ⊎_elim
      (λ (s : eqb e.x1 (suc e.x0) ≡ true).
      let q = eqb-true e.x1 (suc e.x0) s in omega (arith, b.y-end, b.x-order))
      (λ (s : eqb e.y1 (suc e.y0) ≡ true).
      let q = eqb-true e.y1 (suc e.y0) s in omega (arith, b.x-end, b.y-order))
      (or_cases _ _ (and_r (net_ok e.net) _ (leg-shape e (and_r (box_ok W H e) _ ok) n)))

  -- a point of an entry
  first-low : (ls : List Entry) → all (entry_ok W H) ls ≡ true
      → ((first_point ls).x ≤ 4095) × ((first_point ls).y ≤ 4095)
  unfolding first_point
  first-low [] ok = (omega arith, omega arith)
  first-low (e ∷ ls) ok =
      let b = box_of W H e wide high (and_l (entry_ok W H e) _ ok) in
      (omega (arith, b.x-order, b.x-end), omega (arith, b.y-order, b.y-end))

  more-steps : (b : Bool) (e : Entry) (ls : List Entry) → (b ≡ true → leg_steps e ≤ 4095)
      → steps_of ls ≤ length ls * 4095 → steps_of (cons_if b e ls) ≤ length (cons_if b e ls) * 4095
  unfolding steps_of
  more-steps true e ls s h = let l = s refl in omega arith
  more-steps false e ls s h = h

  few-steps : (net : ℕ) → 1 ≤ net → (es : List Entry) → all (entry_ok W H) es ≡ true
      → steps_of (legs_of net es) ≤ length (legs_of net es) * 4095
  unfolding legs_of steps_of of_net
  few-steps net n [] ok = omega arith
  few-steps net n (e ∷ es) ok =
      more-steps (of_net net e) e (keep (of_net net) es)
      (λ (s : of_net net e ≡ true).
      let q = eqb-true e.net net s in leg-steps e (and_l (entry_ok W H e) _ ok) (omega arith))
      (few-steps net n es (and_r (entry_ok W H e) _ ok))

pub none-too-wide : NoneTooWide
unfolding legs_of net_length
none-too-wide l net ok low high =
    let g = of-ok l ok in
    let w = size-most l.width g.width in
    let h = size-most l.height g.height in
    let legs : List Entry = legs_of net l.entries in
    let point = first-low l.width l.height w h legs (all_keep _ (of_net net) l.entries g.entries) in
    let few = few-legs net l.entries in
    let most = leb-true (length l.entries) max_entries g.long in
    let s = few-steps l.width l.height w h net low l.entries g.entries in
    record {
      net-below = omega arith;
      legs-below = omega arith;
      length-below = omega arith;
      x_below = omega (arith, point.0);
      y-below = omega (arith, point.1);
    }
