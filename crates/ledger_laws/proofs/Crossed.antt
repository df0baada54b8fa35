-- After every step no patch blocks a point of a leg, and 21 is answered just where one would.
use Prim.Native.Nat.{ℕ, ◌+◌, ◌<◌}
use native.Mathlib.Omega.{arith}
use mathlib.Core.Path.{◌≡◌, refl, sym, ◌∙◌, subst}
use mathlib.Core.Bool.{Bool, true, false}
use mathlib.Core.List.{[], ◌∷◌}
use mathlib.Core.Logic.{◌↔◌}
use mathlib.Core.Option.{some, some-injective, none-ne-some}
use lib.Dec.{eqb}
use borrow.Author.Tests.{eq-eqb, ne_eqb, eqb-true}
use Rattle.foil_spec.specs.Foil.{Entry, entry, Pen, Layout, net_ok, box_ok, entry_ok, meets, crosses}
use Rattle.foil_spec.specs.Foil.{over_leg, under_patch, pen_rule, patch_margin}
use Rattle.foil_spec.specs.Ledger.{Room, Step, draw, put_leg, Answer, refused, first, refusals, reads, next, ◌⇒◌, short}
use Rattle.foil_spec.specs.Ledger.{settle, refusal_of, ledger_step, too_long, is_too_fine}
use Rattle.list_laws.proofs.Tests.{clash, parts}
use Rattle.list_laws.proofs.Members.{In, of-all, in-any, of-any}
use Rattle.ledger_laws.specs.Crossed.{Crosses, NoneCrossed, TurnsPatchDown, TurnsLegDown}
use Rattle.ledger_laws.proofs.Rules.{Keeps, of-ok}
use Rattle.ledger_laws.proofs.Refusals.{own-refused}
use Rattle.ledger_laws.proofs.Crossing.{Full, ok-full, point-meets, meets-point, of-no-crossing}
use Rattle.ledger_laws.proofs.Line.{patch-ok, settled-refused}
use Rattle.ledger_laws.proofs.Moments.{at_every, after-step}
use Rattle.ledger_laws.proofs.Demand3.{goes_on, answer-is}

-- ---- a patch and a leg

module _ (w : Pen) (p e : Entry) where
  pub crosses-yes : Crosses w p e → crosses (patch_margin w) p e ≡ true
  unfolding crosses patch_margin pen_rule
  crosses-yes c =
      let leg = c.leg in
      simp (
        eq-eqb p.net 0 c.patch,
        ne_eqb e.net 0 (λ z. omega arith),
        point-meets (w.half + w.gap) p e c.at c.on-leg c.blocked,
      )

  pub of-crosses : Full p → Full e → crosses (patch_margin w) p e ≡ true → Crosses w p e
  unfolding crosses patch_margin pen_rule
  of-crosses f g h =
      let patch : eqb p.net 0 ≡ true = search parts in
      let leg : eqb e.net 0 ≡ false = search parts in
      let meet : meets (w.half + w.gap) p e ≡ true = search parts in
      let q = meets-point (w.half + w.gap) p e f g meet in
      record {
        patch = eqb-true p.net 0 patch;
        leg = not-zero e.net leg;
        at = q.0;
        on-leg = q.1;
        blocked = q.2;
      }
    where
      not-zero : (n : ℕ) → eqb n 0 ≡ false → 0 < n
      not-zero n h = omega (arith, (let z : n ≡ 0 → ⊥ = λ e. clash (eq-eqb n 0 e) h in z))

-- ---- in a list of calls

pub none-crossed : NoneCrossed
none-crossed m l cs b earlier k later e p x i j cross =
    let shows = after-step m k later (at_every m l cs b earlier k later e) in
    clash (crosses-yes k.ledger_after.pen p x cross)
    (of-no-crossing (patch_margin k.ledger_after.pen) k.ledger_after.entries
    (of-ok k.ledger_after shows.kept).uncrossed p x i j)

-- ---- 21

-- of 21, 10 and 11 in this order the first is answered just where it applies
only-21 : (b c d : Bool) → first ((b ⇒ 21) ∷ (c ⇒ 10) ∷ (d ⇒ 11) ∷ []) ≡ some 21 → b ≡ true
unfolding first
only-21 true c d h = refl
only-21 false true d h = absurd (omega (arith, some-injective 10 21 h))
only-21 false false true h = absurd (omega (arith, some-injective 11 21 h))
only-21 false false false h = absurd (none-ne-some 21 h)

module _ (r : Room) (s : Step) (l : Layout) (b c d : Bool) (long : short r ≡ false)
    (own : first (refusals s r l) ≡ first ((b ⇒ 21) ∷ (c ⇒ 10) ∷ (d ⇒ 11) ∷ [])) where
  own-21 : refusal_of r false s l ≡ first ((b ⇒ 21) ∷ (c ⇒ 10) ∷ (d ⇒ 11) ∷ [])
  own-21 = own-refused r s l false long refl ∙ own

  of-21 : (ledger_step r s l).answer ≡ refused 21 → b ≡ true
  unfolding ledger_step
  of-21 h = only-21 b c d (sym own-21 ∙ settled-refused (refusal_of r false s l) s l _ l 21 (omega arith) h)

  to-21 : b ≡ true → (ledger_step r s l).answer ≡ refused 21
  unfolding ledger_step settle first
  to-21 e = rw (own-21, e) refl

module _ (r : Room) (l : Layout) (keeps : Keeps l) (long : short r ≡ false) where
  full : (e : Entry) → In e l.entries → Full e
  full e i =
      ok-full l.width l.height e (of-all (entry_ok l.width l.height) e l.entries keeps.entries i)

  module _ (x0 y0 x1 y1 : ℕ) (box : box_ok l.width l.height (entry 0 x0 y0 x1 y1) ≡ true) where
    abbrev patch : Entry
    patch = entry 0 x0 y0 x1 y1

    draw-own : first (refusals (draw x0 y0 x1 y1) r l)
        ≡ first ((over_leg (patch_margin l.pen) l.entries patch ⇒ 21)
        ∷ (too_long r (next (draw x0 y0 x1 y1) l) ⇒ 10) ∷ (is_too_fine (next (draw x0 y0 x1 y1) l) ⇒ 11) ∷ [])
    unfolding refusals first
    draw-own = rw box refl

    pub draw-21 : ((ledger_step r (draw x0 y0 x1 y1) l).answer ≡ refused 21)
        ↔ ((e : Entry) × In e l.entries × Crosses l.pen (entry 0 x0 y0 x1 y1) e)
    unfolding over_leg
    draw-21 = (
      λ h.
          let (e, i, c) = of-any (crosses (patch_margin l.pen) patch) l.entries
          (of-21 r (draw x0 y0 x1 y1) l _ _ _ long draw-own h) in (
            e,
            i,
            of-crosses l.pen patch e
                (ok-full l.width l.height patch (patch-ok l.width l.height x0 y0 x1 y1 box)) (full e i) c,
          ),
      λ (e, i, c).
          to-21 r (draw x0 y0 x1 y1) l _ _ _ long draw-own
          (in-any (crosses (patch_margin l.pen) patch) e l.entries i (crosses-yes l.pen patch e c)),
    )

  module _ (e : Entry) (net : net_ok e.net ≡ true) (ok : entry_ok l.width l.height e ≡ true) where
    leg-own : first (refusals (put_leg e) r l)
        ≡ first ((under_patch (patch_margin l.pen) l.entries e ⇒ 21)
        ∷ (too_long r (next (put_leg e) l) ⇒ 10) ∷ (is_too_fine (next (put_leg e) l) ⇒ 11) ∷ [])
    unfolding refusals first
    leg-own = rw (net, ok) refl

    pub leg-21 : ((ledger_step r (put_leg e) l).answer ≡ refused 21)
        ↔ ((p : Entry) × In p l.entries × Crosses l.pen p e)
    unfolding under_patch
    leg-21 = (
      λ h.
          let (p, i, c) = of-any (λ (x : Entry). crosses (patch_margin l.pen) x e) l.entries
          (of-21 r (put_leg e) l _ _ _ long leg-own h) in
          (p, i, of-crosses l.pen p e (full p i) (ok-full l.width l.height e ok) c),
      λ (p, i, c).
          to-21 r (put_leg e) l _ _ _ long leg-own
          (in-any (λ (x : Entry). crosses (patch_margin l.pen) x e) p l.entries i (crosses-yes l.pen p e c)),
    )

pub turns-patch-down : TurnsPatchDown
unfolding reads
turns-patch-down m l cs b earlier k later e x0 y0 x1 y1 s long box =
    let g = (goes_on m k later (draw x0 y0 x1 y1) (at_every m l cs b earlier k later e) s refl).0 in
    subst
    (λ (a : Answer).
    (a ≡ refused 21)
    ↔ ((e : Entry) × In e k.ledger_before.entries × Crosses k.ledger_before.pen (entry 0 x0 y0 x1 y1) e))
    (sym (answer-is m k (draw x0 y0 x1 y1) g s))
    (draw-21 k.room k.ledger_before (of-ok k.ledger_before g.before.kept) long x0 y0 x1 y1 box)

pub turns-leg-down : TurnsLegDown
unfolding reads
turns-leg-down m l cs b earlier k later e x s long net ok =
    let g = (goes_on m k later (put_leg x) (at_every m l cs b earlier k later e) s refl).0 in
    subst
    (λ (a : Answer).
    (a ≡ refused 21)
    ↔ ((p : Entry) × In p k.ledger_before.entries × Crosses k.ledger_before.pen p x))
    (sym (answer-is m k (put_leg x) g s))
    (leg-21 k.room k.ledger_before (of-ok k.ledger_before g.before.kept) long x net ok)
