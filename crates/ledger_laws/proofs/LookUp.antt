-- A look up answers the place of the one strip that holds the point.
use Prim.Native.Nat.{ℕ, zero, suc, ◌+◌, ◌*◌, ◌≤◌, ◌<◌}
use native.Mathlib.Omega.{arith}
use mathlib.Core.Path.{◌≡◌, refl, sym, ap, ◌∙◌, subst}
use mathlib.Core.Bool.{true, false}
use mathlib.Core.List.{List, map}
use mathlib.Core.Logic.{⊎_elim}
use mathlib.Core.Option.{Option, none, some}
use lib.Dec.{ltb}
use lib.ListN.{get_or}
use borrow.Author.Tests.{ltb-true}
use Rattle.foil_spec.specs.Lists.{range}
use Rattle.foil_spec.specs.Limits.{max_strips}
use Rattle.foil_spec.specs.Foil.{Point, Layout, free}
use Rattle.foil_spec.specs.Strips.{Strip, holds, place_of}
use Rattle.foil_spec.specs.Ledger.{strips_of, blocked, Room, look_up, found, says, next, first, reads, refusals}
use Rattle.foil_spec.specs.Ledger.{settle, refusal_of, ledger_step}
use Rattle.foil_spec.specs.Lent.{Lent, listed_strip, listed_strips}
use Rattle.list_laws.proofs.Tests.{not-ff, lt-or-le, parts}
use Rattle.zones.proofs.Free.{free-inside}
use Rattle.strip_laws.specs.Rules.{strip_before}
use Rattle.strip_laws.proofs.Strips.{not-before-itself}
use Rattle.strip_laws.proofs.Laws.{in-one-only, found-strip}
use Rattle.ledger_laws.specs.Demand2.{StripsRight}
use Rattle.ledger_laws.specs.LookUp.{OnlyPlace, LooksUp}
use Rattle.ledger_laws.proofs.Refusals.{none-applies, unrefused-own}
use Rattle.ledger_laws.proofs.Moments.{Shows, at_every}
use Rattle.ledger_laws.proofs.Demand2.{counted, listed, in_list, strips-right}
use Rattle.ledger_laws.proofs.Demand3.{goes_on, answer-is}

-- what the places below n give, by place
get_d-from : {A : Type 0} (g : ℕ → A) (d : A) (n a i : ℕ) → i < n → get_or (map g (range a n)) i d ≡ g (a + i)
get_d-from g d zero a i l = absurd (omega arith)
get_d-from g d (suc n) a zero l = ap g (let e : a ≡ a + 0 = omega arith in e)
get_d-from g d (suc n) a (suc i) l =
    get_d-from g d n (suc a) i (omega arith) ∙ ap g (let e : suc a + i ≡ a + suc i = omega arith in e)

get_d-places : {A : Type 0} (g : ℕ → A) (d : A) (n i : ℕ) → i < n → get_or (map g (range 0 n)) i d ≡ g i
get_d-places g d n i l = get_d-from g d n 0 i l ∙ ap g (let e : 0 + i ≡ i = omega arith in e)

settled-found : {A : Type 0} (o : Option ℕ) (i j : ℕ) (new old : A)
    → (settle o (record { answer = found i; state = new }) old).answer ≡ found j → (o ≡ none) × (i ≡ j)
unfolding settle
settled-found none i j new old h = (refl, cc)
settled-found (some x) i j new old h = absurd (let z : ◌≡◌ {A = ℕ} 0 1 = cc in omega arith)

-- where the ledger answers a place, the point is free and the place is that of the first strip that holds it
ledger-found : (r : Room) (l : Layout) (p : Point) (i : ℕ) → (ledger_step r (look_up p) l).answer ≡ found i
    → (free l p.x p.y ≡ true) × (place_of p (strips_of l) ≡ i)
unfolding ledger_step says next refusals blocked
ledger-found r l p i h =
    let a = settled-found (refusal_of r false (look_up p) l) _ i l l h in
    let own : first (refusals (look_up p) r l) ≡ none = unrefused-own r (look_up p) l false a.0 in
    (not-ff _ (search none-applies), a.1)

-- a place of zeros holds nothing
zeros-hold-none : (s : Strip) (p : Point) → s.x1 ≡ 0 → holds p s ≡ true → ⊥
unfolding holds
zeros-hold-none s p z h =
    let b : ltb p.x s.x1 ≡ true = search parts in
    omega (arith, ltb-true p.x s.x1 b)

module _ (m : Lent) (l : Layout) (n : Lent) (s : Shows m l n) (p : Point) (i : ℕ) (f : free l p.x p.y ≡ true)
    (is : place_of p (strips_of l) ≡ i) where
  right : StripsRight l n
  right = strips-right m l n s

  -- the strip at a place
  abbrev at : ℕ → Strip
  at j = listed_strip n.strips j

  place-counted : i < n.board.strips
  unfolding strips_of
  place-counted =
      let on = free-inside l p.x p.y f in
      omega (arith, (found-strip (free l) l.width l.height p (at 0) on.0 on.1 f).0, is, counted m l n s)

  place-holds : holds p (at i) ≡ true
  unfolding strips_of listed_strips
  place-holds =
      let on = free-inside l p.x p.y f in
      let k = (found-strip (free l) l.width l.height p (at 0) on.0 on.1 f).1 in
      let e : get_or (strips_of l) i (at 0) ≡ at i =
      ap (λ (ss : List Strip). get_or ss i (at 0)) (sym (listed m l n s))
      ∙ get_d-places at (at 0) n.board.strips i place-counted in
      subst (λ (t : Strip). holds p t ≡ true) e
      (subst (λ (j : ℕ). holds p (get_or (strips_of l) j (at 0)) ≡ true) is k)

  -- two places that are counted hold it only if they are one
  one_place : (j k : ℕ) → j < k → k < n.board.strips → holds p (at j) ≡ true → holds p (at k) ≡ true → ⊥
  unfolding strips_of
  one_place j k lt le a b =
      let same =
      in-one-only (free l) l.width l.height p (at j) (at k) (in_list m l n s j (omega arith))
      (in_list m l n s k le) a b in
      not-before-itself (at k)
      (subst (λ (t : Strip). strip_before t (at k) ≡ true) same (right.in_order j k lt le))

  past-none : (j : ℕ) → n.board.strips ≤ j → j < max_strips → holds p (at j) ≡ true → ⊥
  unfolding listed_strip
  past-none j ge lt h = zeros-hold-none (at j) p (right.zeros (j * 4 + 2) (omega arith) (omega arith)) h

  only-place : OnlyPlace n p i
  only-place =
      record {
        counted = place-counted;
        there = place-holds;
        only = λ j lt h.
            ⊎_elim
            (λ (c : j < n.board.strips).
            ⊎_elim (λ (a : j < i). absurd (one_place j i a place-counted h place-holds))
            (λ (a : i ≤ j).
            ⊎_elim (λ (b : i < j). absurd (one_place i j b c place-holds h)) (λ (b : j ≤ i). omega arith)
            (lt-or-le i j))
            (lt-or-le j i))
            (λ (c : n.board.strips ≤ j). absurd (past-none j c lt h))
            (lt-or-le j n.board.strips);
      }

pub looks-up : LooksUp
unfolding reads
looks-up m l cs b earlier k later e p i s h =
    let g = (goes_on m k later (look_up p) (at_every m l cs b earlier k later e) s refl).0 in
    let a = ledger-found k.room k.ledger_before p i (sym (answer-is m k (look_up p) g s) ∙ h) in
    only-place m k.ledger_before k.before g.before p i a.0 a.1
