-- A net's legs and their steps, one entry a turn.
use Prim.Native.Nat.{ℕ, ◌+◌, ◌*◌, ◌≤◌, ◌<◌}
use native.Mathlib.Omega.{arith}
use native.Mathlib.Nat.{zero-add}
use native.Mathlib.Numerals.{add-one}
use mathlib.Core.Path.{◌≡◌, refl, sym, ap, ◌∙◌, subst}
use mathlib.Core.Bool.{Bool, true, false, ◌||◌}
use mathlib.Core.List.{List, [], ◌∷◌, ◌++◌, map, append-nil}
use lib.ListN.{length, length-append}
use lib.Dec.{leb, ltb}
use borrow.Author.Tests.{eq-eqb, ne_eqb, ltb-true, leb-true}
use Rattle.foil_spec.specs.Lists.{range, keep, cons_if, any, all}
use Rattle.foil_spec.specs.Limits.{max_entries}
use Rattle.foil_spec.specs.Foil.{Entry, size_ok, box_ok, entry_ok}
use Rattle.foil_spec.specs.Lent.{lent, entry_at, layout_of, held, sound}
use Rattle.foil_spec.specs.declared.Board.{Board}
use Rattle.list_laws.proofs.Tests.{clash, parts, and_l, and_r}
use Rattle.list_laws.proofs.Members.{length-keep, keep_append, map_last, at_place}
use Rattle.ledger_laws.proofs.Rules.{of-ok}
use Rattle.ledger_laws.proofs.Sound.{Sound, of-sound, sound-long}
use Rattle.foil_spec.specs.Nets.{of_net, in_use, legs_of, leg_steps, steps_of}
use Rattle.nets.specs.Measured.{Box, Boxes, legs_to, Measured}
use Rattle.nets.specs.declared.Track.{Track}

steps-append : (es ds : List Entry) → steps_of (es ++ ds) ≡ steps_of es + steps_of ds
unfolding steps_of
steps-append [] ds = sym (zero-add (steps_of ds))
steps-append (e ∷ es) ds = omega (arith, steps-append es ds)

pub steps-most : (e : Entry) → Box e → leg_steps e ≤ 8190
unfolding leg_steps
steps-most e b = omega (arith, b.x-end, b.y-end)

module _ (t : List ℕ) (k net : ℕ) where
  one_more : legs_to t (k + 1) net ≡ legs_to t k net ++ legs_of net (entry_at t k ∷ [])
  unfolding legs_to legs_of
  one_more =
      ap (λ (n : ℕ). keep (of_net net) (map (entry_at t) (range 0 n))) (add-one k)
      ∙ ap (λ (es : List Entry). keep (of_net net) es) (map_last (entry_at t) 0 k)
      ∙ keep_append (of_net net) (map (entry_at t) (range 0 k)) (entry_at t (0 + k) ∷ [])
      ∙ ap (λ (n : ℕ). keep (of_net net) (map (entry_at t) (range 0 k)) ++ keep (of_net net) (entry_at t n ∷ []))
      (zero-add k)

  other : ((entry_at t k).net ≡ net → ⊥) → legs_to t (k + 1) net ≡ legs_to t k net
  unfolding legs_of of_net
  other n = one_more ∙ rw (ne_eqb (entry_at t k).net net n) (append-nil (legs_to t k net))

  its_own : (entry_at t k).net ≡ net → legs_to t (k + 1) net ≡ legs_to t k net ++ entry_at t k ∷ []
  unfolding legs_of of_net
  its_own e = one_more ∙ rw (eq-eqb (entry_at t k).net net e) refl

  module _ (r : Track) (o : Measured t k net r) where
    pub measured-skip : ((entry_at t k).net ≡ net → ⊥) → Measured t (k + 1) net r
    measured-skip n =
        record {
          legs = o.legs ∙ ap (λ (es : List Entry). length es) (sym (other n));
          steps = o.steps ∙ ap steps_of (sym (other n));
          few = omega (arith, o.few);
          short = omega (arith, o.short);
        }

    pub measured-more : (n : ℕ) → (entry_at t k).net ≡ net → Box (entry_at t k) → n ≡ leg_steps (entry_at t k)
        → Measured t (k + 1) net (record { legs = r.legs + 1; steps = r.steps + n })
    unfolding steps_of leg_steps
    measured-more n e b q =
        record {
          legs =
              omega (
                arith,
                o.legs,
                ap (λ (es : List Entry). length es) (its_own e),
                length-append (legs_to t k net) (entry_at t k ∷ []),
              );
          steps =
              omega (
                arith,
                o.steps,
                ap steps_of (its_own e),
                steps-append (legs_to t k net) (entry_at t k ∷ []),
              );
          few = omega (arith, o.few);
          short = omega (arith, o.short, b.x-end, b.y-end);
        }

pub measured-none : (t : List ℕ) (net : ℕ) (r : Track) → r.legs ≡ 0 → r.steps ≡ 0 → Measured t 0 net r
unfolding legs_to legs_of steps_of
measured-none t net r p q = record { legs = p; steps = q; few = omega arith; short = omega arith }

pub measured-done : (t : List ℕ) (net n k : ℕ) (r : Track) → n ≤ k → k ≤ n → Measured t k net r → Measured t n net r
measured-done t net n k r a b o =
    let e : k ≡ n = omega arith in
    subst (λ (i : ℕ). Measured t i net r) e o

-- a net that is in use has a leg
pick : (b rest : Bool) (e : Entry) (xs : List Entry) → (rest ≡ true → 0 < length xs) → (b || rest) ≡ true
    → 0 < length (cons_if b e xs)
pick true rest e xs h u = omega arith
pick false rest e xs h u = h u

pub used-leg : (net : ℕ) (es : List Entry) → in_use net es ≡ true → 0 < length (legs_of net es)
unfolding in_use legs_of
used-leg net [] u = clash u refl
used-leg net (e ∷ es) u =
    pick (of_net net e) (any (of_net net) es) e (keep (of_net net) es)
    (λ (h : any (of_net net) es ≡ true). used-leg net es h) u

-- entries that a table may hold
pub box_of : (W H : ℕ) (e : Entry) → W ≤ 4096 → H ≤ 4096 → entry_ok W H e ≡ true → Box e
unfolding entry_ok box_ok
box_of W H e w h o =
    let a : ltb e.x0 e.x1 ≡ true = search parts in
    let b : leb e.x1 W ≡ true = search parts in
    let c : ltb e.y0 e.y1 ≡ true = search parts in
    let d : leb e.y1 H ≡ true = search parts in
    record {
      x-order = ltb-true e.x0 e.x1 a;
      y-order = ltb-true e.y0 e.y1 c;
      x-end = omega (arith, leb-true e.x1 W b);
      y-end = omega (arith, leb-true e.y1 H d);
    }

pub boxes-of : (t : List ℕ) (n W H : ℕ) → n * 5 ≤ length t → n ≤ max_entries → W ≤ 4096 → H ≤ 4096
    → all (entry_ok W H) (map (entry_at t) (range 0 n)) ≡ true → Boxes t n
boxes-of t n W H l few w h o =
    record {
      len = l;
      few = few;
      box = λ k i. box_of W H (entry_at t k) w h (at_place (entry_ok W H) (entry_at t) n o k i);
    }

-- those of a table that keeps the rules are on the foil
pub size-most : (n : ℕ) → size_ok n ≡ true → n ≤ 4096
unfolding size_ok
size-most n h = leb-true n 4096 (and_r (leb 1 n) (leb n 4096) h)

pub sound-boxes : (b : Board) (t s : List ℕ) → sound (lent b t s) ≡ true → Boxes t b.entries
unfolding held layout_of
sound-boxes b t s g =
    let facts : Sound (lent b t s) = of-sound (lent b t s) g in
    let k = of-ok (held (lent b t s)) facts.kept in
    boxes-of t b.entries b.width b.height (omega (arith, (sound-long (lent b t s) g).table, facts.few))
    facts.few (size-most b.width k.width) (size-most b.height k.height) k.entries

-- ---- how many they are

pub few-legs : (net : ℕ) (es : List Entry) → length (legs_of net es) ≤ length es
unfolding legs_of
few-legs net es = length-keep (of_net net) es

pub few-steps : (W H : ℕ) (es : List Entry) → W ≤ 4096 → H ≤ 4096 → all (entry_ok W H) es ≡ true
    → steps_of es ≤ length es * 8190
unfolding steps_of leg_steps
few-steps W H [] w h o = omega arith
few-steps W H (e ∷ es) w h o =
    let b : Box e = box_of W H e w h (and_l (entry_ok W H e) _ o) in
    let r = few-steps W H es w h (and_r (entry_ok W H e) _ o) in
    omega (arith, b.x-end, b.y-end)
