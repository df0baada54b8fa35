-- On the ledger join answers 9 exactly where no path leads to the net, and appends the legs of the first one; lift
-- takes the net whole.
use Prim.Native.Nat.{ℕ, suc, ◌+◌, ◌-◌, ◌≤◌, ◌<◌, min, max}
use native.Mathlib.Omega.{arith}
use mathlib.Core.Path.{◌≡◌, refl, sym, ap, ap₂, ◌∙◌, subst}
use mathlib.Core.Bool.{Bool, true, false, not, cond}
use mathlib.Core.List.{List, [], ◌∷◌, ◌++◌, append-nil}
use mathlib.Core.Option.{none, some}
use mathlib.Core.Logic.{◌↔◌}
use lib.Dec.{ltb}
use lib.ListN.{length, length-append}
use Rattle.foil_spec.specs.Lists.{keep, any}
use Rattle.foil_spec.specs.Foil.{Point, Entry, Layout, net_ok}
use Rattle.foil_spec.specs.Paths.{gap, is_path_to, bends, steps_from, path_length}
use Rattle.foil_spec.specs.Nets.{of_net, in_use, legs_of, leg_steps, steps_of, net_length, net_bends}
use Rattle.foil_spec.specs.Ledger.{no_path, leg, legs_from, legs, with_entries, off_foil, Room, short, corner_room}
use Rattle.foil_spec.specs.Ledger.{without, free_for, on_legs, on_net, join_of, join_corners, too_long, is_too_fine, next, says}
use Rattle.foil_spec.specs.Ledger.{◌⇒◌, first, refusals, after_lent, settle, refusal_of, ledger_step}
use Rattle.foil_spec.specs.Ledger.{lift, join, refused, accepted, laid}
use Rattle.list_laws.proofs.Tests.{or-il, not-ff, both}
use Rattle.list_laws.proofs.Members.{keep_append}
use Rattle.path_laws.specs.First.{IsFirst}
use Rattle.path_laws.proofs.Laws.{gives-first, gives_none, none_is}
use Rattle.path_laws.proofs.Ends.{path-ends, first_ends}
use Rattle.zones.proofs.Free.{free-inside}
use Rattle.ledger_laws.specs.Joins.{MayJoin}
use Rattle.ledger_laws.proofs.Refusals.{none-applies, unrefused-own}
use Rattle.ledger_laws.proofs.Legs.{length-legs}
use Rattle.ledger_laws.proofs.Line.{settled-refused}
use Rattle.ledger_laws.proofs.Lay.{free_on, only-9, settled-laid, path-is, leg-net, keep-none}

-- ---- 9

module _ (net : ℕ) (l : Layout) where
  -- a point that is free for the net is on the foil
  pub for-inside : (x y : ℕ) → free_for net l x y ≡ true → (x < l.width) × (y < l.height)
  unfolding free_for
  for-inside = free-inside (without net l)

  for-on : (p : Point) → free_for net l p.x p.y ≡ true → off_foil l p ≡ false
  unfolding free_for off_foil
  for-on p h = free_on (without net l) p h

  -- the end of a join need not be asked to be free
  pub join-ends : (S : Point) (cs : List Point)
      → is_path_to (free_for net l) S (on_net net l) cs ≡ is_path_to (free_for net l) S (on_legs net l) cs
  unfolding on_net
  join-ends S cs = path-ends (free_for net l) (on_legs net l) S cs

  pub join_first : (S : Point) (cs : List Point) → IsFirst (free_for net l) S (on_net net l) cs
      → IsFirst (free_for net l) S (on_legs net l) cs
  unfolding on_net
  join_first S cs = first_ends (free_for net l) (on_legs net l) S cs

  -- no path to the net
  abbrev NoPath : Point → Type 0
  NoPath S = (cs : List Point) → is_path_to (free_for net l) S (on_legs net l) cs ≡ true → ⊥

  none-join : (S : Point) → join_of net l S ≡ none → NoPath S
  unfolding join_of
  none-join S e cs p =
      gives_none (free_for net l) l.width l.height for-inside S (on_net net l) e cs (join-ends S cs ∙ p)

  join-none : (S : Point) → NoPath S → join_of net l S ≡ none
  unfolding join_of
  join-none S h =
      none_is (free_for net l) l.width l.height for-inside S (on_net net l)
      (λ cs p. h cs (sym (join-ends S cs) ∙ p))

-- where the table and the strip list are long enough and the state keeps the rules, the refusals of such a join are
-- those from 9 on
pub join-from-9 : (r : Room) (broken : Bool) (l : Layout) (net : ℕ) (S : Point) → short r ≡ false → broken ≡ false
    → MayJoin l net S
    → refusal_of r broken (join net S) l
    ≡ first (
    (no_path (join_of net l S) ⇒ 9)
    ∷ (ltb (corner_room r) (length (join_corners net l S)) ⇒ 12)
    ∷ (too_long r (next (join net S) l) ⇒ 10)
    ∷ (is_too_fine (next (join net S) l) ⇒ 11)
    ∷ [])
unfolding refusal_of after_lent refusals first
join-from-9 r broken l net S long fine k =
    rw (long, fine, k.allowed, k.used, for-on net l S k.start-free, k.start-free) refl

module _ (r : Room) (l : Layout) (net : ℕ) (S : Point) (long : short r ≡ false) (k : MayJoin l net S) where
  answers-9 : join_of net l S ≡ none → (ledger_step r (join net S) l).answer ≡ refused 9
  unfolding ledger_step settle first no_path
  answers-9 e = rw (join-from-9 r false l net S long refl k, e) refl

  -- the ledger answers 9 exactly when there is no path
  pub ledger-9 : ((ledger_step r (join net S) l).answer ≡ refused 9)
      ↔ ((cs : List Point) → is_path_to (free_for net l) S (on_legs net l) cs ≡ true → ⊥)
  unfolding ledger_step
  ledger-9 = (
    λ h.
        let e = settled-refused (refusal_of r false (join net S) l) (join net S) l _ l 9 (omega arith) h in
        none-join net l S (only-9 (join_of net l S) _ _ _ (sym (join-from-9 r false l net S long refl k) ∙ e)),
    λ h. answers-9 (join-none net l S h),
  )

-- ---- the track

-- what a join that is not refused has passed
pub record Passed (r : Room) (l : Layout) (net : ℕ) (S : Point) : Type 0 where
  pub allowed : net_ok net ≡ true
  pub used : in_use net l.entries ≡ true
  pub on-foil : off_foil l S ≡ false
  pub clear : free_for net l S.x S.y ≡ true
  pub some-path : no_path (join_of net l S) ≡ false
  pub room : ltb (corner_room r) (length (join_corners net l S)) ≡ false
  pub short-enough : too_long r (next (join net S) l) ≡ false
  pub coarse-enough : is_too_fine (next (join net S) l) ≡ false

pub passed : (r : Room) (l : Layout) (net : ℕ) (S : Point) → first (refusals (join net S) r l) ≡ none
    → Passed r l net S
unfolding refusals
passed r l net S h =
    record {
      allowed = not-ff (net_ok net) (search none-applies);
      used = not-ff (in_use net l.entries) (search none-applies);
      on-foil = search none-applies;
      clear = not-ff (free_for net l S.x S.y) (search none-applies);
      some-path = search none-applies depth 12;
      room = search none-applies depth 12;
      short-enough = search none-applies depth 12;
      coarse-enough = search none-applies depth 12;
    }

-- answered with corners, a join was not refused, and they are those of the first path
pub record Joined (r : Room) (l : Layout) (net : ℕ) (S : Point) (cs : List Point) (n : ℕ) : Type 0 where
  pub unrefused : refusal_of r false (join net S) l ≡ none
  pub own : Passed r l net S
  pub is-first : IsFirst (free_for net l) S (on_legs net l) cs
  pub bent : n ≡ bends cs
  pub left : (ledger_step r (join net S) l).state ≡ with_entries l (l.entries ++ legs net cs)

module _ (r : Room) (l : Layout) (net : ℕ) (S : Point) where
  corners-first : (cs : List Point) → no_path (join_of net l S) ≡ false → cs ≡ join_corners net l S
      → IsFirst (free_for net l) S (on_legs net l) cs
  unfolding join_corners join_of
  corners-first cs has e =
      join_first net l S cs
      (subst (λ (ds : List Point). IsFirst (free_for net l) S (on_net net l) ds) (sym e)
      (gives-first (free_for net l) l.width l.height (for-inside net l) S (on_net net l) _
      (path-is (join_of net l S) has)))

  state-is : refusal_of r false (join net S) l ≡ none
      → (ledger_step r (join net S) l).state ≡ with_entries l (l.entries ++ legs net (join_corners net l S))
  unfolding ledger_step settle next
  state-is e = rw e refl

  pub of-joined : (cs : List Point) (n : ℕ) → (ledger_step r (join net S) l).answer ≡ laid cs n → Joined r l net S cs n
  unfolding ledger_step says
  of-joined cs n h =
      let a = settled-laid (refusal_of r false (join net S) l) (join_corners net l S) cs _ n (next (join net S) l) l h in
      let p = passed r l net S (unrefused-own r (join net S) l false a.0) in
      record {
        unrefused = a.0;
        own = p;
        is-first = corners-first cs p.some-path a.1;
        bent = a.2 ∙ ap bends (sym a.1);
        left = state-is a.0 ∙ ap (λ (ds : List Point). with_entries l (l.entries ++ legs net ds)) (sym a.1);
      }

-- ---- the net after it: its entries and its length

-- the legs of a track are of its net
own-from : (net : ℕ) (p : Point) (cs : List Point) → legs_of net (legs_from net p cs) ≡ legs_from net p cs
unfolding legs_of legs_from
own-from net p [] = refl
own-from net p (q ∷ cs) = rw (leg-net net p q) (ap (λ (es : List Entry). leg net p q ∷ es) (own-from net q cs))

own-legs : (net : ℕ) (cs : List Point) → legs_of net (legs net cs) ≡ legs net cs
unfolding legs
own-legs net [] = unfold legs_of in refl
own-legs net (p ∷ []) = unfold legs_of in rw (leg-net net p p) refl
own-legs net (p ∷ q ∷ cs) = own-from net p (q ∷ cs)

legs-more : (net : ℕ) (es : List Entry) (cs : List Point)
    → legs_of net (es ++ legs net cs) ≡ legs_of net es ++ legs net cs
legs-more net es cs =
    let both-kept : legs_of net (es ++ legs net cs) ≡ legs_of net es ++ legs_of net (legs net cs) =
    unfold legs_of in keep_append (of_net net) es (legs net cs) in
    both-kept ∙ ap (λ (ds : List Entry). legs_of net es ++ ds) (own-legs net cs)

-- a net that is in use has an entry
some-legs : (net : ℕ) (es : List Entry) → in_use net es ≡ true → 1 ≤ length (legs_of net es)
unfolding in_use legs_of
some-legs net [] h = absurd (let z : ◌≡◌ {A = ℕ} 0 1 = cc in omega arith)
some-legs net (e ∷ es) h =
    both (of_net net e) (λ t. rw t (omega arith)) (λ t. rw t (some-legs net es (rw t at h)))

-- the entries of a track are its bends and one
track-legs : (net : ℕ) (cs : List Point) → 1 ≤ length cs → length (legs net cs) ≡ bends cs + 1
unfolding bends
track-legs net cs h = omega (arith, length-legs net cs h)

side-steps : (a b : ℕ) → suc (max a b) - min a b - 1 ≡ gap a b
side-steps a b = omega arith

leg-steps : (net : ℕ) (p q : Point) → leg_steps (leg net p q) ≡ gap p.x q.x + gap p.y q.y
unfolding leg_steps leg
leg-steps net p q =
    ap₂ (λ (a b : ℕ). a + b) (side-steps p.x q.x) (side-steps p.y q.y)

from-steps : (net : ℕ) (p : Point) (cs : List Point) → steps_of (legs_from net p cs) ≡ steps_from p cs
unfolding steps_of legs_from steps_from
from-steps net p [] = refl
from-steps net p (q ∷ cs) = omega (arith, leg-steps net p q, from-steps net q cs)

-- and its length the steps of its legs
track-steps : (net : ℕ) (cs : List Point) → steps_of (legs net cs) ≡ path_length cs
unfolding legs path_length
track-steps net [] = unfold steps_of in refl
track-steps net (p ∷ []) = unfold steps_of steps_from in omega (arith, leg-steps net p p)
track-steps net (p ∷ q ∷ cs) = from-steps net p (q ∷ cs)

steps-more : (es ds : List Entry) → steps_of (es ++ ds) ≡ steps_of es + steps_of ds
unfolding steps_of
steps-more [] ds = omega arith
steps-more (e ∷ es) ds = omega (arith, steps-more es ds)

module _ (l : Layout) (net : ℕ) (cs : List Point) where
  -- the layout with the track's legs
  abbrev with-track : Layout
  with-track = with_entries l (l.entries ++ legs net cs)

  pub more-bends : in_use net l.entries ≡ true → 1 ≤ length cs
      → net_bends net with-track ≡ net_bends net l + bends cs + 1
  unfolding net_bends
  more-bends used one =
      omega (
        arith,
        ap length (legs-more net l.entries cs),
        length-append (legs_of net l.entries) (legs net cs),
        some-legs net l.entries used,
        track-legs net cs one,
      )

  pub more-length : net_length net with-track ≡ net_length net l + path_length cs
  unfolding net_length
  more-length =
      omega (
        arith,
        ap steps_of (legs-more net l.entries cs),
        steps-more (legs_of net l.entries) (legs net cs),
        track-steps net cs,
      )

  -- ---- lifting it

  without-track : without net with-track ≡ without net l
  without-track =
      ap (with_entries l)
      (keep_append (λ (e : Entry). not (of_net net e)) l.entries (legs net cs)
      ∙ ap (λ (es : List Entry). keep (λ (e : Entry). not (of_net net e)) l.entries ++ es) (keep-none net cs)
      ∙ append-nil (keep (λ (e : Entry). not (of_net net e)) l.entries))

  still-used : (es ds : List Entry) → in_use net es ≡ true → in_use net (es ++ ds) ≡ true
  unfolding in_use
  still-used [] ds h = absurd (let z : ◌≡◌ {A = ℕ} 0 1 = cc in omega arith)
  still-used (e ∷ es) ds h =
      both (of_net net e) (λ t. or-il (any (of_net net) (es ++ ds)) t) (λ t. rw t (still-used es ds (rw t at h)))

  module _ (r : Room) (allowed : net_ok net ≡ true) (used : in_use net l.entries ≡ true) (long : short r ≡ false) where
    -- the lift of a net with a track more is refused by 11 or takes all of it
    lift-is : ledger_step r (lift net) with-track
        ≡ settle (cond (is_too_fine (without net l)) (some 11) none)
        (record { answer = accepted; state = without net l }) with-track
    unfolding ledger_step refusal_of after_lent refusals first says next
    lift-is =
        rw (without-track, long, allowed, still-used l.entries (legs net cs) used) refl

    pub lifts-whole : is_too_fine (without net l) ≡ false
        → ledger_step r (lift net) with-track ≡ record { answer = accepted; state = without net l }
    lifts-whole fine = lift-is ∙ (unfold settle in rw fine refl)

    pub lift-too-fine : is_too_fine (without net l) ≡ true
        → (ledger_step r (lift net) with-track).answer ≡ refused 11
    lift-too-fine fine = ap (λ a. a.answer) lift-is ∙ (unfold settle in rw fine refl)
