-- On the ledger lay answers 9 exactly where there is no path and lays the first one, and lift takes a track back.
use Prim.Native.Nat.{ℕ}
use native.Mathlib.Omega.{arith}
use mathlib.Core.Path.{◌≡◌, refl, sym, ap, ◌∙◌, subst}
use mathlib.Core.Bool.{Bool, true, false, not, ◌||◌}
use mathlib.Core.List.{List, [], ◌∷◌, ◌++◌, append-nil}
use mathlib.Core.Option.{Option, none, some, get_or}
use mathlib.Core.Logic.{◌↔◌}
use lib.Dec.{ltb}
use borrow.Author.Tests.{eq-eqb, lt-leb}
use lib.ListN.{length}
use Rattle.foil_spec.specs.Lists.{keep, any}
use Rattle.foil_spec.specs.Foil.{Point, Entry, Layout, net_ok, free}
use Rattle.foil_spec.specs.Paths.{at, is_path, bends}
use Rattle.foil_spec.specs.Nets.{of_net, in_use}
use Rattle.foil_spec.specs.Ledger.{path_of, no_path, corners_of, leg, legs_from, legs, with_entries}
use Rattle.foil_spec.specs.Ledger.{off_foil, blocked, Room, short, corner_room, too_long, is_too_fine, next, says, ◌⇒◌, first}
use Rattle.foil_spec.specs.Ledger.{reads, refusals, after_lent, settle, refusal_of, ledger_step}
use Rattle.foil_spec.specs.Ledger.{Step, lay, lift, find, refused, accepted, laid}
use Rattle.foil_spec.specs.Lent.{Lent, store, held, sound, step_on}
use Rattle.list_laws.proofs.Tests.{clash, or_l, or_r, or-ir, not-ff}
use Rattle.path_laws.specs.First.{IsFirst}
use Rattle.path_laws.proofs.Laws.{gives-first, gives_none, none_is}
use Rattle.ledger_laws.specs.Demand3.{MayLay}
use Rattle.ledger_laws.proofs.Refusals.{none-applies, unrefused-sound, unrefused-own}
use Rattle.zones.proofs.Free.{free-inside}
use Rattle.ledger_laws.proofs.Line.{settled-refused}

-- ---- 9

pub free_on : (l : Layout) (p : Point) → free l p.x p.y ≡ true → off_foil l p ≡ false
unfolding off_foil
free_on l p h =
    let i = free-inside l p.x p.y h in
    rw (lt-leb l.width p.x i.0, lt-leb l.height p.y i.1) refl

-- where the table and the strip list are long enough and the state keeps the rules, the refusals of such a lay are
-- those from 9 on
pub lay-from-9 : (r : Room) (broken : Bool) (l : Layout) (net : ℕ) (S T : Point) → short r ≡ false → broken ≡ false
    → MayLay l net S T
    → refusal_of r broken (lay net S T) l
    ≡ first (
    (no_path (path_of l S T) ⇒ 9)
    ∷ (ltb (corner_room r) (length (corners_of l S T)) ⇒ 12)
    ∷ (too_long r (next (lay net S T) l) ⇒ 10)
    ∷ (is_too_fine (next (lay net S T) l) ⇒ 11)
    ∷ [])
unfolding refusal_of after_lent refusals first blocked
lay-from-9 r broken l net S T long fine k =
    rw (
      long,
      fine,
      k.allowed,
      k.unused,
      free_on l S k.start-free,
      free_on l T k.end-free,
      k.start-free,
      k.end-free,
    ) refl

after-9 : (a b c : Bool) → first ((a ⇒ 12) ∷ (b ⇒ 10) ∷ (c ⇒ 11) ∷ []) ≡ some 9 → ⊥
unfolding first
after-9 true b c h = let e : ◌≡◌ {A = ℕ} 12 9 = cc in omega arith
after-9 false true c h = let e : ◌≡◌ {A = ℕ} 10 9 = cc in omega arith
after-9 false false true h = let e : ◌≡◌ {A = ℕ} 11 9 = cc in omega arith
after-9 false false false h = let z : ◌≡◌ {A = ℕ} 0 1 = cc in omega arith

pub only-9 : (o : Option (List Point)) (a b c : Bool)
    → first ((no_path o ⇒ 9) ∷ (a ⇒ 12) ∷ (b ⇒ 10) ∷ (c ⇒ 11) ∷ []) ≡ some 9
    → o ≡ none
unfolding no_path first
only-9 none a b c h = refl
only-9 (some cs) a b c h = absurd (after-9 a b c h)

answers-9 : (r : Room) (l : Layout) (net : ℕ) (S T : Point) → short r ≡ false → MayLay l net S T
    → path_of l S T ≡ none → (ledger_step r (lay net S T) l).answer ≡ refused 9
unfolding ledger_step settle first no_path
answers-9 r l net S T long k e = rw (lay-from-9 r false l net S T long refl k, e) refl

-- the ledger answers 9 exactly when there is no path
pub ledger-9 : (r : Room) (l : Layout) (net : ℕ) (S T : Point) → short r ≡ false → MayLay l net S T
    → ((ledger_step r (lay net S T) l).answer ≡ refused 9)
    ↔ ((cs : List Point) → is_path (free l) S T cs ≡ true → ⊥)
unfolding path_of ledger_step
ledger-9 r l net S T long k = (
  λ h.
      let e = settled-refused (refusal_of r false (lay net S T) l) (lay net S T) l _ l 9 (omega arith) h in
      gives_none (free l) l.width l.height (free-inside l) S (at T)
      (only-9 (path_of l S T) _ _ _ (sym (lay-from-9 r false l net S T long refl k) ∙ e)),
  λ h. answers-9 r l net S T long k (none_is (free l) l.width l.height (free-inside l) S (at T) h),
)

-- ---- the track

-- a step that seeks the first path from S to T: it says the corners, and is refused where there is no path
pub record Seeks (s : Step) (S T : Point) : Type 0 where
  pub tells : (l : Layout) → says s l ≡ laid (corners_of l S T) (bends (corners_of l S T))
  pub looks : (r : Room) (l : Layout) → first (refusals s r l) ≡ none → no_path (path_of l S T) ≡ false
  pub seen : reads s ≡ true

pub lay-seeks : (net : ℕ) (S T : Point) → Seeks (lay net S T) S T
unfolding says refusals reads
lay-seeks net S T = record { tells = λ l. refl; looks = λ r l h. search none-applies depth 12; seen = refl }

pub find-seeks : (S T : Point) → Seeks (find S T) S T
unfolding says refusals reads
find-seeks S T = record { tells = λ l. refl; looks = λ r l h. search none-applies; seen = refl }

-- answered with corners, it was not refused, and they are those of the first path
pub record Laid (s : Step) (S T : Point) (r : Room) (broken : Bool) (l : Layout) (cs : List Point) (n : ℕ)
    : Type 0 where
  pub unrefused : refusal_of r broken s l ≡ none
  pub corners : cs ≡ corners_of l S T
  pub bent : n ≡ bends (corners_of l S T)

pub settled-laid : {A : Type 0} (o : Option ℕ) (ds cs : List Point) (k n : ℕ) (new old : A)
    → (settle o (record { answer = laid ds k; state = new }) old).answer ≡ laid cs n
    → (o ≡ none) × (cs ≡ ds) × (n ≡ k)
unfolding settle
settled-laid none ds cs k n new old h = (refl, cc, cc)
settled-laid (some j) ds cs k n new old h = absurd (let z : ◌≡◌ {A = ℕ} 0 1 = cc in omega arith)

pub path-is : (o : Option (List Point)) → no_path o ≡ false → o ≡ some (get_or o [])
unfolding no_path
path-is none h = clash refl h
path-is (some cs) h = refl

module _ {s : Step} {S T : Point} (k : Seeks s S T) where
  pub of-laid : (r : Room) (l : Layout) (cs : List Point) (n : ℕ) → (ledger_step r s l).answer ≡ laid cs n
      → Laid s S T r false l cs n
  unfolding ledger_step
  of-laid r l cs n h =
      let a = settled-laid (refusal_of r false s l) _ cs _ n (next s l) l (rw (k.tells l) at h) in
      record { unrefused = a.0; corners = a.1; bent = a.2 }

  -- the same on lists that hold anything
  pub laid_on : (r : Room) (m : Lent) (cs : List Point) (n : ℕ) → (step_on r s m).answer ≡ laid cs n
      → Laid s S T r (not (sound m)) (held m) cs n
  unfolding step_on
  laid_on r m cs n h =
      let o : Option ℕ = refusal_of r (not (sound m)) s (held m) in
      let a = settled-laid o _ cs _ n (store (next s (held m)) m) m (rw (k.tells (held m)) at h) in
      record { unrefused = a.0; corners = a.1; bent = a.2 }

  -- the track is the first path, with the bends that are answered
  pub first-laid : (r : Room) (b : Bool) (l : Layout) (cs : List Point) (n : ℕ) → Laid s S T r b l cs n
      → IsFirst (free l) S (at T) cs × (n ≡ bends cs)
  unfolding path_of corners_of
  first-laid r b l cs n a =
      let has-path = k.looks r l (unrefused-own r s l b a.unrefused) in
      let e = path-is (path_of l S T) has-path in (
        subst (λ (ds : List Point). IsFirst (free l) S (at T) ds) (sym a.corners)
            (gives-first (free l) l.width l.height (free-inside l) S (at T) (corners_of l S T) e),
        a.bent ∙ ap bends (sym a.corners),
      )

  pub ledger-first : (r : Room) (l : Layout) (cs : List Point) (n : ℕ) → (ledger_step r s l).answer ≡ laid cs n
      → IsFirst (free l) S (at T) cs × (n ≡ bends cs)
  ledger-first r l cs n h = first-laid r false l cs n (of-laid r l cs n h)

  -- and the state was not broken
  pub laid-unbroken : (r : Room) (b : Bool) (l : Layout) (cs : List Point) (n : ℕ) → Laid s S T r b l cs n
      → b ≡ false
  laid-unbroken r b l cs n a = unrefused-sound r s l b a.unrefused k.seen

-- ---- lifting it

-- entries of other nets stay, and those of the net go
keep-others : (net : ℕ) (es ds : List Entry) → in_use net es ≡ false
    → keep (λ (e : Entry). not (of_net net e)) (es ++ ds) ≡ es ++ keep (λ (e : Entry). not (of_net net e)) ds
unfolding in_use
keep-others net [] ds h = refl
keep-others net (e ∷ es) ds h =
    let a : of_net net e ≡ false = or_l (of_net net e) (any (of_net net) es) h in
    rw a (ap (λ (xs : List Entry). e ∷ xs) (keep-others net es ds (or_r (of_net net e) (any (of_net net) es) h)))

pub leg-net : (net : ℕ) (p q : Point) → of_net net (leg net p q) ≡ true
unfolding of_net leg
leg-net net p q = eq-eqb net net refl

drop-legs : (net : ℕ) (p : Point) (cs : List Point) → keep (λ (e : Entry). not (of_net net e)) (legs_from net p cs) ≡ []
unfolding legs_from
drop-legs net p [] = refl
drop-legs net p (q ∷ cs) = rw (leg-net net p q) (drop-legs net q cs)

pub keep-none : (net : ℕ) (cs : List Point) → keep (λ (e : Entry). not (of_net net e)) (legs net cs) ≡ []
unfolding legs
keep-none net [] = refl
keep-none net (p ∷ []) = rw (leg-net net p p) refl
keep-none net (p ∷ q ∷ cs) = drop-legs net p (q ∷ cs)

used-right : (net : ℕ) (es ds : List Entry) → in_use net ds ≡ true → in_use net (es ++ ds) ≡ true
unfolding in_use
used-right net [] ds h = h
used-right net (e ∷ es) ds h = or-ir (of_net net e) (used-right net es ds h)

pub legs-used : (net : ℕ) (p : Point) (cs : List Point) → in_use net (legs net (p ∷ cs)) ≡ true
unfolding in_use legs legs_from
legs-used net p [] = rw (leg-net net p p) refl
legs-used net p (q ∷ cs) = rw (leg-net net p q) refl

pub lifted : (r : Room) (l : Layout) (net : ℕ) (cs : List Point) → net_ok net ≡ true → in_use net l.entries ≡ false
    → in_use net (legs net cs) ≡ true → is_too_fine l ≡ false → short r ≡ false
    → ledger_step r (lift net) (with_entries l (l.entries ++ legs net cs)) ≡ record { answer = accepted; state = l }
unfolding ledger_step refusal_of after_lent refusals first settle says next
lifted r l net cs ok unused used fine long =
    let e : keep (λ (x : Entry). not (of_net net x)) (l.entries ++ legs net cs) ≡ l.entries =
    keep-others net l.entries (legs net cs) unused
    ∙ ap (λ (xs : List Entry). l.entries ++ xs) (keep-none net cs) ∙ append-nil l.entries in
    rw (e, long, ok, used-right net l.entries (legs net cs) used, fine) refl

-- what a lay that is not refused has passed
pub record Passed (r : Room) (l : Layout) (net : ℕ) (S T : Point) : Type 0 where
  pub allowed : net_ok net ≡ true
  pub unused : in_use net l.entries ≡ false
  pub on-foil : (off_foil l S || off_foil l T) ≡ false
  pub clear : (blocked l S || blocked l T) ≡ false
  pub some-path : no_path (path_of l S T) ≡ false
  pub room : ltb (corner_room r) (length (corners_of l S T)) ≡ false
  pub short-enough : too_long r (next (lay net S T) l) ≡ false
  pub coarse-enough : is_too_fine (next (lay net S T) l) ≡ false

pub passed : (r : Room) (l : Layout) (net : ℕ) (S T : Point) → first (refusals (lay net S T) r l) ≡ none
    → Passed r l net S T
unfolding refusals
passed r l net S T h =
    record {
      allowed = not-ff (net_ok net) (search none-applies);
      unused = search none-applies;
      on-foil = search none-applies;
      clear = search none-applies;
      some-path = search none-applies depth 12;
      room = search none-applies depth 12;
      short-enough = search none-applies depth 12;
      coarse-enough = search none-applies depth 12;
    }
