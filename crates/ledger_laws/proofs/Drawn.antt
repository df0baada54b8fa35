-- Find answers the first path, book refuses by 19 just what is no way, and an accepted lay is the two.
use Prim.Native.Nat.{ℕ, ◌*◌}
use native.Mathlib.Omega.{arith}
use mathlib.Core.Path.{◌≡◌, refl, sym, ap, ◌∙◌, subst}
use mathlib.Core.Bool.{Bool, true, false, not}
use mathlib.Core.Logic.{◌↔◌}
use mathlib.Core.List.{List, [], ◌∷◌}
use mathlib.Core.Option.{Option, none, some}
use lib.Dec.{ltb}
use lib.ListN.{length, take, drop}
use lib.Seq.{take_at}
use Rattle.foil_spec.specs.Lists.{each}
use Rattle.foil_spec.specs.Foil.{Point, Layout, net_ok, free}
use Rattle.foil_spec.specs.Paths.{at, is_path, is_way, bends}
use Rattle.foil_spec.specs.Corners.{point_numbers, drawn}
use Rattle.foil_spec.specs.Nets.{in_use}
use Rattle.foil_spec.specs.Ledger.{path_of, no_path, corners_of, blocked, Room, short, corner_room, too_long, is_too_fine}
use Rattle.foil_spec.specs.Ledger.{Step, lay, find, book, Answer, refused, laid, booked, next, says, ◌⇒◌, first}
use Rattle.foil_spec.specs.Ledger.{reads, refusals, After, settle, refusal_of, ledger_step}
use Rattle.foil_spec.specs.Lent.{Lent, store, held, sound, step_on, over_front, output_after}
use Rattle.list_laws.proofs.Tests.{both, clash, not-ff}
use Rattle.path_laws.proofs.Laws.{gives_none, none_is}
use Rattle.path_laws.proofs.Ways.{path-way, way-path}
use Rattle.zones.proofs.Free.{free-inside}
use Rattle.ledger_laws.specs.Drawn.{FindsNoWay, FindsFirst, DrawsPath, BooksWays, LaysAsBooked}
use Rattle.ledger_laws.proofs.CornerLists.{drawn-read, way-numbers}
use Rattle.ledger_laws.proofs.Stored.{length-points}
use Rattle.ledger_laws.proofs.Refusals.{own-refused, unrefused-long, unrefused-own}
use Rattle.ledger_laws.proofs.Line.{same-long, settled-refused}
use Rattle.ledger_laws.proofs.Sound.{of-sound, sound-store-is}
use Rattle.ledger_laws.proofs.Lay.{free_on, only-9, Passed, passed, lay-seeks, find-seeks}
use Rattle.ledger_laws.proofs.Lay.{laid_on, first-laid, ledger-first, laid-unbroken}
use Rattle.ledger_laws.proofs.Moments.{at_every}
use Rattle.ledger_laws.proofs.Demand3.{goes_on, answer-is, corners-front}

-- ---- find

module _ (r : Room) (l : Layout) (S T : Point) (s-free : free l S.x S.y ≡ true)
    (t-free : free l T.x T.y ≡ true) where
  -- the refusals of a find between free points are those from 9 on
  pub find-from-9 : first (refusals (find S T) r l)
      ≡ first ((no_path (path_of l S T) ⇒ 9) ∷ (ltb (corner_room r) (length (corners_of l S T)) ⇒ 12) ∷ [])
  unfolding refusals first blocked
  find-from-9 = rw (free_on l S s-free, free_on l T t-free, s-free, t-free) refl

  module _ (long : short r ≡ false) where
    refusal_is : refusal_of r false (find S T) l
        ≡ first ((no_path (path_of l S T) ⇒ 9) ∷ (ltb (corner_room r) (length (corners_of l S T)) ⇒ 12) ∷ [])
    refusal_is = own-refused r (find S T) l false long refl ∙ find-from-9

    found-9 : path_of l S T ≡ none → (ledger_step r (find S T) l).answer ≡ refused 9
    unfolding ledger_step settle first no_path
    found-9 e = rw (refusal_is, e) refl

    find-9 : ((ledger_step r (find S T) l).answer ≡ refused 9)
        ↔ ((cs : List Point) → is_path (free l) S T cs ≡ true → ⊥)
    unfolding path_of ledger_step first
    find-9 = (
      λ h.
          let e = settled-refused (refusal_of r false (find S T) l) (find S T) l _ l 9 (omega arith) h in
          gives_none (free l) l.width l.height (free-inside l) S (at T)
          (only-9 (path_of l S T) (ltb (corner_room r) (length (corners_of l S T))) false false (sym refusal_is ∙ e)),
      λ h. found-9 (none_is (free l) l.width l.height (free-inside l) S (at T) h),
    )

pub finds-no-way : FindsNoWay
finds-no-way m l cs b earlier k later e S T s long s-free t-free =
    let g = (goes_on m k later (find S T) (at_every m l cs b earlier k later e) s (find-seeks S T).seen).0 in
    subst
    (λ (x : Answer). (x ≡ refused 9) ↔ ((ds : List Point) → is_path (free k.ledger_before) S T ds ≡ true → ⊥))
    (sym (answer-is m k (find S T) g s)) (find-9 k.room k.ledger_before S T s-free t-free long)

-- it leaves the layout
find-leaves : (r : Room) (l : Layout) (S T : Point) → (ledger_step r (find S T) l).state ≡ l
unfolding ledger_step next
find-leaves r l S T = go (refusal_of r false (find S T) l)
  where
    go : (o : Option ℕ) → (settle o (record { answer = says (find S T) l; state = l }) l).state ≡ l
    go none = unfold settle in refl
    go (some n) = unfold settle in refl

pub finds-first : FindsFirst
finds-first m l cs b earlier k later e S T ds n s h =
    let g = (goes_on m k later (find S T) (at_every m l cs b earlier k later e) s (find-seeks S T).seen).0 in
    let a = answer-is m k (find S T) g s in
    let f = ledger-first (find-seeks S T) k.room k.ledger_before ds n (sym a ∙ h) in
    let same : k.ledger_after ≡ k.ledger_before =
    g.left ∙ ap (λ (x : Step). (ledger_step k.room x k.ledger_before).state) s
    ∙ find-leaves k.room k.ledger_before S T in (
      f.0,
      f.1,
      corners-front m k ds n g h,
      g.after.is ∙ ap (λ (x : Layout). store x m) same ∙ sym g.before.is,
    )

-- ---- book

after-19 : (a b : Bool) → first ((a ⇒ 10) ∷ (b ⇒ 11) ∷ []) ≡ some 19 → ⊥
unfolding first
after-19 true b h = let e : ◌≡◌ {A = ℕ} 10 19 = cc in omega arith
after-19 false true h = let e : ◌≡◌ {A = ℕ} 11 19 = cc in omega arith
after-19 false false h = let z : ◌≡◌ {A = ℕ} 0 1 = cc in omega arith

only-19 : (w a b : Bool) → first ((not w ⇒ 19) ∷ (a ⇒ 10) ∷ (b ⇒ 11) ∷ []) ≡ some 19 → w ≡ false
unfolding first
only-19 true a b h = absurd (after-19 a b h)
only-19 false a b h = refl

-- a list draws a path just if what it draws is a way
draws-way : (f : ℕ → ℕ → Bool) (ks : List ℕ) → DrawsPath f ks → is_way f (drawn ks) ≡ true
draws-way f ks (S, T, cs, e, p) =
    ap (λ (js : List ℕ). is_way f (drawn js)) (sym e) ∙ ap (is_way f) (drawn-read cs) ∙ path-way f S (at T) cs p

way-draws : (f : ℕ → ℕ → Bool) (ks : List ℕ) → is_way f (drawn ks) ≡ true → DrawsPath f ks
way-draws f ks w =
    let p = way-path f (drawn ks) w in
    (p.0, p.1, drawn ks, way-numbers f ks w, p.2)

module _ (r : Room) (l : Layout) (net : ℕ) (ks : List ℕ) (allowed : net_ok net ≡ true)
    (unused : in_use net l.entries ≡ false) where
  -- the refusals of a booking for a net that is allowed and not in use are those from 19 on
  pub book-from-19 : first (refusals (book net ks) r l)
      ≡ first (
      (not (is_way (free l) (drawn ks)) ⇒ 19)
      ∷ (too_long r (next (book net ks) l) ⇒ 10)
      ∷ (is_too_fine (next (book net ks) l) ⇒ 11)
      ∷ [])
  unfolding refusals first
  book-from-19 = rw (allowed, unused) refl

  module _ (long : short r ≡ false) where
    booked-19 : is_way (free l) (drawn ks) ≡ false → (ledger_step r (book net ks) l).answer ≡ refused 19
    unfolding ledger_step settle first
    booked-19 w = rw (own-refused r (book net ks) l false long refl ∙ book-from-19, w) refl

    book-19 : ((ledger_step r (book net ks) l).answer ≡ refused 19) ↔ (DrawsPath (free l) ks → ⊥)
    unfolding ledger_step
    book-19 = (
      λ h d.
          let e = settled-refused (refusal_of r false (book net ks) l) (book net ks) l _ l 19 (omega arith) h in
          clash (draws-way (free l) ks d)
          (only-19 (is_way (free l) (drawn ks)) _ _
          (sym (own-refused r (book net ks) l false long refl ∙ book-from-19) ∙ e)),
      λ h. both (is_way (free l) (drawn ks)) (λ w. absurd (h (way-draws (free l) ks w))) booked-19,
    )

pub books-ways : BooksWays
unfolding reads
books-ways m l cs b earlier k later e net ks s long allowed unused =
    let g = (goes_on m k later (book net ks) (at_every m l cs b earlier k later e) s refl).0 in
    subst (λ (x : Answer). (x ≡ refused 19) ↔ (DrawsPath (free k.ledger_before) ks → ⊥))
    (sym (answer-is m k (book net ks) g s)) (book-19 k.room k.ledger_before net ks allowed unused long)

-- ---- lay is the two

module _ (r : Room) (l : Layout) (net : ℕ) (S T : Point) (p : Passed r l net S T) where
  find-passes : first (refusals (find S T) r l) ≡ none
  unfolding refusals first
  find-passes = rw (p.on-foil, p.clear, p.some-path, p.room) refl

  module _ (r' : Room) (same : r'.limit ≡ r.limit) (ks : List ℕ) (is : drawn ks ≡ corners_of l S T)
      (way : is_way (free l) (corners_of l S T) ≡ true) where
    next-same : next (book net ks) l ≡ next (lay net S T) l
    unfolding next
    next-same = rw is refl

    book-passes : first (refusals (book net ks) r' l) ≡ none
    unfolding refusals first
    book-passes =
        rw (
          p.allowed,
          p.unused,
          is,
          way,
          next-same,
          same-long r' r (next (lay net S T) l) same ∙ p.short-enough,
          p.coarse-enough,
        ) refl

-- the numbers of the corners stand at the front of the output list
front-is : (cs : List Point) (n : ℕ) (out : List ℕ)
    → take (length cs * 2) (output_after (laid cs n) out) ≡ each point_numbers cs
unfolding output_after over_front
front-is cs n out =
    let ks : List ℕ = each point_numbers cs in
    take_at ks (drop (length ks) out) (length cs * 2) (omega (arith, length-points cs))

-- a step that is not refused
accepted-is : (r : Room) (s : Step) (m : Lent) → sound m ≡ true → short r ≡ false → first (refusals s r (held m)) ≡ none
    → step_on r s m ≡ record { answer = says s (held m); state = store (next s (held m)) m }
unfolding step_on settle
accepted-is r s m g long e = rw (g, own-refused r s (held m) false long refl, e) refl

pub lays-as-booked : LaysAsBooked
unfolding says next
lays-as-booked r r' m out net S T cs n h long same =
    let l : Layout = held m in
    let a = laid_on (lay-seeks net S T) r m cs n h in
    let fine : sound m ≡ true = not-ff (sound m) (laid-unbroken (lay-seeks net S T) r (not (sound m)) l cs n a) in
    let long' = unrefused-long r (lay net S T) l (not (sound m)) a.unrefused in
    let own = unrefused-own r (lay net S T) l (not (sound m)) a.unrefused in
    let p = passed r l net S T own in
    let path = (first-laid (lay-seeks net S T) r (not (sound m)) l cs n a).0.path in
    let way : is_way (free l) (corners_of l S T) ≡ true =
    subst (λ (ds : List Point). is_way (free l) ds ≡ true) a.corners (path-way (free l) S (at T) cs path) in
    let ks : List ℕ = take (length cs * 2) (output_after (laid cs n) out) in
    let draws : drawn ks ≡ cs = ap drawn (front-is cs n out) ∙ drawn-read cs in
    let is = draws ∙ a.corners in
    let state-is : store (next (book net ks) l) m ≡ (step_on r (lay net S T) m).state =
    ap (λ (x : Layout). store x m) (next-same r l net S T p r' same ks is way)
    ∙ sym (ap (λ (x : After Answer Lent). x.state) (accepted-is r (lay net S T) m fine long' own)) in
    let bent : bends (drawn ks) ≡ n = ap bends is ∙ sym a.bent in (
      accepted-is r (find S T) m fine long' (find-passes r l net S T p)
          ∙ (λ i.
          record {
            answer = laid (sym a.corners i) (sym a.bent i);
            state = sound-store-is m (of-sound m fine) i;
          }),
      accepted-is r' (book net ks) m fine long (book-passes r l net S T p r' same ks is way)
          ∙ (λ i. record { answer = booked (length (draws i)) (bent i); state = state-is i }),
    )
