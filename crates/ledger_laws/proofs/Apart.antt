-- A point is free exactly if it keeps its distance from every leg and every patch that is on the foil, and from the
-- edge; and each point of a way is free.
use Prim.Native.Nat.{ℕ, ◌+◌, ◌-◌, ◌*◌, ◌≤◌, ◌<◌, min, max}
use native.Mathlib.Omega.{arith}
use mathlib.Core.Path.{◌≡◌, refl, sym, ap, ◌∙◌, subst, subst₂}
use mathlib.Core.Bool.{true, false, not}
use mathlib.Core.List.{List, ◌++◌}
use mathlib.Core.Logic.{inl, inr, ⊎_elim}
use mathlib.Core.Option.{Option, none, some}
use borrow.Author.Tests.{lt-ltb, ne_eqb}
use Rattle.foil_spec.specs.Lists.{all}
use Rattle.foil_spec.specs.Foil.{Point, point, Entry, Layout, net_ok, entry_ok, within, blocks, pen_rule, margin, free_by}
use Rattle.foil_spec.specs.Foil.{free}
use Rattle.foil_spec.specs.Paths.{gap, at, is_way}
use Rattle.foil_spec.specs.Corners.{drawn}
use Rattle.foil_spec.specs.Nets.{in_use}
use Rattle.foil_spec.specs.Ledger.{legs, with_entries, Room, Step, lay, book, laid, booked, reads, next, says}
use Rattle.foil_spec.specs.Ledger.{first, refusals, settle, refusal_of, ledger_step}
use Rattle.foil_spec.specs.Lent.{Lent}
use Rattle.list_laws.proofs.Tests.{both, clash, and_l, and_r, and_i, not_f, not-ff, lt-or-le}
use Rattle.list_laws.proofs.Members.{In, of-all, to-all}
use Rattle.path_laws.proofs.Ways.{path-way}
use Rattle.zones.proofs.Free.{within-yes, free-far, far}
use Rattle.ledger_laws.specs.Moments.{Moment}
use Rattle.ledger_laws.specs.Apart.{Has, Apart, KeepsOff, FreeExactly, KeepsApart, Tracks, TracksApart}
use Rattle.ledger_laws.proofs.Refusals.{none-applies, unrefused-own}
use Rattle.ledger_laws.proofs.Legs.{legs-free}
use Rattle.ledger_laws.proofs.Crossing.{Full, ok-full, of-within, free-unblocked, patch-margin}
use Rattle.ledger_laws.proofs.Lay.{lay-seeks, of-laid, first-laid, passed}
use Rattle.ledger_laws.proofs.Moments.{Goes, Onward, Standing, at_every}
use Rattle.ledger_laws.proofs.Demand3.{goes_on, answer-is}

-- ---- what is not blocked is apart, and the other way round

unblocked-apart : (d : ℕ) (e : Entry) (p q : Point) → blocks d e p.x p.y ≡ false → Has e q → Apart d p q
unfolding blocks
unblocked-apart d e p q b on =
    ⊎_elim (λ x. inl (omega arith))
    (λ x.
    ⊎_elim (λ y. inr (omega arith))
    (λ y.
    clash
    (and_i
    (within-yes e.x0 e.x1 d p.x (omega (arith, on.from-x, x)) (omega (arith, on.to-x, x)))
    (within-yes e.y0 e.y1 d p.y (omega (arith, on.from-y, y)) (omega (arith, on.to-y, y))))
    b)
    (lt-or-le d (gap p.y q.y)))
    (lt-or-le d (gap p.x q.x))

closer : {d d' : ℕ} (p q : Point) → d' ≤ d → Apart d p q → Apart d' p q
closer p q le = ⊎_elim (λ x. inl (omega arith)) (λ y. inr (omega arith))

-- of the numbers from lo up to hi the one that is nearest to v
nearest : ℕ → ℕ → ℕ → ℕ
nearest lo hi v = max lo (min v (hi - 1))

-- an entry that is not empty and blocks the point has a point that is not apart from it
blocked-near : (d : ℕ) (e : Entry) (p : Point) → Full e → blocks d e p.x p.y ≡ true
    → (q : Point) × Has e q × (Apart d p q → ⊥)
unfolding blocks nearest
blocked-near d e p full b =
    let across = of-within e.x0 e.x1 d p.x (and_l _ _ b) in
    let down = of-within e.y0 e.y1 d p.y (and_r (within e.x0 e.x1 d p.x) _ b) in
    let wide = full.wide in
    let high = full.high in (
      point (nearest e.x0 e.x1 p.x) (nearest e.y0 e.y1 p.y),
      record { from-x = omega arith; to-x = omega arith; from-y = omega arith; to-y = omega arith },
      ⊎_elim (λ x. omega (arith, across, x)) (λ y. omega (arith, down, y)),
    )

module _ (l : Layout) where
  leg-margin : (e : Entry) → 0 < e.net → margin (pen_rule l.pen) e ≡ 2 * l.pen.half + l.pen.gap
  unfolding margin pen_rule
  leg-margin e n = rw (ne_eqb e.net 0 (λ z. omega arith)) (omega arith)

  -- a free point keeps off
  pub free-keeps-off : (p : Point) → free l p.x p.y ≡ true → KeepsOff l p
  free-keeps-off p f =
      let (left, right, above, below) = free-far l p.x p.y f in
      record {
        from-legs = λ e i n q on. apart e i (omega (arith, leg-margin e n)) q on;
        from-patches = λ e i n q on. apart e i (omega (arith, patch-margin l e n)) q on;
        from-edge = record { left = left; right = right; above = above; below = below };
      }
    where
      apart : (e : Entry) → In e l.entries → {d : ℕ} → d ≤ margin (pen_rule l.pen) e
          → (q : Point) → Has e q → Apart d p q
      apart e i far-enough q on =
          closer p q far-enough
          (unblocked-apart (margin (pen_rule l.pen) e) e p q (free-unblocked l p f e i) on)

  -- and a point that keeps off is free
  module _ (p : Point) (k : KeepsOff l p) where
    apart_by : (e : Entry) → In e l.entries → (q : Point) → Has e q → Apart (margin (pen_rule l.pen) e) p q
    apart_by e i q on =
        ⊎_elim
        (λ n. closer p q (omega (arith, leg-margin e n)) (k.from-legs e i n q on))
        (λ n.
        let patch : e.net ≡ 0 = omega arith in
        closer p q (omega (arith, patch-margin l e patch)) (k.from-patches e i patch q on))
        (lt-or-le 0 e.net)

    unblocked : (e : Entry) → In e l.entries → Full e
        → blocks (margin (pen_rule l.pen) e) e p.x p.y ≡ false
    unblocked e i full =
        both (blocks (margin (pen_rule l.pen) e) e p.x p.y)
        (λ b.
        let near = blocked-near (margin (pen_rule l.pen) e) e p full b in
        absurd (near.2 (apart_by e i near.0 near.1)))
        (λ b. b)

    keeps-off-free : all (entry_ok l.width l.height) l.entries ≡ true → free l p.x p.y ≡ true
    unfolding free free_by pen_rule
    keeps-off-free ok =
        let m : ℕ = l.pen.half + l.pen.gap in
        let edge = k.from-edge in
        and_i
        (and_i
        (and_i (lt-ltb p.x l.width (omega (arith, edge.right)))
        (lt-ltb p.y l.height (omega (arith, edge.below))))
        (simp (
          far m l.width p.x edge.left edge.right,
          far m l.height p.y edge.above edge.below,
        )))
        (to-all (λ (e : Entry). not (blocks (margin (pen_rule l.pen) e) e p.x p.y)) l.entries
        (λ e i.
        not_f
        (unblocked e i
        (ok-full l.width l.height e (of-all (entry_ok l.width l.height) e l.entries ok i)))))

  -- the legs of a way over free points keep apart from all entries and from the edge
  pub way_apart : (net : ℕ) (cs : List Point) → is_way (free l) cs ≡ true → KeepsApart l (legs net cs)
  way_apart net cs w part j p on = free-keeps-off p (legs-free (free l) net cs w part j p on)

pub free-exactly : FreeExactly
free-exactly l p ok = (free-keeps-off l p, λ k. keeps-off-free l p k ok)

-- ---- in a list of calls

-- what a step that is accepted leaves
module _ (r : Room) (s : Step) (l : Layout) where
  pub unrefused-state : refusal_of r false s l ≡ none → (ledger_step r s l).state ≡ next s l
  unfolding ledger_step settle
  unrefused-state e = rw e refl

settled-booked : {A : Type 0} (o : Option ℕ) (i n j k : ℕ) (new old : A)
    → (settle o (record { answer = booked i n; state = new }) old).answer ≡ booked j k → o ≡ none
unfolding settle
settled-booked none i n j k new old h = refl
settled-booked (some x) i n j k new old h = absurd (let z : ◌≡◌ {A = ℕ} 0 1 = cc in omega arith)

-- a lay or a booking that is accepted draws a way over free points for a net that was not in use, and appends its legs
pub record Drew (r : Room) (s : Step) (l : Layout) (net : ℕ) (cs : List Point) : Type 0 where
  pub allowed : net_ok net ≡ true
  pub unused : in_use net l.entries ≡ false
  pub way : is_way (free l) cs ≡ true
  pub left : (ledger_step r s l).state ≡ with_entries l (l.entries ++ legs net cs)

lay-drew : (r : Room) (l : Layout) (net : ℕ) (S T : Point) (cs : List Point) (n : ℕ)
    → (ledger_step r (lay net S T) l).answer ≡ laid cs n → Drew r (lay net S T) l net cs
unfolding next
lay-drew r l net S T cs n h =
    let a = of-laid (lay-seeks net S T) r l cs n h in
    let p = passed r l net S T (unrefused-own r (lay net S T) l false a.unrefused) in
    record {
      allowed = p.allowed;
      unused = p.unused;
      way = path-way (free l) S (at T) cs (first-laid (lay-seeks net S T) r false l cs n a).0.path;
      left =
          unrefused-state r (lay net S T) l a.unrefused
          ∙ ap (λ (ds : List Point). with_entries l (l.entries ++ legs net ds)) (sym a.corners);
    }

book-drew : (r : Room) (l : Layout) (net : ℕ) (ks : List ℕ) (i n : ℕ)
    → (ledger_step r (book net ks) l).answer ≡ booked i n → Drew r (book net ks) l net (drawn ks)
unfolding ledger_step says next refusals
book-drew r l net ks i n h =
    let o = settled-booked (refusal_of r false (book net ks) l) _ _ i n _ _ h in
    let own : first (refusals (book net ks) r l) ≡ none = unrefused-own r (book net ks) l false o in
    record {
      allowed = not-ff (net_ok net) (search none-applies);
      unused = search none-applies;
      way = not-ff (is_way (free l) (drawn ks)) (search none-applies);
      left = unrefused-state r (book net ks) l o;
    }

-- so does a step of a list of calls that lays or books a track
pub tracks-drew : (m : Lent) (k : Moment) (later : List Moment) (net : ℕ) (cs : List Point) → Standing m k later
    → Tracks k net cs
    → Goes m k × Onward m k.ledger_after later × Drew k.room k.step k.ledger_before net cs
unfolding reads
tracks-drew m k later net cs w (inl (S, T, n, s, h)) =
    let g = goes_on m k later (lay net S T) w s refl in (
      g.0,
      g.1,
      subst (λ (x : Step). Drew k.room x k.ledger_before net cs) (sym s)
          (lay-drew k.room k.ledger_before net S T cs n (sym (answer-is m k (lay net S T) g.0 s) ∙ h)),
    )
tracks-drew m k later net cs w (inr (ks, i, n, s, is, h)) =
    let g = goes_on m k later (book net ks) w s refl in (
      g.0,
      g.1,
      subst₂ (λ (x : Step) (ds : List Point). Drew k.room x k.ledger_before net ds) (sym s) is
          (book-drew k.room k.ledger_before net ks i n (sym (answer-is m k (book net ks) g.0 s) ∙ h)),
    )

pub tracks-apart : TracksApart
tracks-apart m l cs b earlier k later e net ds t =
    let d = tracks-drew m k later net ds (at_every m l cs b earlier k later e) t in (
      ap (λ (x : Layout). x.entries) (d.0.left ∙ d.2.left),
      way_apart k.ledger_before net ds d.2.way,
    )
