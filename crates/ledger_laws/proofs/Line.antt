-- Each step of the ledger keeps what lists of calls ask of it.
use Prim.Native.Nat.{ℕ, ◌+◌, ◌/◌, min, ◌≤◌, ◌<◌}
use native.Mathlib.Omega.{arith}
use mathlib.Core.Path.{◌≡◌, refl, sym, ap, ◌∙◌}
use mathlib.Core.Bool.{Bool, true, false, not, ◌&&◌, ◌||◌, or-true, true≢false}
use mathlib.Core.List.{List, [], ◌∷◌, ◌++◌, append-nil}
use mathlib.Core.Logic.{inl, inr}
use mathlib.Core.Option.{Option, none, some, get_or}
use lib.Dec.{leb, ltb, eqb}
use borrow.Author.Tests.{lt-ltb, ltb-true, ltb-false, leb-true, le-leb}
use lib.ListN.{length}
use Rattle.foil_spec.specs.Lists.{all, keep}
use Rattle.foil_spec.specs.Limits.{max_entries, report_places}
use Rattle.foil_spec.specs.Foil.{Point, Entry, entry, Pen, pen, Layout, no_foil, size_ok, reach_ok, pen_ok, net_ok}
use Rattle.foil_spec.specs.Foil.{box_ok, shape_ok, entry_ok, no_crossing, patch_margin, free}
use Rattle.foil_spec.specs.Strips.{Strip}
use Rattle.foil_spec.specs.Paths.{at, anywhere, either, leads, is_way, first_path_to}
use Rattle.foil_spec.specs.Corners.{drawn}
use Rattle.foil_spec.specs.Saving.{job_of}
use Rattle.foil_spec.specs.Slip.{slip_of}
use Rattle.foil_spec.specs.Nets.{of_net, in_use}
use Rattle.foil_spec.specs.Carrying.{Old, old_short, old_sound, carried}
use Rattle.foil_spec.specs.Ledger.{strips_of, path_of, corners_of, legs, with_entries, off_foil, Room, corner_room, too_long}
use Rattle.foil_spec.specs.Ledger.{is_too_fine, Clearance, by_pen, by_reach, pen_of, clearance_refusal, Step, new_foil, draw}
use Rattle.foil_spec.specs.Ledger.{lay, lift, look_up, put_leg, save, find, book, slip, join, carry}
use Rattle.foil_spec.specs.Ledger.{without, free_for, join_of, join_corners}
use Rattle.foil_spec.specs.Ledger.{number_of, next, says, refused, Refusal, first, reads, refusals, settle}
use Rattle.foil_spec.specs.Lent.{layout_ok}
use Rattle.list_laws.proofs.Tests.{clash, and_l, and_r, and_i, or_l, or_r, not_f, not-ff, both, parts, all_append}
use Rattle.list_laws.proofs.Tests.{all_keep}
use Rattle.list_laws.proofs.Members.{In, in-keep, length-keep}
use Rattle.path_laws.proofs.Laws.{gives-first}
use Rattle.path_laws.proofs.Ways.{path-way, way-is}
use Rattle.strip_laws.proofs.Strips.{Held}
use Rattle.strip_laws.proofs.Laws.{one-strip, no-strip}
use Rattle.ledger_laws.specs.Line.{Line, Lacks, corners, joint, bytes, page, LacksOld, but, numbers_from}
use Rattle.ledger_laws.specs.Line.{own_numbers, no_carry}
use Rattle.ledger_laws.specs.Demand2.{rim, bare, inner, BareStrips}
use Rattle.ledger_laws.proofs.Refusals.{no-rule, no_more, none-applies, first_passes}
use Rattle.zones.proofs.Free.{free-inside, free-far, bare-free}
use Rattle.ledger_laws.proofs.Legs.{legs-ok}
use Rattle.ledger_laws.proofs.Crossing.{bare-uncrossed, keep-uncrossed, patch-uncrossed, leg-uncrossed}
use Rattle.ledger_laws.proofs.Crossing.{net-not-zero, patch-not-of, way-uncrossed}
use Rattle.ledger_laws.proofs.Rules.{Keeps, of-ok, to-ok}
use Rattle.ledger_laws.proofs.Carried.{carried-ok}

-- ---- what the steps leave

module _ (W H : ℕ) (p : Pen) where
  abbrev m : ℕ
  m = rim p

  -- what the edge leaves of a foil without entries
  abbrev box : Strip
  box = inner W H p

  inner-free : (q : Point) → Held q box → free (bare W H p) q.x q.y ≡ true
  inner-free q k =
      bare-free p W H q.x q.y k.right (omega (arith, k.left)) k.below (omega (arith, k.above))

  free-inner : (q : Point) → free (bare W H p) q.x q.y ≡ true → Held q box
  free-inner q e =
      let (left, right, above, below) = free-far (bare W H p) q.x q.y e in
      record { right = left; left = omega arith; below = above; above = omega arith }

  pub bare-strips : BareStrips W H p
  unfolding strips_of
  bare-strips =
      both (ltb (m + m) W && ltb (m + m) H)
      (λ e.
      let across = ltb-true (m + m) W (and_l _ _ e) in
      let down = ltb-true (m + m) H (and_r (ltb (m + m) W) _ e) in
      rw e
      (one-strip (free (bare W H p)) W H box inner-free free-inner (omega arith) (omega arith) (omega arith)
      (omega arith)))
      (λ e.
      rw e
      (no-strip (free (bare W H p)) W H box inner-free free-inner
      (λ q k.
      clash
      (and_i (lt-ltb (m + m) W (omega (arith, k.right, k.left)))
      (lt-ltb (m + m) H (omega (arith, k.below, k.above))))
      e)))

  pub new-fine : is_too_fine (bare W H p) ≡ false
  unfolding is_too_fine
  new-fine = both (ltb (m + m) W && ltb (m + m) H) (λ e. rw (bare-strips, e) refl) (λ e. rw (bare-strips, e) refl)

pub patch-ok : (W H : ℕ) (x0 y0 x1 y1 : ℕ) → box_ok W H (entry 0 x0 y0 x1 y1) ≡ true
    → entry_ok W H (entry 0 x0 y0 x1 y1) ≡ true
unfolding entry_ok shape_ok
patch-ok W H x0 y0 x1 y1 h = rw h refl

pub booked-ok : (l : Layout) (net : ℕ) (cs : List Point) → net_ok net ≡ true → is_way (free l) cs ≡ true
    → all (entry_ok l.width l.height) (legs net cs) ≡ true
booked-ok l net cs h w = legs-ok l.width l.height net h (free l) (free-inside l) cs w

-- so are the legs of the first path to any target
first-ok : (l : Layout) (net : ℕ) (S : Point) (T : Point → Bool) (o : Option (List Point))
    → first_path_to (free l) l.width l.height S T ≡ o → net_ok net ≡ true
    → all (entry_ok l.width l.height) (legs net (get_or o [])) ≡ true
first-ok l net S T none e h = unfold legs in refl
first-ok l net S T (some cs) e h =
    let p = (gives-first (free l) l.width l.height (free-inside l) S T cs e).path in
    booked-ok l net cs h (path-way (free l) S T cs p)

laid-ok : (l : Layout) (net : ℕ) (S T : Point) → net_ok net ≡ true
    → all (entry_ok l.width l.height) (legs net (corners_of l S T)) ≡ true
unfolding corners_of path_of
laid-ok l net S T h = first-ok l net S (at T) (path_of l S T) refl h

joined-ok : (l : Layout) (net : ℕ) (S : Point) → net_ok net ≡ true
    → all (entry_ok l.width l.height) (legs net (join_corners net l S)) ≡ true
unfolding join_corners join_of free_for
joined-ok l net S h = first-ok (without net l) net S _ (join_of net l S) refl h

-- no patch of the row es crosses the legs of a first path over points that none of them blocks
first-uncrossed : (l : Layout) (net : ℕ) (S : Point) (T : Point → Bool) (o : Option (List Point)) (es : List Entry)
    → first_path_to (free l) l.width l.height S T ≡ o → net_ok net ≡ true
    → all (entry_ok l.width l.height) l.entries ≡ true
    → ((p : Entry) → In p es → eqb p.net 0 ≡ true → In p l.entries)
    → no_crossing (patch_margin l.pen) es ≡ true
    → no_crossing (patch_margin l.pen) (es ++ legs net (get_or o [])) ≡ true
unfolding legs
first-uncrossed l net S T none es e h ok patches clear = rw (append-nil es) clear
first-uncrossed l net S T (some cs) es e h ok patches clear =
    let p = (gives-first (free l) l.width l.height (free-inside l) S T cs e).path in
    way-uncrossed l ok net h cs (path-way (free l) S T cs p) es patches clear

laid-uncrossed : (l : Layout) (net : ℕ) (S T : Point) → net_ok net ≡ true → Keeps l
    → no_crossing (patch_margin l.pen) (l.entries ++ legs net (corners_of l S T)) ≡ true
unfolding corners_of path_of
laid-uncrossed l net S T h k =
    first-uncrossed l net S (at T) (path_of l S T) l.entries refl h k.entries (λ p i t. i) k.uncrossed

-- the entries of a net that is left out are no patches
joined-uncrossed : (l : Layout) (net : ℕ) (S : Point) → net_ok net ≡ true → Keeps l
    → no_crossing (patch_margin l.pen) (l.entries ++ legs net (join_corners net l S)) ≡ true
unfolding join_corners join_of free_for
joined-uncrossed l net S h k =
    first-uncrossed (without net l) net S _ (join_of net l S) l.entries refl h
    (all_keep (entry_ok l.width l.height) (λ (e : Entry). not (of_net net e)) l.entries k.entries)
    patches k.uncrossed
  where
    patches : (p : Entry) → In p l.entries → eqb p.net 0 ≡ true
        → In p (keep (λ (e : Entry). not (of_net net e)) l.entries)
    patches p i t =
        in-keep (λ (e : Entry). not (of_net net e)) p l.entries i (not_f (patch-not-of net h p t))

-- no more entries than a foil may have are no more than a table has places
few-after : (r : Room) (l : Layout) → too_long r l ≡ false → length l.entries ≤ max_entries
unfolding too_long
few-after r l h = omega (arith, ltb-false (min max_entries r.limit) (length l.entries) h)

-- ---- the rules are kept by entries that are appended, or taken out

appended : (r : Room) (l : Layout) (es : List Entry) → layout_ok l ≡ true
    → all (entry_ok l.width l.height) es ≡ true
    → no_crossing (patch_margin l.pen) (l.entries ++ es) ≡ true → too_long r (with_entries l (l.entries ++ es)) ≡ false
    → is_too_fine (with_entries l (l.entries ++ es)) ≡ false → layout_ok (with_entries l (l.entries ++ es)) ≡ true
appended r l es g ok clear long fine =
    let k = of-ok l g in
    to-ok _
    (record {
      width = k.width;
      height = k.height;
      pen = k.pen;
      entries = all_append (entry_ok l.width l.height) l.entries es k.entries ok;
      long = le-leb (length (l.entries ++ es)) max_entries (few-after r _ long);
      uncrossed = clear;
      fine = fine;
    })

taken_out : (l : Layout) (p : Entry → Bool) → layout_ok l ≡ true
    → is_too_fine (with_entries l (keep p l.entries)) ≡ false → layout_ok (with_entries l (keep p l.entries)) ≡ true
taken_out l p g fine =
    let k = of-ok l g in
    let few = leb-true (length l.entries) max_entries k.long in
    to-ok _
    (record {
      width = k.width;
      height = k.height;
      pen = k.pen;
      entries = all_keep (entry_ok l.width l.height) p l.entries k.entries;
      long = le-leb (length (keep p l.entries)) max_entries (omega (arith, few, length-keep p l.entries));
      uncrossed = keep-uncrossed (patch_margin l.pen) p l.entries k.uncrossed;
      fine = fine;
    })

-- ---- 12

-- a step that has no 12 of its own is not refused by it
no-12 : (rs : List Refusal) → all (λ (c : Refusal). not c.applies || but 12 c.number) rs ≡ true
    → first rs ≡ some 12 → ⊥
unfolding but
no-12 rs h e = true≢false (sym (first_passes (but 12) rs h 12 e))

-- a step that is refused by 12, but not where its corners have room, has more corners than places
corners-12 : (cs : List Point) (s : Step) (r : Room) (l : Layout) (rs : List Refusal)
    → (corner_room r < length cs → Lacks s r l)
    → (ltb (corner_room r) (length cs) ≡ false
    → all (λ (c : Refusal). not c.applies || but 12 c.number) rs ≡ true)
    → first rs ≡ some 12 → Lacks s r l
corners-12 cs s r l rs lacks h e =
    both (ltb (corner_room r) (length cs))
    (λ t. lacks (ltb-true (corner_room r) (length cs) t))
    (λ t. absurd (no-12 rs (h t) e))

-- a save that is refused by 12 has more bytes than are lent
save-12 : (r : Room) (l : Layout) → first (refusals save r l) ≡ some 12 → Lacks save r l
unfolding refusals but
save-12 r l e =
    both (ltb r.output (length (job_of l)))
    (λ t. bytes (ltb-true r.output (length (job_of l)) t))
    (λ t. absurd (no-12 _ (simp (t, or-true)) e))

-- so has a slip
slip-12 : (r : Room) (l : Layout) → first (refusals slip r l) ≡ some 12 → Lacks slip r l
unfolding refusals but
slip-12 r l e =
    both (ltb r.output (length (slip_of l)))
    (λ t. page (ltb-true r.output (length (slip_of l)) t))
    (λ t. absurd (no-12 _ (simp t) e))

-- ---- where no foil is begun

no-box : (e : Entry) → box_ok 0 0 e ≡ true → ⊥
unfolding box_ok
no-box e h =
    let a : ltb e.x0 e.x1 ≡ true = search parts in
    let b : leb e.x1 0 ≡ true = search parts in
    omega (arith, ltb-true e.x0 e.x1 a, leb-true e.x1 0 b)

all-off : (p : Point) → off_foil no_foil p ≡ true
unfolding off_foil
all-off p = simp (le-leb 0 p.x (omega arith))

no-drawing : (cs : List Point) → is_way (free no_foil) cs ≡ true → ⊥
unfolding is_way
no-drawing [] w = true≢false (sym w)
no-drawing (p ∷ cs) w =
    let k : (free no_foil p.x p.y && leads (free no_foil) anywhere either p cs) ≡ true =
    sym (way-is (free no_foil) p cs) ∙ w in
    omega (arith, (free-inside no_foil p.x p.y (and_l _ _ k)).0)

-- ---- rooms with as much output and the same limit

pub same-long : (r r' : Room) (l : Layout) → r.limit ≡ r'.limit → too_long r l ≡ too_long r' l
unfolding too_long
same-long r r' l f = ap (λ (n : ℕ). ltb (min max_entries n) (length l.entries)) f

same-corners : (r r' : Room) → r.output ≡ r'.output → corner_room r ≡ corner_room r'
unfolding corner_room
same-corners r r' e = ap (λ (n : ℕ). n / 2) e

-- ---- the lines

-- the pen of a clearance that is not refused is within its limits
pub pen-allowed : (c : Clearance) → (clearance_refusal c).applies ≡ false → pen_ok (pen_of c) ≡ true
unfolding clearance_refusal pen_of pen_ok reach_ok
pen-allowed (by_pen p) h = not-ff _ h
pen-allowed (by_reach d) h = not-ff _ h

-- a clearance is refused by 2 or 20
pub clearance-number : (p : ℕ → Bool) (c : Clearance) → p 2 ≡ true → p 20 ≡ true
    → p (clearance_refusal c).number ≡ true
unfolding clearance_refusal
clearance-number p (by_pen q) a b = b
clearance-number p (by_reach d) a b = a

module _ (W H : ℕ) (c : Clearance) where
  sizes : (r : Room) (l : Layout) → first (refusals (new_foil W H c) r l) ≡ none
      → (size_ok W ≡ true) × (size_ok H ≡ true) × (pen_ok (pen_of c) ≡ true)
  unfolding refusals
  sizes r l h =
      let s : (size_ok W && size_ok H) ≡ true = not-ff _ (search none-applies) in
      (and_l (size_ok W) (size_ok H) s, and_r (size_ok W) (size_ok H) s, pen-allowed c (no-rule _ _ [] (no_more _ 1 _ h)))

  new_line : Line (new_foil W H c)
  unfolding next says number_of numbers_from own_numbers but refusals reads
  new_line = record {
    kept = λ r l g h.
        let s = sizes r l h in
        to-ok _
        (record {
          width = s.0;
          height = s.1;
          pen = s.2;
          entries = refl;
          long = refl;
          uncrossed = bare-uncrossed (patch_margin (pen_of c));
          fine = new-fine W H (pen_of c);
        });
    unbegun = λ z. clash z refl;
    accepts = λ l. refl;
    numbers = λ r l. refl;
    unbroken = λ z. clearance-number (λ n. all (but 13) (keep (but 12) (1 ∷ n ∷ []))) c refl refl;
    of_room = λ r r' l e f. refl;
    blind = λ z r l l'. (refl, refl, refl);
    output = λ r l h. absurd (no-12 _ (simp (clearance-number (but 12) c refl refl, or-true)) h);
  }

draw-line : (x0 y0 x1 y1 : ℕ) → Line (draw x0 y0 x1 y1)
unfolding next says number_of numbers_from own_numbers but refusals reads
draw-line x0 y0 x1 y1 = record {
  kept = λ r l g h.
      let e : entry_ok l.width l.height (entry 0 x0 y0 x1 y1) ≡ true =
      patch-ok l.width l.height x0 y0 x1 y1 (not-ff _ (search none-applies)) in
      appended r l (entry 0 x0 y0 x1 y1 ∷ []) (g refl)
      (and_i {a = entry_ok l.width l.height (entry 0 x0 y0 x1 y1)} e refl)
      (patch-uncrossed (patch_margin l.pen) l.entries (entry 0 x0 y0 x1 y1) refl (of-ok l (g refl)).uncrossed
      (search none-applies))
      (search none-applies depth 9) (search none-applies depth 9);
  unbegun = λ t r h. absurd (no-box (entry 0 x0 y0 x1 y1) (not-ff _ (search none-applies)));
  accepts = λ l. refl;
  numbers = λ r l. refl;
  unbroken = λ n. refl;
  of_room = λ r r' l e f. rw (same-long r r' _ f) refl;
  blind = λ z. absurd (true≢false z);
  output = λ r l h. absurd (no-12 _ (simp or-true) h);
}

lay-line : (net : ℕ) (S T : Point) → Line (lay net S T)
unfolding next says number_of numbers_from own_numbers but refusals reads corners_of
lay-line net S T = record {
  kept = λ r l g h.
      appended r l (legs net (corners_of l S T)) (g refl)
      (laid-ok l net S T (not-ff (net_ok net) (search none-applies)))
      (laid-uncrossed l net S T (not-ff (net_ok net) (search none-applies)) (of-ok l (g refl)))
      (search none-applies depth 12) (search none-applies depth 12);
  unbegun = λ t r h. clash (all-off S) (or_l (off_foil no_foil S) (off_foil no_foil T) (search none-applies));
  accepts = λ l. refl;
  numbers = λ r l. refl;
  unbroken = λ n. refl;
  of_room = λ r r' l e f. rw (same-long r r' _ f, same-corners r r' e) refl;
  blind = λ z. absurd (true≢false z);
  output = λ r l h.
      inl (refl, corners-12 (corners_of l S T) (lay net S T) r l _ (corners S T) (λ t. simp (t, or-true)) h);
}

lift-line : (net : ℕ) → Line (lift net)
unfolding next says number_of numbers_from own_numbers but refusals reads
lift-line net = record {
  kept = λ r l g h. taken_out l (λ e. not (of_net net e)) (g refl) (search none-applies depth 9);
  unbegun = λ t r h. refl;
  accepts = λ l. refl;
  numbers = λ r l. refl;
  unbroken = λ n. refl;
  of_room = λ r r' l e f. refl;
  blind = λ z. absurd (true≢false z);
  output = λ r l h. absurd (no-12 _ (simp or-true) h);
}

look-line : (p : Point) → Line (look_up p)
unfolding next says number_of numbers_from own_numbers but refusals reads
look-line p = record {
  kept = λ r l g h. g refl;
  unbegun = λ t r h. refl;
  accepts = λ l. refl;
  numbers = λ r l. refl;
  unbroken = λ n. refl;
  of_room = λ r r' l e f. refl;
  blind = λ z. absurd (true≢false z);
  output = λ r l h. absurd (no-12 _ (simp or-true) h);
}

leg-line : (e : Entry) → Line (put_leg e)
unfolding next says number_of numbers_from own_numbers but refusals reads entry_ok
leg-line e = record {
  kept = λ r l g h.
      appended r l (e ∷ []) (g refl)
      (and_i {a = entry_ok l.width l.height e} (not-ff _ (search none-applies)) refl)
      (leg-uncrossed (patch_margin l.pen) l.entries e
      (net-not-zero e.net (not-ff (net_ok e.net) (search none-applies))) (of-ok l (g refl)).uncrossed
      (search none-applies depth 9))
      (search none-applies depth 9) (search none-applies depth 9);
  unbegun = λ t r h. absurd (no-box e (and_l (box_ok 0 0 e) (shape_ok e) (not-ff _ (search none-applies))));
  accepts = λ l. refl;
  numbers = λ r l. refl;
  unbroken = λ n. refl;
  of_room = λ r r' l e f. rw (same-long r r' _ f) refl;
  blind = λ z. absurd (true≢false z);
  output = λ r l h. absurd (no-12 _ (simp or-true) h);
}

save-line : Line save
unfolding next says number_of numbers_from own_numbers but refusals reads
save-line = record {
  kept = λ r l g h. g refl;
  unbegun = λ t r h. refl;
  accepts = λ l. refl;
  numbers = λ r l. refl;
  unbroken = λ n. refl;
  of_room = λ r r' l e f. rw e refl;
  blind = λ z. absurd (true≢false z);
  output = λ r l h. inl (refl, save-12 r l h);
}

find-line : (S T : Point) → Line (find S T)
unfolding next says number_of numbers_from own_numbers but refusals reads
find-line S T = record {
  kept = λ r l g h. g refl;
  unbegun = λ t r h. refl;
  accepts = λ l. refl;
  numbers = λ r l. refl;
  unbroken = λ n. refl;
  of_room = λ r r' l e f. rw (same-corners r r' e) refl;
  blind = λ z. absurd (true≢false z);
  output = λ r l h.
      inl (refl, corners-12 (corners_of l S T) (find S T) r l _ (corners S T) (λ t. simp (t, or-true)) h);
}

book-line : (net : ℕ) (ks : List ℕ) → Line (book net ks)
unfolding next says number_of numbers_from own_numbers but refusals reads
book-line net ks = record {
  kept = λ r l g h.
      appended r l (legs net (drawn ks)) (g refl)
      (booked-ok l net (drawn ks) (not-ff (net_ok net) (search none-applies)) (not-ff _ (search none-applies)))
      (way-uncrossed l (of-ok l (g refl)).entries net (not-ff (net_ok net) (search none-applies)) (drawn ks)
      (not-ff _ (search none-applies)) l.entries (λ p i t. i) (of-ok l (g refl)).uncrossed)
      (search none-applies depth 9) (search none-applies depth 9);
  unbegun = λ t r h. absurd (no-drawing (drawn ks) (not-ff _ (search none-applies)));
  accepts = λ l. refl;
  numbers = λ r l. refl;
  unbroken = λ n. refl;
  of_room = λ r r' l e f. rw (same-long r r' _ f) refl;
  blind = λ z. absurd (true≢false z);
  output = λ r l h. absurd (no-12 _ (simp or-true) h);
}

slip-line : Line slip
unfolding next says number_of numbers_from own_numbers but refusals reads
slip-line = record {
  kept = λ r l g h. g refl;
  unbegun = λ t r h. refl;
  accepts = λ l. refl;
  numbers = λ r l. refl;
  unbroken = λ n. refl;
  of_room = λ r r' l e f. rw e refl;
  blind = λ z. absurd (true≢false z);
  output = λ r l h. inl (refl, slip-12 r l h);
}

join-line : (net : ℕ) (S : Point) → Line (join net S)
unfolding next says number_of numbers_from own_numbers but refusals reads
join-line net S = record {
  kept = λ r l g h.
      appended r l (legs net (join_corners net l S)) (g refl)
      (joined-ok l net S (not-ff (net_ok net) (search none-applies)))
      (joined-uncrossed l net S (not-ff (net_ok net) (search none-applies)) (of-ok l (g refl)))
      (search none-applies depth 12) (search none-applies depth 12);
  unbegun = λ t r h. unfold in_use in clash (not-ff (in_use net []) (search none-applies)) refl;
  accepts = λ l. refl;
  numbers = λ r l. refl;
  unbroken = λ n. refl;
  of_room = λ r r' l e f. rw (same-long r r' _ f, same-corners r r' e) refl;
  blind = λ z. absurd (true≢false z);
  output = λ r l h.
      inl (refl, corners-12 (join_corners net l S) (join net S) r l _ (joint net S refl) (λ t. simp (t, or-true)) h);
}

-- a carry that is refused by 12 of its own is lent too little
carry-12 : (o : Old) (r : Room) (l : Layout) → first (refusals (carry o) r l) ≡ some 12 → LacksOld (carry o) r
unfolding refusals but
carry-12 o r l e =
    both (old_short o || ltb r.output report_places)
    (λ t. record { from = o; is = refl; lacks = t })
    (λ t.
    absurd
    (no-12 _
    (simp (
      or_l (old_short o) (ltb r.output report_places) t,
      or_r (old_short o) (ltb r.output report_places) t,
      or-true,
    ))
    e))

carry-line : (o : Old) → Line (carry o)
unfolding next says number_of numbers_from own_numbers but refusals reads no_carry
carry-line o = record {
  kept = λ r l g h. carried-ok o (not-ff (old_sound o) (search none-applies)) (search none-applies depth 9);
  unbegun = λ z. clash z refl;
  accepts = λ l. refl;
  numbers = λ r l. refl;
  unbroken = λ n. clash n refl;
  of_room = λ r r' l e f. rw (same-long r r' (carried o) f, e) refl;
  blind = λ z r l l'. (refl, refl, refl);
  output = λ r l h. inr (carry-12 o r l h);
}

-- what every step keeps
pub line : (s : Step) → Line s
line (new_foil W H c) = new_line W H c
line (draw x0 y0 x1 y1) = draw-line x0 y0 x1 y1
line (lay net S T) = lay-line net S T
line (lift net) = lift-line net
line (look_up p) = look-line p
line (put_leg e) = leg-line e
line save = save-line
line (find S T) = find-line S T
line (book net ks) = book-line net ks
line slip = slip-line
line (join net S) = join-line net S
line (carry o) = carry-line o

-- a step that answers a refusal was refused by its number
pub settled-refused : {A : Type 0} (o : Option ℕ) (s : Step) (l : Layout) (new old : A) (n : ℕ) → 0 < n
    → (settle o (record { answer = says s l; state = new }) old).answer ≡ refused n → o ≡ some n
unfolding settle number_of
settled-refused none s l new old n h e = absurd (omega (arith, h, sym ((line s).accepts l) ∙ ap number_of e))
settled-refused (some k) s l new old n h e = ap {A = ℕ} {B = Option ℕ} some (ap number_of e)
