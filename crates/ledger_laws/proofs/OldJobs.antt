-- Jobs without pens give what they gave, but for points near the edge.
use Prim.Native.Nat.{ℕ, ◌+◌, ◌/◌, ◌%◌}
use native.Mathlib.Omega.{arith}
use mathlib.Core.Path.{◌≡◌, refl, sym, ap, ◌∙◌, fun_ext}
use mathlib.Core.Bool.{Bool, true, false, not, ◌&&◌, ◌||◌, xor, and-true, and-false, or-false}
use mathlib.Core.List.{List, [], ◌∷◌}
use mathlib.Core.Logic.{⊎_elim}
use lib.Dec.{leb, ltb, eqb}
use lib.ListN.{length}
use borrow.Author.Tests.{le-leb, lt-leb, eqb-false, ltb-true}
use Rattle.foil_spec.specs.Lists.{all}
use Rattle.foil_spec.specs.Foil.{Entry, pen, Rule, reach_ok, blocks, pen_rule, reach_rule, margin, near_edge, free_by, free}
use Rattle.foil_spec.specs.Ledger.{by_pen, by_reach, pen_of, clearance_refusal, new_foil, draw, lay, lift, look_up}
use Rattle.foil_spec.specs.Ledger.{put_leg, save, find, book, slip, join, carry, next, ◌⇒◌, refusals}
use Rattle.foil_spec.specs.Job.{map_byte, has, fields_at, record_end, step_at, is_end, record_checks}
use Rattle.foil_spec.specs.Calls.{ends_job}
use Rattle.list_laws.proofs.Tests.{both, clash, lt-or-le}
use Rattle.zones.proofs.Free.{far}
use Rattle.ledger_laws.specs.Line.{but, numbers_from, own_numbers}
use Rattle.ledger_laws.specs.Numbers.{among}
use Rattle.ledger_laws.specs.OldJobs.{old_checks, OldRecords, OldBoards, OldFree, OnlyPens20, OldEnds}

-- ---- records

-- a byte without bit 5 is below 32, or not below 64
known-before : (n : ℕ) → eqb (n / 32 % 2) 1 ≡ false → leb 64 n ≡ leb 32 n
known-before n h =
    let odd = eqb-false (n / 32 % 2) 1 h in
    ⊎_elim
    (λ below. lt-leb 64 n (omega arith) ∙ sym (lt-leb 32 n below))
    (λ above. le-leb 64 n (omega arith) ∙ sym (le-leb 32 n above))
    (lt-or-le n 32)

module _ (bs : List ℕ) (at : ℕ) (h : has bs at 5 ≡ false) where
  known_same : leb 64 (map_byte bs at) ≡ leb 32 (map_byte bs at)
  unfolding has
  known_same = known-before (map_byte bs at) h

  board-same : (xor (eqb at 0) (has bs at 0) || has bs at 5 && not (has bs at 0)) ≡ xor (eqb at 0) (has bs at 0)
  board-same = rw h (or-false (xor (eqb at 0) (has bs at 0)))

  end_same : record_end bs at ≡ fields_at bs at 5
  unfolding record_end fields_at
  end_same = rw h (omega arith)

  checks-same : record_checks bs at ≡ old_checks bs at
  unfolding record_checks old_checks
  checks-same = λ i.
      (leb (length bs) at ⇒ 14)
      ∷ (known_same i ⇒ 15)
      ∷ (board-same i ⇒ 16)
      ∷ (is_end bs at && ltb (at + 1) (length bs) ⇒ 17)
      ∷ (not (is_end bs at) && ltb (length bs) (end_same i) ⇒ 14)
      ∷ []

pub old-records : OldRecords
unfolding step_at
old-records bs at h = record { checks = checks-same bs at h; ends = end_same bs at h; board = rw h refl }

-- ---- boards

pub old-boards : OldBoards
unfolding refusals clearance_refusal reach_ok next pen_of
old-boards W H d r l = record { refusals-are = refl; leaves = refl }

-- ---- what is free

-- the rule by which all entries block up to d away, and the edge up to k
abbrev even : ℕ → ℕ → Rule
even d k = record { patch = d; leg = d; edge = k }

pen-even : (d k : ℕ) → d ≡ k → pen_rule (pen 0 d) ≡ even d k
unfolding pen_rule
pen-even d k e =
    let patch : 0 + d ≡ d = omega arith in
    let leg : 0 + (0 + d) ≡ d = omega arith in
    let edge : 0 + d ≡ k = omega arith in
    λ i. record { patch = patch i; leg = leg i; edge = edge i }

even-margin : (d k : ℕ) (e : Entry) → margin (even d k) e ≡ d
unfolding margin
even-margin d k e = both (eqb e.net 0) (λ t. rw t refl) (λ t. rw t refl)

swapped : (a b c : Bool) → (a && b && c) ≡ (a && c && b)
swapped true true c = sym (and-true c)
swapped true false c = sym (and-false c)
swapped false b c = refl

module _ (W H d : ℕ) (es : List Entry) (x y : ℕ) where
  -- on the foil, and no entry blocks the point
  abbrev clear : Bool
  clear = ltb x W && ltb y H && all (λ (e : Entry). not (blocks d e x y)) es

  even-free : (k : ℕ) → free_by (even d k) W H es x y ≡ (clear && not (near_edge k W x || near_edge k H y))
  unfolding free_by
  even-free k =
      ap (λ (p : Entry → Bool). ltb x W && ltb y H && not (near_edge k W x || near_edge k H y) && all p es)
      (fun_ext (λ (e : Entry). ap (λ (n : ℕ). not (blocks n e x y)) (even-margin d k e)))
      ∙ swapped (ltb x W && ltb y H) _ _

  -- no point of the foil is nearer than 0 to its edge
  by-reach : free_by (reach_rule d) W H es x y ≡ clear
  unfolding reach_rule
  by-reach =
      even-free 0
      ∙ both (ltb x W)
      (λ lx.
      both (ltb y H)
      (λ ly.
      rw (far 0 W x (omega arith) (omega (arith, ltb-true x W lx)))
      (rw (far 0 H y (omega arith) (omega (arith, ltb-true y H ly))) (and-true clear)))
      (λ ly. rw (lx, ly) refl))
      (λ lx. rw lx refl)

pub old-free : OldFree
unfolding free reach_rule
old-free W H d es x y =
    record {
      by-reach = by-reach W H d es x y;
      by-pen =
          ap (λ (r : Rule). free_by r W H es x y) (pen-even d d refl)
          ∙ even-free W H d es x y d
          ∙ ap (λ (t : Bool). t && not (near_edge d W x || near_edge d H y)) (sym (by-reach W H d es x y));
      by-none = λ z. ap (λ (r : Rule). free_by r W H es x y) (pen-even d 0 z);
    }

-- ---- numbers

pub only-pens-20 : OnlyPens20
unfolding own_numbers numbers_from but among refusals clearance_refusal
only-pens-20 (new_foil W H (by_pen p)) h = (W, H, p, refl)
only-pens-20 (new_foil W H (by_reach d)) h = clash h refl
only-pens-20 (draw x0 y0 x1 y1) h = clash h refl
only-pens-20 (lay net S T) h = clash h refl
only-pens-20 (lift net) h = clash h refl
only-pens-20 (look_up p) h = clash h refl
only-pens-20 (put_leg e) h = clash h refl
only-pens-20 save h = clash h refl
only-pens-20 (find S T) h = clash h refl
only-pens-20 (book net ks) h = clash h refl
only-pens-20 slip h = clash h refl
only-pens-20 (join net S) h = clash h refl
only-pens-20 (carry o) h = clash h refl

pub old-ends : OldEnds
unfolding ends_job
old-ends n h = ap (λ (t : Bool). (eqb n 1 || eqb n 2) || t) h ∙ or-false (eqb n 1 || eqb n 2)
