-- Demand 2: lists that hold the ledger's layout have the strips of its free points.
use Prim.Native.Nat.{ℕ, ◌+◌, ◌-◌, ◌*◌, ◌≤◌, ◌<◌}
use native.Mathlib.Omega.{arith}
use mathlib.Core.Path.{◌≡◌, refl, sym, ap, ap₂, ◌∙◌, subst}
use mathlib.Core.Bool.{Bool, cond, ◌&&◌, and-false}
use mathlib.Core.List.{List, map}
use lib.Dec.{ltb}
use lib.ListN.{length, get_or, length-append, length-replicate, length-drop}
use borrow.Author.Tests.{lt-ltb}
use Rattle.foil_spec.specs.Lists.{range, keep, each}
use Rattle.foil_spec.specs.Limits.{strips_size}
use Rattle.foil_spec.specs.Foil.{Point, Layout, free}
use Rattle.foil_spec.specs.Strips.{Strip, holds}
use Rattle.foil_spec.specs.Ledger.{strips_of}
use Rattle.foil_spec.specs.Lent.{Lent, strip_numbers, written, board_of, store, listed_strip, listed_strips}
use Rattle.foil_spec.proofs.Written.{written-zero}
use Rattle.list_laws.proofs.Tests.{both}
use Rattle.list_laws.proofs.Members.{In, in_map, in-range, Sorted, sorted-places}
use Rattle.strip_laws.specs.Rules.{strip_before}
use Rattle.strip_laws.proofs.Listed.{listed-written}
use Rattle.strip_laws.proofs.Laws.{listed-strip, strips-in-order, partition}
use Rattle.ledger_laws.specs.Demand2.{StripsRight, StripsStayRight}
use Rattle.ledger_laws.proofs.Stored.{length-strips, strips-fit}
use Rattle.zones.proofs.Free.{free-inside}
use Rattle.ledger_laws.proofs.Moments.{Shows, at_every, after-step}

-- a free point is on the foil
on-foil : (l : Layout) (p : Point)
    → (ltb p.x l.width && (ltb p.y l.height && free l p.x p.y)) ≡ free l p.x p.y
on-foil l p =
    both (free l p.x p.y)
    (λ e.
    let i = free-inside l p.x p.y e in
    rw (lt-ltb p.x l.width i.0, lt-ltb p.y l.height i.1) refl)
    (λ e. simp (e, and-false))

module _ (m : Lent) (l : Layout) (n : Lent) (s : Shows m l n) where
  abbrev count : ℕ
  count = n.board.strips

  pub counted : count ≡ length (strips_of l)
  unfolding store board_of
  counted = ap (λ (x : Lent). x.board.strips) s.is

  strips-are : n.strips ≡ (store l m).strips
  strips-are = ap (λ (x : Lent). x.strips) s.is

  pub listed : listed_strips n.strips count ≡ strips_of l
  unfolding store
  listed =
      ap₂ (λ (ns : List ℕ) (c : ℕ). listed_strips ns c) strips-are counted
      ∙ listed-written strips_size (strips_of l) m.strips

  fits : length (each strip_numbers (strips_of l)) ≤ strips_size
  fits = strips-fit l s.kept

  long-list : strips_size ≤ length n.strips
  unfolding store written
  long-list = rw strips-are (simp (length-append, length-replicate, length-drop) (omega (arith, fits)))

  pub in_list : (k : ℕ) → k < count → In (listed_strip n.strips k) (strips_of l)
  unfolding listed_strips
  in_list k lt =
      subst (In (listed_strip n.strips k)) listed
      (in_map (listed_strip n.strips) k (range 0 count) (in-range k 0 count (omega arith) (omega arith)))

  ordered : Sorted strip_before (map (listed_strip n.strips) (range 0 count))
  unfolding strips_of listed_strips
  ordered = subst (Sorted strip_before) (sym listed) (strips-in-order (free l) l.width l.height)

  zero-at : (i : ℕ) → count * 4 ≤ i → i < strips_size → get_or n.strips i 0 ≡ 0
  unfolding store
  zero-at i a b =
      let ns : List ℕ = each strip_numbers (strips_of l) in
      let k = length-strips (strips_of l) in
      let q : length ns + (i - length ns) ≡ i = omega (arith, counted, k) in
      ap₂ (λ (x : List ℕ) (j : ℕ). get_or x j 0) strips-are (sym q)
      ∙ written-zero strips_size ns m.strips fits (i - length ns) (omega (arith, q))

  pub strips-right : StripsRight l n
  unfolding strips_of
  strips-right =
      record {
        long = long-list;
        few = omega (arith, fits, counted, length-strips (strips_of l));
        are-strips = λ k lt. listed-strip (free l) l.width l.height (listed_strip n.strips k) (in_list k lt);
        in_order = λ j k lt le.
            sorted-places strip_before (listed_strip n.strips) 0 count ordered j k (omega arith) lt (omega arith);
        each-in-one = λ p.
            ap (λ (ss : List Strip). length (keep (holds p) ss)) listed
            ∙ partition (free l) l.width l.height p
            ∙ ap (λ (b : Bool). cond b 1 0) (on-foil l p);
        zeros = zero-at;
      }

pub strips-stay-right : StripsStayRight
strips-stay-right m l cs b earlier k later e =
    strips-right m k.ledger_after k.after (after-step m k later (at_every m l cs b earlier k later e))
