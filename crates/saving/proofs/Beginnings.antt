-- The beginnings of a table, and whether some have too many strips.
use Prim.Native.Nat.{ℕ, zero, suc, ◌+◌, ◌≤◌, ◌<◌}
use native.Mathlib.Omega.{arith}
use mathlib.Core.Path.{◌≡◌, refl, sym, ap, ◌∙◌}
use Rattle.std.specs.Prelude.{Option as Built, Some, None, is_some}
use Rattle.strips.specs.Built.{Rebuilt}
use mathlib.Core.Bool.{Bool, true, false, not}
use mathlib.Core.List.{List, ◌∷◌, map}
use lib.ListN.{length, take}
use borrow.Author.Count.{below_more}
use borrow.Author.Tests.{lt-ltb, le-ltb}
use Rattle.foil_spec.specs.Lists.{range}
use Rattle.foil_spec.specs.Limits.{max_strips}
use Rattle.foil_spec.specs.Foil.{Entry, Pen, Rule, Layout, pen_rule}
use Rattle.foil_spec.specs.Strips.{Strip}
use Rattle.foil_spec.specs.Sound.{strips_by}
use Rattle.foil_spec.specs.Ledger.{strips_of, with_entries, is_too_fine, beginning_too_fine}
use Rattle.foil_spec.specs.Lent.{entry_at, layout_of}
use Rattle.list_laws.proofs.Members.{in-any, none_of, in-range, of_range}
use Rattle.ledger_laws.proofs.Rules.{strips-by}
use Rattle.ledger_laws.proofs.Sound.{length-read}
use Rattle.zones.specs.Table.{Table}

-- fewer entries of a table whose zones can be told
pub table-front : {t : List ℕ} {n w h : ℕ} {r : Rule} (k : ℕ) → k ≤ n → Table t n r w h → Table t k r w h
table-front k le b =
    record {
      len = omega (arith, b.len);
      few = omega (arith, b.few);
      small = b.small;
      sized = b.sized;
      x-order = λ j l. b.x-order j (omega arith);
      y-order = λ j l. b.y-order j (omega arith);
      x-end = λ j l. b.x-end j (omega arith);
      y-end = λ j l. b.y-end j (omega arith);
    }

-- the strips of a layout are counted
module _ (l : Layout) where
  -- the strips ss were built, or were too many, and r says which
  pub counted : (ss : List Strip) → ss ≡ strips_of l → (o out : List ℕ) (k : Built ℕ) → Rebuilt o out ss k
      → (r : Bool) → is_some k ≡ not r → r ≡ is_too_fine l
  unfolding is_too_fine
  counted ss are o out (Some c) h false e =
      sym (le-ltb max_strips (length (strips_of l)) (omega (arith, h.0, h.1, ap length are)))
  counted ss are o out (Some c) h true e = cc
  counted ss are o out None h true e =
      sym (lt-ltb max_strips (length (strips_of l)) (omega (arith, h.0, ap length are)))
  counted ss are o out None h false e = cc

-- the strips by the pen's rule are those of the layout
pub strips-are : (w h : ℕ) (p : Pen) (n : ℕ) (t : List ℕ) (r : Rule) → r ≡ pen_rule p
    → strips_by r w h (map (entry_at t) (range 0 n)) ≡ strips_of (layout_of w h p n t)
unfolding layout_of
strips-are w h p n t r e =
    ap (λ (q : Rule). strips_by q w h (map (entry_at t) (range 0 n))) e ∙ sym (strips-by (layout_of w h p n t))

take_places : {A : Type 0} (g : ℕ → A) (a k n : ℕ) → k ≤ n → take k (map g (range a n)) ≡ map g (range a k)
take_places g a zero n le = refl
take_places g a (suc k) zero le = absurd (omega arith)
take_places {A} g a (suc k) (suc n) le = ap (λ (xs : List A). g a ∷ xs) (take_places g (suc a) k n (omega arith))

module _ (t : List ℕ) (n : ℕ) (p : Pen) (w h : ℕ) where
  -- the foil, and whether its first k entries alone have too many strips
  abbrev foil : Layout
  foil = layout_of w h p n t

  abbrev alone : ℕ → Bool
  alone k = is_too_fine (layout_of w h p k t)

  -- the same as the definition has it
  abbrev begun : ℕ → Bool
  begun k = is_too_fine (with_entries foil (take k foil.entries))

  abbrev counts : List ℕ
  counts = range 0 (suc (length foil.entries))

  begun-is : (k : ℕ) → k ≤ n → begun k ≡ alone k
  unfolding layout_of
  begun-is k le = ap (λ (es : List Entry). is_too_fine (with_entries foil es)) (take_places (entry_at t) 0 k n le)

  entries-are : length foil.entries ≡ n
  unfolding layout_of
  entries-are = length-read t n

  -- the beginnings of fewer than k entries are fine
  pub record FineTo (k : ℕ) : Type 0 where
    pub up_to : k ≤ n + 1
    pub fine : (j : ℕ) → j < k → is_too_fine (layout_of w h p j t) ≡ false

  pub fine-none : FineTo 0
  fine-none = record { up_to = omega arith; fine = λ j l. absurd (omega arith) }

  pub fine-all : (k : ℕ) → n < k → FineTo k → false ≡ beginning_too_fine foil
  unfolding beginning_too_fine
  fine-all k past b =
      let few = entries-are in
      sym
      (none_of begun counts
      (λ j i.
      let l = of_range j 0 (suc (length foil.entries)) i in
      begun-is j (omega arith) ∙ b.fine j (omega arith)))

  -- r says whether the first k entries alone have too many strips
  module _ (k : ℕ) (r : Bool) (le : k ≤ n) (is : r ≡ is_too_fine (layout_of w h p k t)) where
    pub fine_more : r ≡ false → FineTo k → FineTo (k + 1)
    fine_more e b =
        record {
          up_to = omega arith;
          fine = below_more (λ (j : ℕ). alone j ≡ false) k b.fine (sym is ∙ e);
        }

    pub fine-not : r ≡ true → true ≡ beginning_too_fine foil
    unfolding beginning_too_fine
    fine-not e =
        let few = entries-are in
        sym
        (in-any begun k counts
        (in-range k 0 (suc (length foil.entries)) (omega arith) (omega arith))
        (begun-is k le ∙ sym is ∙ e))
