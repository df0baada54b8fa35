-- The slip of a foil that keeps the rules can be read.
use Prim.Native.Nat.{ℕ, zero, suc, ◌+◌, ◌*◌, ◌≤◌, ◌<◌}
use native.Mathlib.Omega.{arith}
use mathlib.Core.Path.{◌≡◌, refl, sym, ap, ◌∙◌, subst}
use mathlib.Core.Bool.{true}
use mathlib.Core.List.{List, [], ◌∷◌, ◌++◌}
use mathlib.Core.Logic.{inl, inr}
use lib.ListN.{length, get_or, take, drop, length-append}
use lib.Seq.{take_at, drop-append-add}
use borrow.Author.Tests.{leb-true}
use Rattle.foil_spec.specs.Lists.{range, each}
use Rattle.foil_spec.specs.Limits.{max_entries}
use Rattle.foil_spec.specs.Foil.{Entry, Layout}
use Rattle.foil_spec.specs.Nets.{of_net, in_use, nets_of, legs_of, net_length, first_point}
use Rattle.foil_spec.specs.Slip.{net_line, slip_of}
use Rattle.foil_spec.specs.Lent.{layout_ok}
use Rattle.list_laws.proofs.Members.{In, in-keep, of-keep, of-any, of-all, in_place, sorted-keep}
use Rattle.list_laws.proofs.Members.{in-range, of_range, sorted-range}
use Rattle.list_laws.proofs.Counting.{few-numbers}
use Rattle.ledger_laws.proofs.Rules.{of-ok}
use Rattle.slip_laws.specs.Page.{NetRight, NarrowNet, PageRight, SlipsRight}
use Rattle.slip_laws.proofs.Wide.{net-most, none-too-wide}
use Rattle.slip_laws.proofs.Reading.{line-long, line-right}

-- lines of 33 bytes, one after the other
module _ (f : ℕ → List ℕ) where
  pub lines_long : (xs : List ℕ) → ((x : ℕ) → In x xs → length (f x) ≡ 33) → length (each f xs) ≡ 33 * length xs
  lines_long [] h = refl
  lines_long (x ∷ xs) h =
      omega (arith, length-append (f x) (each f xs), h x (inl refl), lines_long xs (λ y k. h y (inr k)))

  line_at : (xs : List ℕ) → ((x : ℕ) → In x xs → length (f x) ≡ 33) → (i : ℕ) → i < length xs
      → take 33 (drop (33 * i) (each f xs)) ≡ f (get_or xs i 0)
  line_at [] h i l = absurd (omega arith)
  line_at (x ∷ xs) h zero l = take_at (f x) (each f xs) 33 (h x (inl refl))
  line_at (x ∷ xs) h (suc i) l =
      let first = h x (inl refl) in
      let e : 33 * suc i ≡ length (f x) + 33 * i = omega arith in
      ap (λ (k : ℕ). take 33 (drop k (f x ++ each f xs))) e
      ∙ ap (λ (ys : List ℕ). take 33 ys) (drop-append-add (f x) (each f xs) (33 * i))
      ∙ line_at xs (λ y k. h y (inr k)) i (omega arith)

-- no more nets are in a table than there are entries
pub few-nets : (es : List Entry) → length (nets_of es) ≤ length es
unfolding nets_of in_use of_net
few-nets es = few-numbers (λ (e : Entry). e.net) es 1 999

module _ (l : Layout) (ok : layout_ok l ≡ true) where
  abbrev es : List Entry
  es = l.entries

  used-most : (net : ℕ) → in_use net es ≡ true → net ≤ 999
  unfolding in_use
  used-most net used =
      let e = of-any (of_net net) es used in
      net-most l.width l.height net e.0 (of-all _ e.0 es (of-ok l ok).entries e.1) e.2

  listed-net : (net : ℕ) → In net (nets_of es) → (1 ≤ net) × (net ≤ 999) × (in_use net es ≡ true)
  unfolding nets_of
  listed-net net h =
      let k = of-keep (λ (n : ℕ). in_use n es) net (range 1 999) h in
      let r = of_range net 1 999 k.0 in
      (r.0, omega arith, k.1)

  narrow-net : (net : ℕ) → In net (nets_of es) → NarrowNet l net
  narrow-net net h = let r = listed-net net h in none-too-wide l net ok r.0 r.1

  long-net : (net : ℕ) → In net (nets_of es) → length (net_line l net) ≡ 33
  unfolding net_line
  long-net net h =
      let legs : List Entry = legs_of net es in
      line-long net (length legs) (net_length net l) (first_point legs) (narrow-net net h)

  right-net : (net : ℕ) → In net (nets_of es) → (line : List ℕ) → line ≡ net_line l net → NetRight l net line
  unfolding net_line
  right-net net h line e =
      let legs : List Entry = legs_of net es in
      subst (NetRight l net) (sym e)
      (line-right net (length legs) (net_length net l) (first_point legs) (narrow-net net h))

  few : length (nets_of es) ≤ max_entries
  few = omega (arith, few-nets es, leb-true (length es) max_entries (of-ok l ok).long)

  pub page-right : PageRight l (nets_of es) (slip_of l)
  unfolding nets_of slip_of
  page-right =
      record {
        rising = sorted-keep _ (λ (n : ℕ). in_use n es) (range 1 999) (sorted-range 1 999);
        on-foil = λ net h. let r = listed-net net h in (r.0, r.2);
        listed = λ net low used.
            let most = used-most net used in
            in-keep (λ (n : ℕ). in_use n es) net (range 1 999) (in-range net 1 999 low (omega arith)) used;
        few = few;
        bytes = lines_long (net_line l) (nets_of es) long-net;
        lines = λ i h.
            right-net (get_or (nets_of es) i 0) (in_place (nets_of es) i 0 h) _
            (line_at (net_line l) (nets_of es) long-net i h);
      }

pub slips-right : SlipsRight
slips-right l ok = (nets_of l.entries, page-right l ok)

-- 33 bytes for each of 128 nets are the most that a slip has
pub slip-small : (l : Layout) → layout_ok l ≡ true → length (slip_of l) ≤ 33 * max_entries
slip-small l ok = let p = page-right l ok in omega (arith, p.bytes, p.few)
