-- Whether a patch of a table blocks a point of a leg.
use Prim.Native.Nat.{ℕ, ◌*◌, ◌≤◌}
use native.Mathlib.Omega.{arith}
use mathlib.Core.Path.{◌≡◌, sym, ap, ◌∙◌}
use mathlib.Core.Bool.{Bool, true, false, not}
use mathlib.Core.List.{List, map}
use lib.Dec.{eqb}
use lib.ListN.{length}
use borrow.Author.Tests.{ne_eqb}
use Rattle.foil_spec.specs.Lists.{range, keep, all, any}
use Rattle.foil_spec.specs.Limits.{max_entries}
use Rattle.foil_spec.specs.Foil.{Entry, crosses, over_leg, no_crossing}
use Rattle.foil_spec.specs.Nets.{of_net}
use Rattle.foil_spec.specs.Lent.{entry_at}
use Rattle.list_laws.proofs.Tests.{not_f, not_t, same_test, parts}
use Rattle.list_laws.proofs.Members.{in-keep, of-keep, in-any, of-any, of-all, to-all, not-any, none_of}
use Rattle.ledger_laws.proofs.Crossing.{leg-crosses, of-no-crossing, to-no-crossing}
use Rattle.tables.specs.Rows.{other_nets, Kept}
use Rattle.tables.proofs.Filling.{read-rows, kept-long}

-- a leg is over none
pub leg-not-over : (m : ℕ) (es : List Entry) (p : Entry) → (p.net ≡ 0 → ⊥) → false ≡ over_leg m es p
unfolding over_leg
leg-not-over m es p n = sym (none_of (crosses m p) es (λ e i. leg-crosses m p e (ne_eqb p.net 0 n)))

-- what is crossed is a leg
crossed-leg : (m : ℕ) (p e : Entry) → crosses m p e ≡ true → not (of_net 0 e) ≡ true
unfolding crosses of_net
crossed-leg m p e c =
    let leg : eqb e.net 0 ≡ false = search parts in
    not_f leg

-- the legs stand in their rows
pub legs-fit : (rows t : List ℕ) (n j : ℕ) → n ≤ max_entries → Kept rows t 0 n j → j * 5 ≤ length rows
legs-fit rows t n j few legs = omega (arith, legs.few, kept-long rows t 0 n j few legs)

module _ (m : ℕ) (t : List ℕ) (n : ℕ) where
  -- the row of the table
  abbrev pub row : List Entry
  row = map (entry_at t) (range 0 n)

  abbrev is_leg : Entry → Bool
  is_leg e = not (of_net 0 e)

  -- its legs alone tell whether a patch is over one
  over-legs : (p : Entry) → over_leg m (other_nets 0 t n) p ≡ over_leg m row p
  unfolding over_leg other_nets
  over-legs p = same_test _ _ from-legs to-legs
    where
      from-legs : any (crosses m p) (keep is_leg row) ≡ true → any (crosses m p) row ≡ true
      from-legs h =
          let (e, i, c) = of-any (crosses m p) (keep is_leg row) h in
          in-any (crosses m p) e row (of-keep is_leg e row i).0 c

      to-legs : any (crosses m p) row ≡ true → any (crosses m p) (keep is_leg row) ≡ true
      to-legs h =
          let (e, i, c) = of-any (crosses m p) row h in
          in-any (crosses m p) e (keep is_leg row) (in-keep is_leg e row i (crossed-leg m p e c)) c

  -- j entries of other rows, its legs
  module _ (rows : List ℕ) (j : ℕ) where
    -- what is asked of an entry
    abbrev pub over : Entry → Bool
    over p = over_leg m (map (entry_at rows) (range 0 j)) p

    module _ (legs : Kept rows t 0 n j) where
      over-is : (p : Entry) → over_leg m row p ≡ over p
      over-is p =
          sym (over-legs p)
          ∙ ap (λ (es : List Entry). over_leg m es p)
          (sym (read-rows rows (other_nets 0 t n) j (sym legs.counted) legs.is))

      -- no entry of the row is over one of the legs
      pub clear : all (λ p. not (over p)) row ≡ no_crossing m row
      unfolding over_leg
      clear = same_test _ _ kept crossed
        where
          kept : all (λ p. not (over p)) row ≡ true → no_crossing m row ≡ true
          kept h =
              to-no-crossing m row
              (λ p e i k. not-any (crosses m p) e row
              (over-is p ∙ not_t (over p) (of-all (λ x. not (over x)) p row h i)) k)

          crossed : no_crossing m row ≡ true → all (λ p. not (over p)) row ≡ true
          crossed h =
              to-all (λ x. not (over x)) row
              (λ p i. not_f (sym (over-is p) ∙ none_of (crosses m p) row (λ e k. of-no-crossing m row h p e i k)))
