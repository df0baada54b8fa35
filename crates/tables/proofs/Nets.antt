-- Whether a net is in a table: what a test of each place of its entries answers.
use Prim.Native.Nat.{ℕ, ◌<◌}
use native.Mathlib.Omega.{arith}
use native.Mathlib.Nat.{zero-add}
use mathlib.Core.Path.{◌≡◌, sym, subst, ◌∙◌}
use mathlib.Core.Bool.{Bool, true, false}
use mathlib.Core.List.{List, map}
use lib.ListN.{length, get_or}
use borrow.Author.Tests.{eq-eqb, ne_eqb}
use Rattle.std.specs.Bool.{MatchBool}
use Rattle.std.specs.List.{range_with_len, HoldsAt, AllWithin}
use Rattle.std.proofs.lemmas.List.FromFn.{length-range_with_len, get_or-range_with_len}
use Rattle.foil_spec.specs.Lists.{range}
use Rattle.foil_spec.specs.Nets.{of_net, in_use}
use Rattle.foil_spec.specs.Lent.{entry_at}
use Rattle.list_laws.proofs.Members.{any_place, no_place}

module _ (t : List ℕ) (n net : ℕ) where
  abbrev pub Of : ℕ → Type 0
  Of k = (entry_at t k).net ≡ net

  at : (k : ℕ) → k < n → get_or (range_with_len 0 n) k 0 ≡ k
  at k l = get_or-range_with_len 0 n k 0 l ∙ zero-add k

  pub used-by : (r : Bool)
      → MatchBool r ((k : ℕ) × (k < length (range_with_len 0 n)) × HoldsAt Of (range_with_len 0 n) k)
      (AllWithin (λ (k : ℕ). Of k → ⊥) (range_with_len 0 n) 0 (length (range_with_len 0 n)))
      → r ≡ in_use net (map (entry_at t) (range 0 n))
  unfolding in_use of_net
  used-by true h =
      let l : h.0 < n = omega (arith, h.1, length-range_with_len 0 n) in
      sym (any_place (of_net net) (entry_at t) n h.0 l (eq-eqb (entry_at t h.0).net net (subst Of (at h.0 l) (h.2 0))))
  used-by false h =
      sym (no_place (of_net net) (entry_at t) n
      (λ i l.
      ne_eqb (entry_at t i).net net
      (subst (λ (k : ℕ). Of k → ⊥) (at i l) (h i 0 (omega arith) (omega (arith, length-range_with_len 0 n))))))
