-- Where ohms are answered no refusal applies: the ink's figures are in their ranges, and the net's steps and bends are
-- as few as a foil holds.
use Prim.Native.Nat.{ℕ, ◌≤◌}
use native.Mathlib.Omega.{arith}
use mathlib.Core.Path.{◌≡◌, refl}
use mathlib.Core.Bool.{true, false, not}
use mathlib.Core.Option.{Option, none, some}
use lib.Dec.{leb}
use lib.ListN.{length}
use lib.Ieee.{Float}
use borrow.Author.Tests.{not-false, leb-true}
use Rattle.foil_spec.specs.Foil.{size_ok, entry_ok}
use Rattle.foil_spec.specs.Limits.{max_entries}
use Rattle.foil_spec.specs.Ledger.{Room, first, after_lent}
use Rattle.foil_spec.specs.Lent.{Lent, held, sound}
use Rattle.foil_spec.specs.Nets.{of_net, legs_of, net_length, net_bends}
use Rattle.foil_spec.specs.Ohms.{ink_ok, ohms_refusals, ohms_of}
use Rattle.foil_spec.specs.Calls.{ohms, measured, ohms_reply, reply, call_on}
use Rattle.foil_spec.specs.declared.Ink.{Ink}
use Rattle.list_laws.proofs.Tests.{and_r, all_keep}
use Rattle.ledger_laws.proofs.Refusals.{none-applies}
use Rattle.ledger_laws.proofs.Rules.{Keeps, of-ok}
use Rattle.ledger_laws.proofs.Sound.{of-sound}
use Rattle.nets.proofs.Measuring.{few-legs, few-steps}

pub of-reply : (o : Option ℕ) (y x : Float) → ohms_reply o y ≡ measured x → (o ≡ none) × (y ≡ x)
unfolding ohms_reply
of-reply none y x e = (refl, cc)
of-reply (some n) y x e = absurd (let z : ◌≡◌ {A = ℕ} 0 1 = cc in omega arith)

-- no refusal applies
abbrev pub Unrefused : Room → ℕ → Ink → Lent → Type 0
Unrefused r net i m = first (after_lent r (not (sound m)) (ohms_refusals net i (held m))) ≡ none

pub answered-so : (r : Room) (net : ℕ) (i : Ink) (m : Lent) (x : Float) → (call_on r (ohms net i) m).answer ≡ measured x
    → Unrefused r net i m × (ohms_of net i (held m) ≡ x)
unfolding call_on reply
answered-so r net i m x e =
    of-reply (first (after_lent r (not (sound m)) (ohms_refusals net i (held m)))) (ohms_of net i (held m)) x e

small_size : (n : ℕ) → size_ok n ≡ true → n ≤ 4096
unfolding size_ok
small_size n h = leb-true n 4096 (and_r (leb 1 n) (leb n 4096) h)

module _ (r : Room) (net : ℕ) (i : Ink) (m : Lent) (u : Unrefused r net i m) where
  pub ink : ink_ok i ≡ true
  unfolding after_lent ohms_refusals
  ink =
      let f : not (ink_ok i) ≡ false = search none-applies depth 9 in
      not-false (ink_ok i) f

  keeps : Keeps (held m)
  unfolding after_lent
  keeps =
      let f : not (sound m) ≡ false = search none-applies in
      of-ok (held m) (of-sound m (not-false (sound m) f)).kept

  few : length (held m).entries ≤ max_entries
  few = leb-true (length (held m).entries) max_entries keeps.long

  pub length_most : net_length net (held m) ≤ 1048320
  unfolding net_length legs_of
  length_most =
      let W = (held m).width in
      let H = (held m).height in
      let k = few-steps W H (legs_of net (held m).entries) (small_size W keeps.width)
      (small_size H keeps.height) (all_keep (entry_ok W H) (of_net net) (held m).entries keeps.entries) in
      omega (arith, few, few-legs net (held m).entries)

  pub bends-most : net_bends net (held m) ≤ 127
  unfolding net_bends
  bends-most = omega (arith, few, few-legs net (held m).entries)
