-- What a lay answers: a refusal, or a track that has room for its corners, and no more of them than entries in a table
-- and one. Its numbers, and how much of the corner list it uses.
use Prim.Native.Nat.{ℕ, suc, ◌*◌, ◌≤◌, min}
use native.Mathlib.Omega.{arith}
use mathlib.Core.Path.{◌≡◌, refl, ap}
use mathlib.Core.Bool.{false, not}
use mathlib.Core.List.{List, [], ◌∷◌, ◌++◌}
use mathlib.Core.Option.{Option, none, some}
use lib.Dec.{ltb}
use lib.ListN.{length, length-append}
use borrow.Author.Tests.{ltb-false}
use Rattle.foil_spec.specs.Limits.{max_entries}
use Rattle.foil_spec.specs.Foil.{Point, Layout}
use Rattle.foil_spec.specs.Paths.{bends}
use Rattle.foil_spec.specs.Ledger.{legs_from, legs, corners_of, Room, corner_room, too_long, lay, Answer, refused, laid}
use Rattle.foil_spec.specs.Ledger.{next, says, first, refusals, settle, refusal_of}
use Rattle.foil_spec.specs.Lent.{Lent, store, held, sound, step_on, output_after, numbers_out}
use Rattle.ledger_laws.proofs.Stored.{length-points}
use Rattle.ledger_laws.proofs.Outputs.{laid_out}
use Rattle.ledger_laws.proofs.Refusals.{none-applies, unrefused-own}
use Rattle.foil.specs.Contract.{answer_of}
use Rattle.listing.specs.Contract.{in_numbers}
use Rattle.listing.specs.Parts.{Fits}

pub data LayTold (r : Room) : Answer → Type 0 where
  no-track : (n : ℕ) → LayTold r (refused n)
  a-track : (cs : List Point) (n : ℕ) → length cs ≤ corner_room r → length cs ≤ suc max_entries → n ≤ suc max_entries
      → LayTold r (laid cs n)

-- ---- a lay answers so

legs-from : (net : ℕ) (p : Point) (cs : List Point) → length (legs_from net p cs) ≡ length cs
unfolding legs_from
legs-from net p [] = refl
legs-from net p (q ∷ cs) = ap suc (legs-from net q cs)

corners-by-legs : (net : ℕ) (cs : List Point) → length cs ≤ suc (length (legs net cs))
unfolding legs
corners-by-legs net [] = omega arith
corners-by-legs net (p ∷ []) = omega arith
corners-by-legs net (p ∷ q ∷ cs) = omega (arith, legs-from net p (q ∷ cs))

module _ (r : Room) (net : ℕ) (S T : Point) (m : Lent) where
  abbrev l : Layout
  l = held m

  abbrev cs : List Point
  cs = corners_of l S T

  taken-short : first (refusals (lay net S T) r l) ≡ none → LayTold r (laid cs (bends cs))
  unfolding refusals next too_long bends
  taken-short e =
      let places : ltb (corner_room r) (length cs) ≡ false = search none-applies depth 9 in
      let few : ltb (min max_entries r.limit) (length (l.entries ++ legs net cs)) ≡ false =
      search none-applies depth 9 in
      let short : length (l.entries ++ legs net cs) ≤ min max_entries r.limit =
      ltb-false (min max_entries r.limit) (length (l.entries ++ legs net cs)) few in
      let both = length-append l.entries (legs net cs) in
      let more = corners-by-legs net cs in
      a-track cs (bends cs) (ltb-false (corner_room r) (length cs) places) (omega arith) (omega arith)

  told-by : (o : Option ℕ) → refusal_of r (not (sound m)) (lay net S T) l ≡ o
      → LayTold r
      (settle o (record { answer = says (lay net S T) l; state = store (next (lay net S T) l) m }) m).answer
  unfolding settle says
  told-by (some n) e = no-track n
  told-by none e = taken-short (unrefused-own r (lay net S T) l (not (sound m)) e)

  pub lay-told : LayTold r (step_on r (lay net S T) m).answer
  unfolding step_on
  lay-told = told-by (refusal_of r (not (sound m)) (lay net S T) l) refl

-- ---- its numbers

pub numbers_fit : (r : Room) (a : Answer) → LayTold r a → Fits (in_numbers (answer_of a))
unfolding in_numbers answer_of
numbers_fit r _ (no-track n) = record { corners = omega arith; bends = omega arith }
numbers_fit r _ (a-track cs n p q b) = record { corners = omega arith; bends = omega arith }

-- it uses two numbers for each corner that it answers
pub uses : (r : Room) (a : Answer) → LayTold r a → (in_numbers (answer_of a)).corners * 2 ≡ length (numbers_out a)
unfolding in_numbers answer_of
uses r _ (no-track n) = unfold numbers_out output_after in refl
uses r _ (a-track cs n p q b) = omega (arith, ap length (laid_out cs n), length-points cs)

-- no more than it was lent
pub uses-few : (r : Room) (a : Answer) → LayTold r a → length (numbers_out a) ≤ r.output
unfolding corner_room
uses-few r _ (no-track n) = unfold numbers_out output_after in omega arith
uses-few r _ (a-track cs n p q b) = omega (arith, ap length (laid_out cs n), length-points cs)
