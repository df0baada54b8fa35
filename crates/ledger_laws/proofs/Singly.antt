-- A list of nets is its lays by calls of their own.
use Prim.Native.Nat.{ℕ, ◌-◌}
use native.Mathlib.Omega.{arith}
use mathlib.Core.Path.{◌≡◌, refl, sym, ap, ap₂, ◌∙◌, subst}
use mathlib.Core.Bool.{Bool, true, false, not}
use mathlib.Core.List.{List, [], ◌∷◌, ◌++◌, map}
use mathlib.Core.Option.{Option, none, some}
use lib.ListN.{length, drop, length-drop}
use Rattle.foil_spec.specs.Lists.{each}
use Rattle.foil_spec.specs.Foil.{Layout}
use Rattle.foil_spec.specs.Ledger.{Room, with_output, short, Step, Answer, first, after_lent, After, ledger_step}
use Rattle.foil_spec.specs.Lent.{Lent, store, held, layout_ok, sound, room_in, step_on, over_front, output_after, numbers_out}
use Rattle.foil_spec.specs.Lent.{room_left}
use Rattle.foil_spec.specs.Wishes.{wishes}
use Rattle.foil_spec.specs.Calls.{Call, lay_list, Reply, answered, laid_all, in_front, act_each, act_list}
use Rattle.foil_spec.specs.Calls.{list_refusals, reply, ledger_call, call_on, output_by}
use Rattle.foil_spec.specs.Sequence.{Lending, front, room_for, back, lend, told, Left, leaves, run_lent}
use Rattle.list_laws.proofs.Tests.{not-ff}
use Rattle.ledger_laws.specs.Singly.{written_by, by_itself, singly, lists_after, output_over, AsSingle, ListsAsLays}
use Rattle.ledger_laws.proofs.Refusals.{none-applies}
use Rattle.ledger_laws.proofs.Outputs.{over-append, out-front, out-rest}
use Rattle.ledger_laws.proofs.Stored.{Long, back-new}
use Rattle.ledger_laws.proofs.Kept.{step_kept}
use Rattle.ledger_laws.proofs.Steps.{shown}
use Rattle.ledger_laws.proofs.Sound.{of-sound, sound-store-is}
use Rattle.ledger_laws.proofs.Lending.{long-front, long-whole, back-front, lend-is}

-- ---- the lays one after the other

-- what calls left is what the ledger answers and holds, where m was lent at first and the output list was out
record LeftSo (m : Lent) (n : Lent) (out : List ℕ) (a : After (List Answer) Layout) (os : List Left) : Type 0 where
  replies : map (λ (o : Left). o.reply) os ≡ map answered a.answer
  lists : lists_after n os ≡ store a.state m
  output : output_over os out ≡ over_front (each numbers_out a.answer) out

module _ (m : Lent) (long : Long m) (c : Lending) where
  -- the room with so much of the output list
  abbrev room : List ℕ → Room
  room out = with_output (room_for c m) (length out)

  single-is : (s : Step) (out : List ℕ) (l : Layout) → layout_ok l ≡ true
      → lend (by_itself c s out) (store l m)
      ≡ record {
        answer = answered (ledger_step (room out) s l).answer;
        state = store (ledger_step (room out) s l).state m;
      }
  single-is s out l g =
      lend-is m long (by_itself c s out) l g ∙ unfold told shown ledger_call reply room_for room_in front in refl

  -- one more in front
  left-more : (x : Answer) (l' : Layout) (out : List ℕ) (n : Lent) (a : After (List Answer) Layout) (os : List Left)
      → LeftSo m (store l' m) (drop (length (numbers_out x)) out) a os
      → LeftSo m n out (in_front (record { answer = x; state = l' }) a)
      (record { reply = answered x; lists = store l' m; output = output_after x out } ∷ os)
  unfolding in_front lists_after output_over written_by output_by
  left-more x l' out n a os h =
      record {
        replies = ap (λ (rs : List Reply). answered x ∷ rs) h.replies;
        lists = h.lists;
        output =
            unfold numbers_out in
            ap₂ (λ (xs ys : List ℕ). xs ++ output_over os ys) (out-front x out) (out-rest x out)
            ∙ ap (λ (ys : List ℕ). numbers_out x ++ ys) h.output
            ∙ sym (over-append (numbers_out x) (each numbers_out a.answer) out);
      }

  -- the first by a call of its own that is answered by z, and those after it
  lay-first : (s : Step) (ss : List Step) (out : List ℕ) (n : Lent) (a : After Answer Layout) (z : After Reply Lent)
      → z ≡ record { answer = answered a.answer; state = store a.state m }
      → (b : After (List Answer) Layout)
      → LeftSo m (store a.state m) (drop (length (numbers_out a.answer)) out) b
      (run_lent (store a.state m) (singly c (store a.state m) ss (drop (length (numbers_out a.answer)) out)))
      → LeftSo m n out (in_front a b)
      (leaves (by_itself c s out) z.answer z.state
      ∷ run_lent z.state (singly c z.state ss (drop (written_by z.answer) out)))
  unfolding leaves written_by output_by numbers_out
  lay-first s ss out n a z e b h = rw e (left-more a.answer a.state out n b _ h)

  lays-are : (ss : List Step) (out : List ℕ) (l : Layout) → layout_ok l ≡ true
      → LeftSo m (store l m) out (act_each ledger_step (room out) ss l)
      (run_lent (store l m) (singly c (store l m) ss out))
  unfolding act_each singly run_lent room_left
  lays-are [] out l g =
      record { replies = refl; lists = unfold lists_after in refl; output = unfold output_over over_front in refl }
  lays-are (s ∷ ss) out l g =
      let a : After Answer Layout = ledger_step (room out) s l in
      let rest : List ℕ = drop (length (numbers_out a.answer)) out in
      lay-first s ss out (store l m) a _ (single-is s out l g) _
      (subst
      (λ (n : ℕ).
      LeftSo m (store a.state m) rest (act_each ledger_step (with_output (room_for c m) n) ss a.state)
      (run_lent (store a.state m) (singly c (store a.state m) ss rest)))
      (length-drop (length (numbers_out a.answer)) out)
      (lays-are ss rest a.state (step_kept (room out) s l g)))

-- ---- the list

-- what a list that is not refused as a whole has passed, and what it did
record Laid (r : Room) (n : Lent) (ss : List Step) (given : List Answer) (o : Option ℕ) : Type 0 where
  unrefused : o ≡ none
  answers : (act_each step_on r ss n).answer ≡ given

of-laid : (o : Option ℕ) (r : Room) (n : Lent) (ss : List Step) (given : List Answer)
    → (act_list step_on o r ss n).answer ≡ laid_all given → Laid r n ss given o
unfolding act_list
of-laid (some k) r n ss given e = absurd (let z : ◌≡◌ {A = ℕ} 0 1 = cc in omega arith)
of-laid none r n ss given e = record { unrefused = refl; answers = cc }

module _ (c : Lending) (m : Lent) (ws : List ℕ) (n : ℕ) (given : List Answer) (e : c.call ≡ lay_list ws n)
    (h : (lend c m).answer ≡ laid_all given) where
  abbrev r : Room
  r = room_for c m

  abbrev broken : Bool
  broken = not (sound (front c m))

  passed : Laid r (front c m) (wishes ws) given (first (list_refusals r broken ws n))
  unfolding lend call_on reply
  passed =
      of-laid _ r (front c m) (wishes ws) given
      (subst (λ (k : Call). (call_on r k (front c m)).answer ≡ laid_all given) e h)

  -- the lists are long enough, and the foil keeps the rules
  long : short r ≡ false
  unfolding list_refusals after_lent
  long = let u = passed.unrefused in search none-applies

  fine : sound (front c m) ≡ true
  unfolding list_refusals after_lent
  fine = let u = passed.unrefused in not-ff (sound (front c m)) (search none-applies)

  -- the layout that it holds
  abbrev l : Layout
  l = held (front c m)

  kept : layout_ok l ≡ true
  kept = (of-sound (front c m) fine).kept

  stored : store l m ≡ m
  stored =
      let n = long-front c m long in
      sym (back-new c m (omega (arith, n.table)) (omega (arith, n.strips)) l kept)
      ∙ ap (back c m) (sound-store-is (front c m) (of-sound (front c m) fine)) ∙ back-front c m

  -- what the ledger makes of the list
  abbrev laid_on : After (List Answer) Layout
  laid_on = act_each ledger_step r (wishes ws) l

  told_is : told m c l ≡ record { answer = laid_all laid_on.answer; state = laid_on.state }
  unfolding told ledger_call reply
  told_is =
      ap (λ (k : Call). ledger_call r k l) e
      ∙ ap (λ (o : Option ℕ). act_list ledger_step o r (wishes ws) l)
      (ap (λ (b : Bool). first (list_refusals r b ws n)) (sym (ap not fine)) ∙ passed.unrefused)
      ∙ unfold act_list in refl

  lend-laid : lend c m ≡ record { answer = laid_all laid_on.answer; state = store laid_on.state m }
  unfolding shown
  lend-laid =
      ap (lend c) (sym stored) ∙ lend-is m (long-whole c m (long-front c m long)) c l kept
      ∙ ap (shown m) told_is

  given_is : laid_on.answer ≡ given
  given_is =
      let q : laid_all laid_on.answer ≡ laid_all given =
      ap (λ (a : After Reply Lent). a.answer) (sym lend-laid) ∙ h in
      cc

  singles : LeftSo m m c.output laid_on (run_lent m (singly c m (wishes ws) c.output))
  unfolding room_for room_in
  singles =
      subst (λ (x : Lent). LeftSo m x c.output laid_on (run_lent x (singly c x (wishes ws) c.output))) stored
      (lays-are m (long-whole c m (long-front c m long)) c (wishes ws) c.output l kept)

  as-single : AsSingle c m given (run_lent m (singly c m (wishes ws) c.output))
  unfolding output_by
  as-single =
      record {
        replies = singles.replies ∙ ap (map answered) given_is;
        lists = singles.lists ∙ ap (λ (a : After Reply Lent). a.state) (sym lend-laid);
        output =
            singles.output ∙ ap (λ (xs : List Answer). over_front (each numbers_out xs) c.output) given_is;
      }

pub lists-as-lays : ListsAsLays
lists-as-lays = as-single
