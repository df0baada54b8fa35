-- Carrying a foil over: tables that go on past their first 2,560 numbers make no difference, and keep the rest.
use Prim.Native.Nat.{ℕ, ◌-◌, ◌/◌, ◌≤◌}
use native.Mathlib.Omega.{arith}
use mathlib.Core.Path.{◌≡◌, refl, sym, ap, ap₂, ◌∙◌, subst}
use mathlib.Core.Bool.{Bool, true, false, not, and-false}
use mathlib.Core.List.{List, [], ◌∷◌, ◌++◌, map, append_assoc}
use mathlib.Core.Option.{Option, none, some}
use lib.Dec.{ltb}
use borrow.Author.Tests.{le-ltb}
use lib.ListN.{length, take, drop, replicate, length-append}
use lib.Seq.{drop-append-le, take_at}
use Rattle.foil_spec.specs.Lists.{range, each}
use Rattle.foil_spec.specs.Limits.{max_entries, table_size, strips_size, sheet_size, report_places}
use Rattle.foil_spec.specs.Foil.{Entry, entry_numbers, Layout}
use Rattle.foil_spec.specs.Sound.{Asked, formerly, strips_by, keeps_asked, sound_by}
use Rattle.foil_spec.specs.Carrying.{Old, old, old_short, old_sound, old_entries, blocked_nets, unblocked}
use Rattle.foil_spec.specs.Carrying.{lifted_nets, carried}
use Rattle.foil_spec.specs.Ledger.{with_entries, Room, short, too_long, carry, wrote, ◌⇒◌, says, next, first, reads}
use Rattle.foil_spec.specs.Ledger.{refusals, after_lent, After, settle, refusal_of}
use Rattle.foil_spec.specs.Ledger.{Answer as Outcome}
use Rattle.foil_spec.specs.Lent.{Lent, lent, entry_at, strip_numbers, written, store, held, sound, room_in, room_of, step_on}
use Rattle.foil_spec.specs.Lent.{output_after}
use Rattle.foil_spec.specs.declared.Board.{Board}
use Rattle.foil_spec.specs.declared.OldBoard.{OldBoard}
use Rattle.list_laws.proofs.Tests.{both, clash, not-ff}
use Rattle.ledger_laws.proofs.Refusals.{none-applies, unrefused-own}
use Rattle.ledger_laws.proofs.Stored.{read_back}
use Rattle.ledger_laws.proofs.Sound.{SoundAs, of-sound-as, to-sound-as, length-read}
use Rattle.ledger_laws.proofs.Replies.{shown_by}
use Rattle.foil.specs.Contract.{Answer as Answered, Gave}
use Rattle.carrying.specs.Carried.{CarryDone}
use Rattle.host.specs.Flats.{numbers_lent, front_of}
use Rattle.host.specs.Carried.{old_of, HostCarried}
use Rattle.host.proofs.Tables.{Stored, on-table, as-loaded}

-- what is written to a front leaves the rest
written-longer : (n : ℕ) (ns t rest : List ℕ) → n ≤ length t → written n ns (t ++ rest) ≡ written n ns t ++ rest
unfolding written
written-longer n ns t rest h =
    let zs : List ℕ = replicate (n - length ns) 0 in
    ap (λ (x : List ℕ). ns ++ (zs ++ x)) (drop-append-le n t rest h)
    ∙ ap (λ (x : List ℕ). ns ++ x) (sym (append_assoc zs (drop n t) rest))
    ∙ sym (append_assoc ns (zs ++ drop n t) rest)

-- ---- the new table

module _ (o : Old) (b : Board) (t s rest : List ℕ) (n : ℕ) (long : table_size ≤ length t) where
  abbrev m : Lent
  m = lent b t s

  -- what is lent, with more numbers after the table
  abbrev longer : Lent → Lent
  longer x = lent x.board (x.table ++ rest) x.strips

  same-short : short (room_of (longer m) n) ≡ short (room_of m n)
  unfolding short room_in
  same-short =
      rw (
        le-ltb (length (t ++ rest) / 5) max_entries (omega (arith, length-append t rest)),
        le-ltb (length t / 5) max_entries (omega arith),
      ) refl

  same-refusal : refusal_of (room_of (longer m) n) (not (sound (longer m))) (carry o) (held (longer m))
      ≡ refusal_of (room_of m n) (not (sound m)) (carry o) (held m)
  unfolding refusal_of after_lent reads refusals next too_long
  same-refusal =
      rw (and-false (not (sound (longer m))), and-false (not (sound m)), same-short) (unfold room_in in refl)

  settled : (f : Option ℕ)
      → settle f (record { answer = says (carry o) (held (longer m)); state = store (carried o) (longer m) }) (longer m)
      ≡ shown_by longer (settle f (record { answer = says (carry o) (held m); state = store (carried o) m }) m)
  unfolding settle shown_by says store
  settled (some k) = refl
  settled none =
      ap
      (λ (x : List ℕ).
      record {
        answer = says (carry o) (held m);
        state = lent (store (carried o) m).board x (store (carried o) m).strips;
      })
      (written-longer table_size (each entry_numbers (carried o).entries) t rest long)

  step-longer : step_on (room_of (longer m) n) (carry o) (longer m)
      ≡ shown_by longer (step_on (room_of m n) (carry o) m)
  unfolding step_on next
  step-longer = rw same-refusal (settled (refusal_of (room_of m n) (not (sound m)) (carry o) (held m)))

carried-longer : (o : Old) (b : Board) (s out : List ℕ) (r : Answered) (b' : Board) (s' out' t t' rest : List ℕ)
    → length t ≡ sheet_size → CarryDone o (lent b t s) out r b' t' s' out'
    → CarryDone o (lent b (t ++ rest) s) out r b' (t' ++ rest) s' out'
unfolding shown_by
carried-longer o b s out r b' s' out' t t' rest full w =
    let e = step-longer o b t s rest (length out) (omega (arith, full)) in
    record {
      gave = subst (λ (a : After Outcome Lent). Gave a r b' (t' ++ rest) s') (sym e)
          (record {
            answer = w.gave.answer;
            board = w.gave.board;
            table = ap (λ (x : List ℕ). x ++ rest) w.gave.table;
            strips = w.gave.strips;
          });
      output = w.output ∙ ap (λ (a : After Outcome Lent). output_after a.answer out) (sym e);
    }

-- ---- the old table

module _ (a : Asked) (W H n count : ℕ) (t s rest : List ℕ) (long : table_size ≤ length t) where
  abbrev es : List Entry
  es = map (entry_at t) (range 0 n)

  abbrev more : List Entry
  more = map (entry_at (t ++ rest)) (range 0 n)

  -- entries in front of a list are read back from it
  read-from : (fs : List Entry) (l : List ℕ) → length fs ≡ n → l ≡ written table_size (each entry_numbers fs) l
      → map (entry_at l) (range 0 n) ≡ fs
  unfolding written
  read-from fs l c e =
      ap₂ (λ (x : List ℕ) (k : ℕ). map (entry_at x) (range 0 k)) e (sym c)
      ∙ read_back fs (replicate (table_size - length (each entry_numbers fs)) 0 ++ drop table_size l)

  sound-longer : SoundAs a W H n count t s → sound_by a W H n count (t ++ rest) s ≡ true
  sound-longer k =
      let is : t ++ rest ≡ written table_size (each entry_numbers es) (t ++ rest) =
      ap (λ (x : List ℕ). x ++ rest) k.table_is
      ∙ sym (written-longer table_size (each entry_numbers es) t rest long) in
      let same : more ≡ es = read-from es (t ++ rest) (length-read t n) is in
      to-sound-as a W H n count (t ++ rest) s
      (subst (λ (xs : List Entry). keeps_asked a W H xs ≡ true) (sym same) k.kept)
      (k.counted ∙ ap (λ (xs : List Entry). length (strips_by a.rule W H xs)) (sym same))
      (subst (λ (xs : List Entry). t ++ rest ≡ written table_size (each entry_numbers xs) (t ++ rest)) (sym same) is)
      (k.strips-are
      ∙ ap (λ (xs : List Entry). written strips_size (each strip_numbers (strips_by a.rule W H xs)) s) (sym same))

  -- the entries are then the same
  same_entries : SoundAs a W H n count (t ++ rest) s
      → (es ≡ more) × (t ≡ written table_size (each entry_numbers more) t)
  same_entries k =
      let front : List ℕ = written table_size (each entry_numbers more) t in
      let e : t ++ rest ≡ front ++ rest =
      k.table_is ∙ written-longer table_size (each entry_numbers more) t rest long in
      let size : length front ≡ length t =
      omega (arith, ap length e, length-append t rest, length-append front rest) in
      let is : t ≡ front =
      sym (take_at t rest (length t) refl) ∙ ap (take (length t)) e ∙ take_at front rest (length t) size in
      (read-from more t (length-read (t ++ rest) n) is, is)

  sound-front : SoundAs a W H n count (t ++ rest) s → sound_by a W H n count t s ≡ true
  sound-front k =
      let (same, is) = same_entries k in
      to-sound-as a W H n count t s
      (subst (λ (xs : List Entry). keeps_asked a W H xs ≡ true) (sym same) k.kept)
      (k.counted ∙ ap (λ (xs : List Entry). length (strips_by a.rule W H xs)) (sym same))
      (subst (λ (xs : List Entry). t ≡ written table_size (each entry_numbers xs) t) (sym same) is)
      (k.strips-are
      ∙ ap (λ (xs : List Entry). written strips_size (each strip_numbers (strips_by a.rule W H xs)) s) (sym same))

  sound-same : sound_by a W H n count (t ++ rest) s ≡ sound_by a W H n count t s
  sound-same =
      both (sound_by a W H n count (t ++ rest) s)
      (λ e. e ∙ sym (sound-front (of-sound-as a W H n count (t ++ rest) s e)))
      (λ e.
      both (sound_by a W H n count t s)
      (λ f. clash (sound-longer (of-sound-as a W H n count t s f)) e)
      (λ f. e ∙ sym f))

module _ (ob : OldBoard) (t os rest : List ℕ) (long : table_size ≤ length t) where
  abbrev far : Old
  far = old ob (t ++ rest) os

  abbrev near : Old
  near = old ob t os

  old-short : old_short far ≡ old_short near
  unfolding old_short
  old-short =
      rw (
        le-ltb (length (t ++ rest) / 5) max_entries (omega (arith, length-append t rest)),
        le-ltb (length t / 5) max_entries (omega arith),
      ) refl

  old-sound : old_sound far ≡ old_sound near
  unfolding old_sound
  old-sound =
      sound-same (formerly ob.reach) ob.width ob.height ob.entries ob.strips t os rest long

  old-entries : old_sound far ≡ true → old_entries far ≡ old_entries near
  unfolding old_sound old_entries
  old-entries e =
      let b : Asked = formerly ob.reach in
      sym (same_entries b ob.width ob.height ob.entries ob.strips t os rest long
      (of-sound-as b ob.width ob.height ob.entries ob.strips (t ++ rest) os e)).0

  -- where the old state is refused, nothing after that counts
  broken-same : (p q x y z w : Bool)
      → first ((p ⇒ 12) ∷ (q ⇒ 12) ∷ (not false ⇒ 13) ∷ (x ⇒ 10) ∷ (y ⇒ 11) ∷ [])
      ≡ first ((p ⇒ 12) ∷ (q ⇒ 12) ∷ (not false ⇒ 13) ∷ (z ⇒ 10) ∷ (w ⇒ 11) ∷ [])
  unfolding first
  broken-same true q x y z w = refl
  broken-same false true x y z w = refl
  broken-same false false x y z w = refl

  module _ (r : Room) (b : Bool) (l : Layout) where
    same_left : old_sound far ≡ true → carried far ≡ carried near
    unfolding carried
    same_left e = ap (λ (xs : List Entry). with_entries (carried near) (unblocked ob.reach xs)) (old-entries e)

    same-nets : old_sound far ≡ true → lifted_nets far ≡ lifted_nets near
    unfolding lifted_nets
    same-nets e = ap (blocked_nets ob.reach) (old-entries e)

    own_same : first (refusals (carry far) r l) ≡ first (refusals (carry near) r l)
    unfolding refusals next
    own_same =
        both (old_sound far)
        (λ e. rw (old-short, old-sound, same_left e) refl)
        (λ e. rw (old-short, e, sym old-sound ∙ e) (broken-same (old_short near) (ltb r.output report_places) _ _ _ _))

    refusal-same : refusal_of r b (carry far) l ≡ refusal_of r b (carry near) l
    unfolding refusal_of after_lent first reads
    refusal-same = rw own_same refl

    near-sound : refusal_of r b (carry near) l ≡ none → old_sound far ≡ true
    unfolding refusals
    near-sound e =
        let h = unrefused-own r (carry near) l b e in
        let q : old_sound near ≡ true = not-ff (old_sound near) (search none-applies) in
        old-sound ∙ q

  settle-same : (o : Option ℕ) (x y : After Outcome Lent) (m : Lent) → (o ≡ none → x ≡ y) → settle o x m ≡ settle o y m
  unfolding settle
  settle-same none x y m h = h refl
  settle-same (some n) x y m h = refl

  step-near : (r : Room) (m : Lent) → step_on r (carry far) m ≡ step_on r (carry near) m
  unfolding step_on says next
  step-near r m =
      rw (refusal-same r (not (sound m)) (held m))
      (settle-same (refusal_of r (not (sound m)) (carry near) (held m)) _ _ m
      (λ e.
      let g = near-sound r (not (sound m)) (held m) e in
      ap₂ (λ (ns : List ℕ) (l : Layout). record { answer = wrote ns; state = store l m })
      (same-nets r (not (sound m)) (held m) g) (same_left r (not (sound m)) (held m) g)))

old-longer : (ob : OldBoard) (os : List ℕ) (m : Lent) (out : List ℕ) (r : Answered) (b : Board)
    (t' s' out' t rest : List ℕ) → length t ≡ sheet_size → CarryDone (old ob t os) m out r b t' s' out'
    → CarryDone (old ob (t ++ rest) os) m out r b t' s' out'
old-longer ob os m out r b t' s' out' t rest full w =
    let e = step-near ob t os rest (omega (arith, full)) (room_of m (length out)) m in
    record {
      gave = subst (λ (a : After Outcome Lent). Gave a r b t' s') (sym e) w.gave;
      output = w.output ∙ ap (λ (a : After Outcome Lent). output_after a.answer out) (sym e);
    }

-- ---- from numbers to entries

-- of the old table the first m of its numbers os are lent on
pub whole-carried : (ob : OldBoard) (olds : List Entry) (os : List ℕ) (m : ℕ) → os ≡ front_of olds
    → m ≡ numbers_lent (length olds) → (listed : List ℕ) (b : Board) (s out : List ℕ) (r : Answered) (b' : Board)
    (s' out' : List ℕ) (es : List Entry) (ns : List ℕ) (n : ℕ) (new : List ℕ) (es' : List Entry)
    → Stored es ns n new es' → CarryDone (old ob (take m os) listed) (lent b (take n ns) s) out r b' new s' out'
    → HostCarried (old_of ob olds listed) b es s out r b' es' s' out'
whole-carried ob olds os m front e listed b s out r b' s' out' es ns n new es' w d =
    on-table (λ x y. CarryDone (old_of ob olds listed) (lent b x s) out r b' y s' out')
    (carried-longer (old_of ob olds listed) b s out r b' s' out') es ns n new es' w
    (on-table (λ x y. CarryDone (old ob x listed) (lent b (take n ns) s) out r b' new s' out')
    (λ x y rest full c. old-longer ob listed (lent b (take n ns) s) out r b' new s' out' x rest full c) olds os m _ _
    (as-loaded olds os m front e) d)
