-- A call on a foil of a sheet is the call on the foil alone, which is put back if the call wrote entries.
use Prim.Native.Nat.{ℕ, zero, suc, ◌*◌, ◌-◌, ◌/◌, ◌≤◌, ◌<◌}
use native.Mathlib.Omega.{arith}
use mathlib.Core.Path.{◌≡◌, refl, sym, ap, ◌∙◌, subst}
use mathlib.Core.Bool.{Bool, true, false, not, cond, ◌&&◌, ◌||◌, and-false, or-false, or-true, or_assoc}
use mathlib.Core.List.{List, [], ◌∷◌}
use mathlib.Core.Option.{Option, none, some}
use lib.ListN.{length, get_or}
use Rattle.foil_spec.specs.Lists.{any, all}
use Rattle.foil_spec.specs.Limits.{sheet_foils, sheet_size}
use Rattle.foil_spec.specs.Foil.{Layout}
use Rattle.foil_spec.specs.Ledger.{Room, with_output, Step, save, Answer, says, next, After, settle, refusal_of}
use Rattle.foil_spec.specs.Lent.{Lent, board_of, store, held, layout_ok, sound, step_on, numbers_out, room_left}
use Rattle.foil_spec.specs.Wishes.{wish_at, wishes}
use Rattle.foil_spec.specs.Job.{as_step, step_at, steps, is_end, record_end}
use Rattle.foil_spec.specs.Calls.{Call, step, run_record, ohms, lay_list, Reply, as_reply, ends_job, and_then, act_all}
use Rattle.foil_spec.specs.Calls.{act_record, in_front, act_each, act_list, reply, call_on, answers_in}
use Rattle.foil_spec.specs.Sheet.{total, limit_of, SheetLent, counts, view, put_back, writes, sheet_step, sheet_refusal}
use Rattle.foil_spec.specs.Sheet.{unless, sheet_call}
use Rattle.list_laws.proofs.Tests.{both, clash, not-ff, and_l, and_r}
use Rattle.list_laws.proofs.Members.{all-places}
use Rattle.ledger_laws.proofs.Stored.{held-store, store-again}
use Rattle.ledger_laws.proofs.Refusals.{unrefused-sound, unrefused-own}
use Rattle.ledger_laws.proofs.Sound.{of-sound, sound-store-is}
use Rattle.ledger_laws.proofs.Line.{line}
use Rattle.ledger_laws.proofs.Numbers.{steps_all}
use Rattle.ledger_laws.proofs.Replies.{shown_by, reply-keeps, reply-shown}
use Rattle.sheet_laws.specs.Alone.{RoomOn}
use Rattle.sheet_laws.specs.Answers.{taken}
use Rattle.sheet_laws.specs.Back.{writing, rewrote, PutsBack, ClearsUnused}
use Rattle.sheet_laws.proofs.Counts.{limit-own}
use Rattle.sheet_laws.proofs.Line.{sheet-line}
use Rattle.sheet_laws.proofs.Views.{Stands, stands-in, own-count, in-counts, view-own, put-again, put-zero}

-- ---- every step of a record writes

step-writes : (bs : List ℕ) (at k : ℕ) → writes (as_step (step_at bs at k)) ≡ true
unfolding step_at as_step writes
step-writes bs at zero = refl
step-writes bs at (suc zero) = refl
step-writes bs at (suc (suc zero)) = refl
step-writes bs at (suc (suc (suc zero))) = refl
step-writes bs at (suc (suc (suc (suc k)))) = refl

steps-write : (bs : List ℕ) (at : ℕ) → all writes (steps bs at) ≡ true
steps-write bs at = steps_all writes bs at (step-writes bs at)

-- so does every wish of a list
wishes-write : (ws : List ℕ) → all writes (wishes ws) ≡ true
unfolding wishes wish_at writes
wishes-write ws = all-places writes (wish_at ws) (length ws / 5) (λ k h. refl)

-- ---- whether something is written

is_some : {A : Type 0} → Option A → Bool
is_some none = false
is_some (some x) = true

-- ---- what the steps so far have written: nothing, or the foil with another layout

module _ (r : Room) (k : ℕ) (m : SheetLent) (w : Stands r k m) (here : k < sheet_foils) where
  -- the foil alone then, and the sheet
  abbrev alone : Option Layout → Lent
  alone none = view k m
  alone (some l) = store l (view k m)

  abbrev put : Option Layout → SheetLent
  put none = m
  put (some l) = put_back k m (store l (view k m))

  -- the layout keeps the rules, and the foil may have so many entries
  abbrev Ok : Option Layout → Type 0
  Ok none = Unit {0}
  Ok (some l) = (layout_ok l ≡ true) × (length l.entries ≤ limit_of (counts m.boards) k)

  put_view : (t : Option Layout) → Ok t → view k (put t) ≡ alone t
  put_view none g = refl
  put_view (some l) (g, few) = view-own k m w.whole here l few

  stored : (t : Option Layout) (l : Layout) → Ok t → store l (alone t) ≡ store l (view k m)
  stored none l g = refl
  stored (some l₀) l (g, few) = store-again l₀ l (view k m) g

  put_next : (t : Option Layout) (v : Lent) → Ok t → put_back k (put t) v ≡ put_back k m v
  put_next none v g = refl
  put_next (some l) v (g, few) = put-again k m w.whole here l few v

  few-held : (t : Option Layout) → Ok t → length (held (alone t)).entries ≤ limit_of (counts m.boards) k
  few-held none g =
      omega (
        arith,
        own-count r k here m w save,
        limit-own (counts m.boards) w.whole.limits k (in-counts k m w.whole here),
      )
  few-held (some l) (g, few) =
      subst (λ (x : Layout). length x.entries ≤ limit_of (counts m.boards) k) (sym (held-store l (view k m))) few

  -- ---- a step

  -- in any room
  module _ (q : Room) (s : Step) (t : Option Layout) where
    abbrev v : Lent
    v = alone t

    abbrev l : Layout
    l = held v

    abbrev refusal : Option ℕ
    refusal = refusal_of q (not (sound v)) s l

  tell : Room → Step → Option Layout → After Answer (Option Layout)
  tell q s t =
      settle (refusal q s t)
      (record { answer = says s (l q s t); state = cond (writes s) (some (next s (l q s t))) t }) t

  -- in the room r with n numbers of output
  module _ (n : ℕ) (s : Step) (t : Option Layout) (g : Ok t) where
    abbrev q : Room
    q = with_output r n

    next-ok : refusal q s t ≡ none → Ok (some (next s (l q s t)))
    next-ok e = (
      (line s).kept q (l q s t)
          (λ f. (of-sound (v q s t) (not-ff (sound (v q s t)) (unrefused-sound q s (l q s t) _ e f))).kept)
          (unrefused-own q s (l q s t) _ e),
      omega (arith, (sheet-line s).fits q (l q s t) (unrefused-own q s (l q s t) _ e), few-held t g, w.limit),
    )

    settle-ok : (o : Option ℕ) → refusal q s t ≡ o
        → Ok
        (settle o (record { answer = says s (l q s t); state = cond (writes s) (some (next s (l q s t))) t }) t).state
    unfolding settle
    settle-ok (some n) e = g
    settle-ok none e = both (writes s) (λ b. rw b (next-ok e)) (λ b. rw b g)

    tell_ok : Ok (tell q s t).state
    unfolding tell
    tell_ok = settle-ok (refusal q s t) refl

    -- the foil alone after an accepted step
    alone-next : refusal q s t ≡ none
        → store (next s (l q s t)) (v q s t) ≡ alone (cond (writes s) (some (next s (l q s t))) t)
    alone-next e =
        both (writes s)
        (λ b. rw b (stored t (next s (l q s t)) g))
        (λ b.
        let known = not-ff (sound (v q s t)) (unrefused-sound q s (l q s t) _ e ((sheet-line s).seen b)) in
        rw (b, (sheet-line s).still b (l q s t)) (sound-store-is (v q s t) (of-sound (v q s t) known)))

    alone-settled : (o : Option ℕ) → refusal q s t ≡ o
        → settle o (record { answer = says s (l q s t); state = store (next s (l q s t)) (v q s t) }) (v q s t)
        ≡ shown_by alone
        (settle o (record { answer = says s (l q s t); state = cond (writes s) (some (next s (l q s t))) t }) t)
    unfolding settle shown_by
    alone-settled (some n) e = refl
    alone-settled none e =
        ap {A = Lent} {B = After Answer Lent} (λ x. record { answer = says s (l q s t); state = x }) (alone-next e)

    tell-alone : step_on q s (alone t) ≡ shown_by alone (tell q s t)
    unfolding step_on tell
    tell-alone = alone-settled (refusal q s t) refl

    -- and the sheet
    put-after : (b : Bool)
        → cond b (put_back k (put t) (store (next s (l q s t)) (v q s t))) (put t)
        ≡ put (cond b (some (next s (l q s t))) t)
    put-after true = put_next t _ g ∙ ap (put_back k m) (stored t (next s (l q s t)) g)
    put-after false = refl

    put-settled : (o : Option ℕ)
        → settle o
        (record {
          answer = says s (l q s t);
          state = cond (writes s) (put_back k (put t) (store (next s (l q s t)) (v q s t))) (put t);
        })
        (put t)
        ≡ shown_by put
        (settle o (record { answer = says s (l q s t); state = cond (writes s) (some (next s (l q s t))) t }) t)
    unfolding settle shown_by
    put-settled (some n) = refl
    put-settled none =
        ap {A = SheetLent} {B = After Answer SheetLent} (λ x. record { answer = says s (l q s t); state = x })
        (put-after (writes s))

    tell-sheet : sheet_step k q s (put t) ≡ shown_by put (tell q s t)
    unfolding sheet_step tell
    tell-sheet = rw (put_view t g) (put-settled (refusal q s t))

    -- something is written after it just if it was before, or the step wrote
    wrote-settled : (o : Option ℕ)
        → is_some
        (settle o (record { answer = says s (l q s t); state = cond (writes s) (some (next s (l q s t))) t }) t).state
        ≡ (is_some t
        || (writes s
        && taken
        (settle o (record { answer = says s (l q s t); state = cond (writes s) (some (next s (l q s t))) t }) t
        ).answer))
    unfolding settle taken is_some
    wrote-settled (some n) = rw (and-false (writes s), or-false (is_some t)) refl
    wrote-settled none =
        both (writes s)
        (λ b. rw (b, (sheet-line s).told (l q s t), or-true (is_some t)) refl)
        (λ b. rw (b, or-false (is_some t)) refl)

    tell-wrote : is_some (tell q s t).state ≡ (is_some t || (writes s && taken (tell q s t).answer))
    unfolding tell
    tell-wrote = wrote-settled (refusal q s t)

  -- ---- the steps of a record

  then-wrote : (x : Bool) (a : After Answer (Option Layout)) (b : After (List Answer) (Option Layout))
      → is_some a.state ≡ (x || taken a.answer)
      → is_some b.state ≡ (is_some a.state || any taken b.answer)
      → is_some (and_then a b).state ≡ (x || any taken (and_then a b).answer)
  unfolding and_then
  then-wrote x a b e f =
      both (ends_job a.answer)
      (λ t. rw t (e ∙ ap (λ (y : Bool). x || y) (sym (or-false (taken a.answer)))))
      (λ t.
      rw t
      (f ∙ ap (λ (y : Bool). y || any taken b.answer) e ∙ or_assoc x (taken a.answer) (any taken b.answer)))

  steps-wrote : (ss : List Step) (t : Option Layout) → Ok t → all writes ss ≡ true
      → is_some (act_all (tell r) ss t).state ≡ (is_some t || any taken (act_all (tell r) ss t).answer)
  unfolding act_all
  steps-wrote [] t g e = sym (or-false (is_some t))
  steps-wrote (s ∷ ss) t g e =
      then-wrote (is_some t) (tell r s t) _
      (tell-wrote r.output s t g
      ∙ ap (λ (y : Bool). is_some t || (y && taken (tell r s t).answer)) (and_l (writes s) (all writes ss) e))
      (steps-wrote ss (tell r s t).state (tell_ok r.output s t g) (and_r (writes s) (all writes ss) e))

  record-wrote : (o : Option ℕ) (e : Bool) (ss : List Step) (p : ℕ) → all writes ss ≡ true
      → is_some (act_record (tell r) o e ss p none).state
      ≡ any taken (answers_in (as_reply (act_record (tell r) o e ss p none).answer))
  unfolding act_record as_reply answers_in is_some taken
  record-wrote (some n) e ss p h = refl
  record-wrote none true ss p h = refl
  record-wrote none false ss p h = steps-wrote ss none tt h

  -- ---- those of a list

  each-wrote : (ss : List Step) (n : ℕ) (t : Option Layout) → Ok t → all writes ss ≡ true
      → is_some (act_each tell (with_output r n) ss t).state
      ≡ (is_some t || any taken (act_each tell (with_output r n) ss t).answer)
  unfolding act_each in_front room_left
  each-wrote [] n t g e = sym (or-false (is_some t))
  each-wrote (s ∷ ss) n t g e =
      let a : After Answer (Option Layout) = tell (with_output r n) s t in
      let i : ℕ = n - length (numbers_out a.answer) in
      each-wrote ss i a.state (tell_ok n s t g) (and_r (writes s) (all writes ss) e)
      ∙ ap (λ (y : Bool). y || any taken (act_each tell (with_output r i) ss a.state).answer)
      (tell-wrote n s t g
      ∙ ap (λ (y : Bool). is_some t || (y && taken a.answer)) (and_l (writes s) (all writes ss) e))
      ∙ or_assoc (is_some t) (taken a.answer) (any taken (act_each tell (with_output r i) ss a.state).answer)

  list_wrote : (o : Option ℕ) (ss : List Step) → all writes ss ≡ true
      → is_some (act_list tell o r ss none).state ≡ any taken (answers_in (act_list tell o r ss none).answer)
  unfolding act_list answers_in is_some taken
  list_wrote (some n) ss h = refl
  list_wrote none ss h = each-wrote ss r.output none tt h

  -- ---- every call

  reply-wrote : (b : Bool) (c : Call) (x : Layout)
      → is_some (reply tell r b c x none).state ≡ rewrote c (reply tell r b c x none).answer
  unfolding reply rewrote writing
  reply-wrote b (step s) x =
      tell-wrote r.output s none tt
      ∙ unfold is_some answers_in in ap (λ (y : Bool). writes s && y) (sym (or-false (taken (tell r s none).answer)))
  reply-wrote b (run_record bs at) x = record-wrote _ (is_end bs at) (steps bs at) (record_end bs at) (steps-write bs at)
  reply-wrote b (ohms net i) x = unfold is_some in refl
  reply-wrote b (lay_list ws n) x = list_wrote _ (wishes ws) (wishes-write ws)

  abbrev told : Call → After Reply (Option Layout)
  told c = reply tell r (not (sound (view k m))) c (held (view k m)) none

  sheet-told : (c : Call)
      → reply (sheet_step k) r (not (sound (view k m))) c (held (view k m)) m ≡ shown_by put (told c)
  sheet-told c =
      (reply-shown put Ok tell (sheet_step k) r (λ n s t g. record { is = tell-sheet n s t g; kept = tell_ok n s t g })
      _ c _ none tt).is

  alone-told : (c : Call) → call_on r c (view k m) ≡ shown_by alone (told c)
  unfolding call_on
  alone-told c =
      (reply-shown alone Ok tell step_on r (λ n s t g. record { is = tell-alone n s t g; kept = tell_ok n s t g })
      _ c _ none tt).is

  put-told : (c : Call) (t : Option Layout) (b : Bool) → is_some t ≡ b → put t ≡ cond b (put_back k m (alone t)) m
  unfolding is_some
  put-told c none b e = rw (← e) refl
  put-told c (some l) b e = rw (← e) refl

  puts : (c : Call)
      → shown_by put (told c)
      ≡ record {
        answer = (shown_by alone (told c)).answer;
        state =
            cond (rewrote c (shown_by alone (told c)).answer) (put_back k m (shown_by alone (told c)).state) m;
      }
  unfolding shown_by
  puts c =
      ap {A = SheetLent} {B = After Reply SheetLent} (λ x. record { answer = (told c).answer; state = x })
      (put-told c (told c).state (rewrote c (told c).answer)
      (reply-wrote (not (sound (view k m))) c (held (view k m))))

  -- where something was written, the unused places are zero
  zero-told : (t : Option Layout) → Ok t → is_some t ≡ true → (i : ℕ) → 5 * total (counts (put t).boards) ≤ i
      → i < sheet_size → get_or (put t).table i 0 ≡ 0
  unfolding is_some
  zero-told none g e = clash e refl
  zero-told (some l) (g, few) e = put-zero k m w.whole here l few

  told-ok : (c : Call) → Ok (told c).state
  told-ok c = reply-keeps tell Ok r tell_ok _ c _ none tt

  -- the foil alone then has no more entries than it may; where nothing was written it is as it was
  few-alone : (t : Option Layout) → Ok t → is_some t ≡ true
      → (alone t).board.entries ≤ limit_of (counts m.boards) k
  unfolding is_some store board_of
  few-alone none g e = clash e refl
  few-alone (some l) (g, few) e = few

  same-alone : (t : Option Layout) → is_some t ≡ false → alone t ≡ view k m
  unfolding is_some
  same-alone none e = refl
  same-alone (some l) e = clash refl e

pub puts_back : PutsBack
unfolding sheet_call unless
puts_back r k c m o e =
    let w = stands-in r k m o in
    rw (o.eight-foils.limits, e, sheet-told r k m w o.here c, alone-told r k m w o.here c)
    (puts r k m w o.here c)

call-told : (r : Room) (k : ℕ) (c : Call) (m : SheetLent) (o : RoomOn r k m) → sheet_refusal r false k c ≡ none
    → sheet_call r k c m
    ≡ shown_by (put r k m (stands-in r k m o) o.here) (told r k m (stands-in r k m o) o.here c)
unfolding sheet_call unless
call-told r k c m o e =
    rw (o.eight-foils.limits, e) (sheet-told r k m (stands-in r k m o) o.here c)

pub clears-unused : ClearsUnused
clears-unused r k c m o e =
    let w = stands-in r k m o in
    subst
    (λ (a : After Reply SheetLent).
    rewrote c a.answer ≡ true → (i : ℕ) → 5 * total (counts a.state.boards) ≤ i → i < sheet_size
    → get_or a.state.table i 0 ≡ 0)
    (sym (call-told r k c m o e))
    (unfold shown_by in
    λ h.
    zero-told r k m w o.here (told r k m w o.here c).state (told-ok r k m w o.here c)
    (reply-wrote r k m w o.here (not (sound (view k m))) c (held (view k m)) ∙ h))

-- ---- what a call leaves of the foil alone, for code that puts it back

module _ (r : Room) (k : ℕ) (c : Call) (m : SheetLent) (o : RoomOn r k m) where
  abbrev on-foil : After Reply Lent
  on-foil = call_on r c (view k m)

  abbrev w : Stands r k m
  w = stands-in r k m o

  -- where it wrote entries, no more of them than the foil may have
  pub wrote-fits : rewrote c on-foil.answer ≡ true → on-foil.state.board.entries ≤ limit_of (counts m.boards) k
  wrote-fits =
      subst
      (λ (a : After Reply Lent).
      rewrote c a.answer ≡ true → a.state.board.entries ≤ limit_of (counts m.boards) k)
      (sym (alone-told r k m w o.here c))
      (unfold shown_by in
      λ h.
      few-alone r k m w o.here (told r k m w o.here c).state (told-ok r k m w o.here c)
      (reply-wrote r k m w o.here (not (sound (view k m))) c (held (view k m)) ∙ h))

  -- and where it did not, all as it was
  pub unwritten : rewrote c on-foil.answer ≡ false → on-foil.state ≡ view k m
  unwritten =
      subst (λ (a : After Reply Lent). rewrote c a.answer ≡ false → a.state ≡ view k m)
      (sym (alone-told r k m w o.here c))
      (unfold shown_by in
      λ h.
      same-alone r k m w o.here (told r k m w o.here c).state
      (reply-wrote r k m w o.here (not (sound (view k m))) c (held (view k m)) ∙ h))
