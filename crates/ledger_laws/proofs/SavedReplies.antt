-- What the records of a saved foil answer and leave, one by one.
use Prim.Native.Nat.{ℕ, ◌+◌, ◌<◌}
use native.Mathlib.Omega.{arith}
use mathlib.Core.Path.{◌≡◌, refl, sym, ap, ◌∙◌, subst}
use mathlib.Core.Bool.{Bool, true, false, cond, ◌||◌, xor}
use mathlib.Core.List.{List, [], ◌∷◌, ◌++◌}
use mathlib.Core.Option.{none, some}
use lib.Dec.{eqb}
use borrow.Author.Tests.{eqb-true, ne_eqb}
use lib.ListN.{length}
use Rattle.foil_spec.specs.Foil.{Entry, entry, Layout, net_ok, box_ok, shape_ok, entry_ok, no_crossing}
use Rattle.foil_spec.specs.Foil.{patch_margin}
use Rattle.foil_spec.specs.Saving.{two_bytes, board_bytes, entry_bytes}
use Rattle.foil_spec.specs.Ledger.{with_entries, too_long, is_too_fine, next, says, first, Room, short, refusals, after_lent}
use Rattle.foil_spec.specs.Ledger.{by_pen, Step, new_foil, draw, put_leg, Answer, refused, accepted, After, settle}
use Rattle.foil_spec.specs.Ledger.{ledger_step, pen_of, clearance_refusal}
use Rattle.foil_spec.specs.Lent.{Lent, store, layout_ok}
use Rattle.foil_spec.specs.Calls.{run_record, RecordReply, ran_steps, end_mark, ends_job, and_then, act_all, act_record}
use Rattle.foil_spec.specs.Calls.{too_large, whole_refusals, ledger_record, record_on}
use Rattle.list_laws.proofs.Tests.{both, and_l, and_r, parts}
use Rattle.ledger_laws.proofs.Crossing.{last-over, last_under}
use Rattle.ledger_laws.proofs.Rules.{of-ok}
use Rattle.ledger_laws.proofs.Refusals.{own-refused}
use Rattle.ledger_laws.proofs.Steps.{shown, call-is, record-as}
use Rattle.ledger_laws.proofs.Lending.{begun-record}
use Rattle.ledger_laws.proofs.RecordBytes.{OneStep, step_of, board-begins, entry-begins, passes-there}
use Rattle.ledger_laws.proofs.RecordBytes.{goes-on-there, does-there, ends_there, mark-passes, mark-there}

-- the layout with one more entry
abbrev pub plus : Layout → Entry → Layout
plus l e = with_entries l (l.entries ++ e ∷ [])

-- with it no patch blocks a point of a leg
abbrev pub Clear : Layout → Entry → Type 0
Clear l e = no_crossing (patch_margin l.pen) (l.entries ++ e ∷ []) ≡ true

-- an entry that would leave too many strips is refused by 11, and all stays as it is
abbrev pub said_of : Bool → Answer
said_of true = refused 11
said_of false = accepted

abbrev pub left_of : Bool → Layout → Entry → Layout
left_of true l e = l
left_of false l e = plus l e

settled : (t : Bool) (l : Layout) (e : Entry)
    → settle (cond t (some 11) none) (record { answer = accepted; state = plus l e }) l
    ≡ record { answer = said_of t; state = left_of t l e }
unfolding settle
settled true l e = refl
settled false l e = refl

-- an entry that a table may hold is a patch, or of a net that tracks may have
leg-net : (W H : ℕ) (e : Entry) → eqb e.net 0 ≡ false → entry_ok W H e ≡ true → net_ok e.net ≡ true
unfolding entry_ok shape_ok
leg-net W H e leg ok =
    let shape : shape_ok e ≡ true = and_r (box_ok W H e) (shape_ok e) ok in
    and_l (net_ok e.net) _ (rw leg at shape)

module _ (r : Room) (long : short r ≡ false) where
  -- ---- on the ledger

  new-step : (l : Layout) → layout_ok l ≡ true
      → ledger_step r (new_foil l.width l.height (by_pen l.pen)) l
      ≡ record { answer = accepted; state = with_entries l [] }
  unfolding ledger_step refusals clearance_refusal first next pen_of says settle
  new-step l g =
      let k = of-ok l g in
      let own = own-refused r (new_foil l.width l.height (by_pen l.pen)) l false long refl in
      rw (own, k.width, k.height, k.pen) refl

  module _ (l : Layout) where
    patch-step : (x0 y0 x1 y1 : ℕ) (t : Bool) → entry_ok l.width l.height (entry 0 x0 y0 x1 y1) ≡ true
        → Clear l (entry 0 x0 y0 x1 y1) → too_long r (plus l (entry 0 x0 y0 x1 y1)) ≡ false
        → is_too_fine (plus l (entry 0 x0 y0 x1 y1)) ≡ t
        → ledger_step r (draw x0 y0 x1 y1) l ≡ record { answer = said_of t; state = left_of t l (entry 0 x0 y0 x1 y1) }
    unfolding ledger_step refusals first next says settle entry_ok
    patch-step x0 y0 x1 y1 t ok clear few fine =
        let box : box_ok l.width l.height (entry 0 x0 y0 x1 y1) ≡ true = search parts in
        rw (
          own-refused r (draw x0 y0 x1 y1) l false long refl,
          box,
          last-over _ l.entries (entry 0 x0 y0 x1 y1) clear,
          few,
          fine,
        )
        (settled t l (entry 0 x0 y0 x1 y1))

    leg-step : (e : Entry) (t : Bool) → eqb e.net 0 ≡ false → entry_ok l.width l.height e ≡ true
        → Clear l e → too_long r (plus l e) ≡ false → is_too_fine (plus l e) ≡ t
        → ledger_step r (put_leg e) l ≡ record { answer = said_of t; state = left_of t l e }
    unfolding ledger_step refusals clearance_refusal first next pen_of says settle
    leg-step e t leg ok clear few fine =
        rw (
          own-refused r (put_leg e) l false long refl,
          leg-net l.width l.height e leg ok,
          ok,
          last_under _ l.entries e clear,
          few,
          fine,
        )
        (settled t l e)

    entry-step : (e : Entry) (t : Bool) → entry_ok l.width l.height e ≡ true → Clear l e
        → too_long r (plus l e) ≡ false → is_too_fine (plus l e) ≡ t
        → ledger_step r (step_of e) l ≡ record { answer = said_of t; state = left_of t l e }
    unfolding step_of
    entry-step e t ok clear few fine =
        both (eqb e.net 0)
        (λ n. rw n (patch (eqb-true e.net 0 n) ok clear few fine))
        (λ n. rw n (leg-step e t n ok clear few fine))
      where
        patch : e.net ≡ 0 → entry_ok l.width l.height e ≡ true → Clear l e → too_long r (plus l e) ≡ false
            → is_too_fine (plus l e) ≡ t
            → ledger_step r (draw e.x0 e.y0 e.x1 e.y1) l ≡ record { answer = said_of t; state = left_of t l e }
        patch n =
            subst
            (λ (k : Entry).
            entry_ok l.width l.height k ≡ true → Clear l k → too_long r (plus l k) ≡ false → is_too_fine (plus l k) ≡ t
            → ledger_step r (draw k.x0 k.y0 k.x1 k.y1) l
            ≡ record { answer = said_of t; state = left_of t l k })
            (λ i. entry (sym n i) e.x0 e.y0 e.x1 e.y1)
            (patch-step e.x0 e.y0 e.x1 e.y1 t)

  -- a record that is one step, and does not end the job
  one-step : (done bs : List ℕ) (board : Bool) (s : Step) (size : ℕ) → OneStep bs board s size
      → (l l' : Layout) (a : Answer) → too_large (done ++ bs) ≡ false → xor (eqb (length done) 0) board ≡ false
      → ledger_step r s l ≡ record { answer = a; state = l' } → ends_job a ≡ false
      → ledger_record r (done ++ bs) (length done) l
      ≡ record { answer = ran_steps (a ∷ []) (some (length done + size)); state = l' }
  unfolding ledger_record whole_refusals after_lent first act_record act_all and_then
  one-step done bs board s size b l l' a large right e goes =
      rw (
        large,
        long,
        passes-there done bs board s size b right,
        goes-on-there done bs board s size b,
        does-there done bs board s size b,
        ends_there done bs board s size b,
        e,
        goes,
      )
      (ap
      (λ (b : Bool).
      record { answer = ran_steps (a ∷ []) (cond (b || false) none (some (length done + size))); state = l' }) goes)

  ends-not : (t : Bool) → ends_job (said_of t) ≡ false
  unfolding ends_job
  ends-not true = refl
  ends-not false = refl

  -- ---- on what is lent

  module _ (m : Lent) where
    -- the board's record on lists that hold anything
    pub board-call : (rest : List ℕ) (l : Layout) → layout_ok l ≡ true → too_large (board_bytes l ++ rest) ≡ false
        → record_on r (board_bytes l ++ rest) 0 m
        ≡ record {
          answer = ran_steps (accepted ∷ []) (some (length (board_bytes l)));
          state = store (with_entries l []) m;
        }
    unfolding shown board_bytes two_bytes
    board-call rest l g large =
        let bs : List ℕ = board_bytes l ++ rest in
        let new = one-step [] bs true (new_foil l.width l.height (by_pen l.pen)) (length (board_bytes l))
        (board-begins rest l) l (with_entries l []) accepted large (unfold xor in refl) (new-step l g)
        (unfold ends_job in refl) in
        record-as r bs 0 l m m
        (begun-record r bs [] (some (length (board_bytes l))) l m (ap (λ (a : After RecordReply Layout). a.answer) new)
        ).is
        ∙ ap (shown m) new

    -- an entry's record where a layout is stored
    pub entry-call : (done rest : List ℕ) (l : Layout) (e : Entry) (t : Bool) → 0 < length done → layout_ok l ≡ true
        → entry_ok l.width l.height e ≡ true → Clear l e → too_long r (plus l e) ≡ false → is_too_fine (plus l e) ≡ t
        → too_large (done ++ (entry_bytes e ++ rest)) ≡ false
        → record_on r (done ++ (entry_bytes e ++ rest)) (length done) (store l m)
        ≡ record {
          answer = ran_steps (said_of t ∷ []) (some (length done + length (entry_bytes e)));
          state = store (left_of t l e) m;
        }
    unfolding shown xor
    entry-call done rest l e t later g ok clear few fine large =
        let bs : List ℕ = entry_bytes e ++ rest in
        record-as r (done ++ bs) (length done) l m (store l m) (call-is r (run_record (done ++ bs) (length done)) l m g)
        ∙ ap (shown m)
        (one-step done bs false (step_of e) (length (entry_bytes e)) (entry-begins e rest) l (left_of t l e)
        (said_of t) large (rw (ne_eqb (length done) 0 (λ z. omega arith)) refl)
        (entry-step l e t ok clear few fine) (ends-not t))

    -- the end mark there
    pub mark-call : (done : List ℕ) (l : Layout) → 0 < length done → layout_ok l ≡ true
        → too_large (done ++ (0 ∷ [])) ≡ false
        → record_on r (done ++ (0 ∷ [])) (length done) (store l m) ≡ record { answer = end_mark; state = store l m }
    unfolding shown ledger_record whole_refusals after_lent first act_record
    mark-call done l later g large =
        record-as r (done ++ (0 ∷ [])) (length done) l m (store l m)
        (call-is r (run_record (done ++ (0 ∷ [])) (length done)) l m g)
        ∙ ap (shown m) (rw (large, long, mark-passes done later, mark-there done later) refl)
