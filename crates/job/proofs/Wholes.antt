-- A record as a whole, return by return.
use Prim.Native.Nat.{ℕ, ◌<◌}
use native.Mathlib.Decide.{ℕ_discrete}
use mathlib.Core.Path.{◌≡◌, refl, sym, ap, ◌∙◌, subst}
use mathlib.Core.Bool.{Bool, true, false, not, ◌&&◌, ◌||◌, and-false, xor}
use mathlib.Core.List.{List}
use mathlib.Core.Logic.{by_cases}
use mathlib.Core.Option.{Option, none, some}
use lib.Dec.{leb, ltb, eqb}
use lib.ListN.{length, get_or}
use borrow.Author.Tests.{le-ltb, ltb-false, leb-false, eq-eqb, ne_eqb}
use Rattle.foil_spec.specs.Limits.{max_bytes}
use Rattle.foil_spec.specs.Ledger.{first, Room, after_lent}
use Rattle.foil_spec.specs.Lent.{Lent, lent, sound, room_in, step_on, output_after}
use Rattle.foil_spec.specs.Job.{map_byte, has, is_end, record_end, steps, record_checks}
use Rattle.foil_spec.specs.Calls.{as_reply, act_record, too_large, whole_refusals, record_on, answers_in, output_all}
use Rattle.foil_spec.specs.Calls.{output_by}
use Rattle.foil_spec.specs.declared.Board.{Board}
use Rattle.list_laws.proofs.Tests.{clash, or_l}
use Rattle.ledger_laws.proofs.Refusals.{none-applies}
use Rattle.std.specs.Prelude.{Ok, Err}
use Rattle.foil.specs.Contract.{Checked}
use Rattle.foil.proofs.Giving.{long-room}
use Rattle.job.specs.Contract.{Reply, reply_of, Replies, RecordIn}
use Rattle.job.specs.Parts.{Lends, Ready, checked_of, StepsDone}
use Rattle.job.specs.declared.Progress.{Progress}
use Rattle.job.specs.declared.Progress.TheVariants.{AtEnd}

-- ---- checks by the first that is not passed

checked-some : (o : Option ℕ) (n : ℕ) → Err n ≡ checked_of o → o ≡ some n
unfolding checked_of
checked-some (some k) n e = let h : k ≡ n = cc in ap some h
checked-some none n e = cc

checked-none : (o : Option ℕ) (u : Unit {0}) → Ok u ≡ checked_of o → o ≡ none
unfolding checked_of
checked-none (some k) u e = cc
checked-none none u e = refl

-- 13 does not apply to what may be lent
unbroken : (bs : List ℕ) (at : ℕ) (m : Lent) → Lends bs at m → (not (sound m) && not (eqb at 0)) ≡ false
unbroken bs at m l =
    by_cases (ℕ_discrete at 0)
    (λ z. rw (eq-eqb at 0 z) (and-false (not (sound m))))
    (λ ne. rw (l.fine ne) refl)

-- ---- the record's own checks

module _ (bs : List ℕ) (at : ℕ) (q : Checked) (q-is : q ≡ checked_of (first (record_checks bs at))) (u : Unit {0})
    (checked : q ≡ Ok u) where
  passed : first (record_checks bs at) ≡ none
  passed = checked-none _ u (sym checked ∙ q-is)

  pub there : at < length bs
  unfolding record_checks
  there =
      let e = passed in
      let h : leb (length bs) at ≡ false = search none-applies in
      leb-false (length bs) at h

  -- the first record has a board
  board-first : at ≡ 0 → has bs at 0 ≡ true
  unfolding record_checks xor
  board-first z =
      let e = passed in
      let h : (xor (eqb at 0) (has bs at 0) || has bs at 5 && not (has bs at 0)) ≡ false = search none-applies in
      only (has bs at 0) (rw (eq-eqb at 0 z) at (or_l (xor (eqb at 0) (has bs at 0)) _ h))
    where
      only : (t : Bool) → xor true t ≡ false → t ≡ true
      only true x = refl
      only false x = clash refl x

  module _ (more : get_or bs at 0 ≡ 0 → ⊥) where
    not_end : is_end bs at ≡ false
    unfolding is_end map_byte
    not_end = ne_eqb (get_or bs at 0) 0 more

    pub ready : (m : Lent) → Lends bs at m → Ready bs at m
    unfolding record_checks
    ready m l =
        let e = passed in
        let h : (not (is_end bs at) && ltb (length bs) (record_end bs at)) ≡ false = search none-applies depth 9 in
        record {
          whole =
              record {
                begun = record { there = there; few = l.few };
                ends = ltb-false (length bs) (record_end bs at) (rw not_end at h);
              };
          table = l.table;
          strips = l.strips;
          fine = λ unset.
              by_cases (ℕ_discrete at 0) (λ z. clash (board-first z) unset) (λ ne. l.fine ne);
        }

-- ---- the returns

module _ (limit : ℕ) (bs : List ℕ) (at : ℕ) (b : Board) (t s out : List ℕ) where
  abbrev m : Lent
  m = lent b t s

  abbrev room : Room
  room = room_in limit m (length out)

  call-done : (o : Option ℕ) → first (whole_refusals room (not (sound m)) bs at) ≡ o
      → (r : Reply) (b' : Board) (t' s' out' : List ℕ)
      → Replies (has bs at) (act_record (step_on room) o (is_end bs at) (steps bs at) (record_end bs at) m) out r b' t' s'
      out'
      → RecordIn limit bs at m out r b' t' s' out'
  unfolding record_on
  call-done o e r b' t' s' out' d =
      subst (λ (x : Option ℕ).
      Replies (has bs at) (act_record (step_on room) x (is_end bs at) (steps bs at) (record_end bs at) m) out r b' t' s'
      out')
      (sym e) d

  module _ (l : Lends bs at m) where
    -- the checks that are left are the record's own
    own-left : first (whole_refusals room (not (sound m)) bs at) ≡ first (record_checks bs at)
    unfolding whole_refusals after_lent first too_large
    own-left =
        rw (
          le-ltb max_bytes (length bs) l.few,
          long-room m (record { table = l.table; strips = l.strips }) limit (length out),
          unbroken bs at m l,
        )
        refl

    module _ (q : Checked) (q-is : q ≡ checked_of (first (record_checks bs at))) where
      pub record-refused : (n : ℕ) → q ≡ Err n → RecordIn limit bs at m out (Err n) b t s out
      unfolding act_record as_reply reply_of output_by answers_in output_all output_after
      record-refused n e =
          call-done (some n) (own-left ∙ checked-some _ n (sym e ∙ q-is)) (Err n) b t s out
          (record { reply = refl; board = refl; table = refl; strips = refl; output = refl })

      module _ (u : Unit {0}) (checked : q ≡ Ok u) where
        pub at-end : get_or bs at 0 ≡ 0 → RecordIn limit bs at m out (Ok AtEnd) b t s out
        unfolding act_record as_reply is_end map_byte reply_of output_by answers_in output_all
        at-end z =
            call-done none (own-left ∙ passed bs at q q-is u checked) _ b t s out
            (rw (eq-eqb (get_or bs at 0) 0 z)
            (record { reply = refl; board = refl; table = refl; strips = refl; output = refl }))

        pub ran-done : (get_or bs at 0 ≡ 0 → ⊥) → (r : Progress) (b' : Board) (t' s' out' : List ℕ)
            → StepsDone limit bs at m out r b' t' s' out' → RecordIn limit bs at m out (Ok r) b' t' s' out'
        ran-done more r b' t' s' out' d =
            call-done none (own-left ∙ passed bs at q q-is u checked) (Ok r) b' t' s' out'
            (rw (not_end bs at q q-is u checked more) d)
