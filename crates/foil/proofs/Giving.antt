-- What a refused step gives and what an accepted one does, and the tests that calls begin with.
use Prim.Native.Nat.{ℕ, ◌/◌, ◌≤◌, ◌<◌}
use native.Mathlib.Omega.{arith}
use mathlib.Core.Path.{◌≡◌, refl, sym, ap, ◌∙◌, subst}
use mathlib.Core.Bool.{Bool, true, false, not}
use mathlib.Core.List.{List}
use mathlib.Core.Logic.{⊎_elim}
use mathlib.Core.Option.{Option, none, some}
use lib.Dec.{ltb}
use borrow.Author.Tests.{lt-ltb, le-ltb}
use lib.ListN.{length}
use Rattle.foil_spec.specs.Limits.{max_entries, table_size, max_strips, strips_size}
use Rattle.foil_spec.specs.Foil.{Layout}
use Rattle.foil_spec.specs.Ledger.{Room, short, Step, says, next, Refusal, first, refusals, after_lent}
use Rattle.foil_spec.specs.Ledger.{After, settle, refusal_of}
use Rattle.foil_spec.specs.Ledger.{Answer as Outcome}
use Rattle.foil_spec.specs.Lent.{Lent, lent, held, store, sound, room_in, step_on, output_after}
use Rattle.foil_spec.specs.declared.Board.{Board}
use Rattle.list_laws.proofs.Tests.{lt-or-le}
use Rattle.ledger_laws.proofs.Refusals.{own-refused}
use Rattle.ledger_laws.proofs.Stored.{Long}
use Rattle.ledger_laws.proofs.Lending.{long-lists}
use Rattle.tables.specs.Booked.{Stored, Unchanged}
use Rattle.std.specs.Prelude.{Ok, Err}
use Rattle.foil.specs.declared.Accepted.TheVariants.{Done}
use Rattle.foil.specs.Contract.{answer_of, Gave, Wrote, TooShort, Checked, FirstChecked, LentChecked, taken_over}

-- ---- the lists' lengths

module _ (t s : List ℕ) where
  pub short-table : length t < table_size → TooShort t s true
  unfolding short room_in
  short-table h = record { is = λ b limit output. simp (lt-ltb (length t / 5) max_entries (omega arith)) }

  pub by-strips : table_size ≤ length t → TooShort t s (ltb (length s) strips_size)
  unfolding short room_in
  by-strips h =
      record {
        is = λ b limit output.
            simp (le-ltb (length t / 5) max_entries (omega arith))
            (⊎_elim
            (λ (l : length s < strips_size).
            lt-ltb (length s) strips_size l ∙ sym (lt-ltb (length s / 4) max_strips (omega arith)))
            (λ (l : strips_size ≤ length s).
            le-ltb (length s) strips_size l ∙ sym (le-ltb (length s / 4) max_strips (omega arith)))
            (lt-or-le (length s) strips_size));
      }

pub long-room : (m : Lent) → Long m → (limit output : ℕ) → short (room_in limit m output) ≡ false
unfolding short room_in
long-room m n limit output =
    simp (
      le-ltb (length m.table / 5) max_entries (omega (arith, n.table)),
      le-ltb (length m.strips / 4) max_strips (omega (arith, n.strips)),
    )

-- refusals of which none applies, and of which the first has a number
module _ (rs : List Refusal) (k : Checked) (f : FirstChecked rs k) where
  pub none_first : (u : Unit {0}) → k ≡ Ok u → first rs ≡ none
  none_first u e = subst (FirstChecked rs) e f

  pub number-first : (n : ℕ) → k ≡ Err n → first rs ≡ some n
  number-first n e = subst (FirstChecked rs) e f

-- the room of a call has the limit and the output that it was given
module _ (limit : ℕ) (m : Lent) (output : ℕ) where
  pub limit_is : (room_in limit m output).limit ≡ limit
  unfolding room_in
  limit_is = refl

  pub output-is : (room_in limit m output).output ≡ output
  unfolding room_in
  output-is = refl

-- ---- a step that is refused

pub gave-refused : (o : Option ℕ) (done : After Outcome Lent) (m : Lent) (n : ℕ) → o ≡ some n
    → Gave (settle o done m) (Err n) m.board m.table m.strips
unfolding settle answer_of
gave-refused o done m n e = rw e (record { answer = refl; board = refl; table = refl; strips = refl })

module _ (c : Step) (m : Lent) (n : ℕ) where
  pub step-refused : (r : Room) → refusal_of r (not (sound m)) c (held m) ≡ some n
      → Gave (step_on r c m) (Err n) m.board m.table m.strips
  unfolding step_on
  step-refused r e = gave-refused _ _ m n e

  -- the same with an output list, which stays as it is
  pub wrote-refused : (r : Room) (out : List ℕ) → refusal_of r (not (sound m)) c (held m) ≡ some n
      → Wrote c r m out (Err n) m.board m.table m.strips out
  unfolding step_on settle output_after
  wrote-refused r out e = record { gave = step-refused r e; output = rw e refl }

  -- on a state that keeps the rules, refused by one of its own refusals
  pub own-done : sound m ≡ true → (r : Room) → short r ≡ false → first (refusals c r (held m)) ≡ some n
      → Gave (step_on r c m) (Err n) m.board m.table m.strips
  own-done g r long e =
      step-refused r
      (ap (λ (b : Bool). refusal_of r (not b) c (held m)) g ∙ own-refused r c (held m) false long refl ∙ e)

  pub own-wrote : sound m ≡ true → (r : Room) (out : List ℕ) → short r ≡ false → first (refusals c r (held m)) ≡ some n
      → Wrote c r m out (Err n) m.board m.table m.strips out
  own-wrote g r out long e =
      wrote-refused r out
      (ap (λ (b : Bool). refusal_of r (not b) c (held m)) g ∙ own-refused r c (held m) false long refl ∙ e)

-- ---- 12 and 13

module _ (b : Board) (t s : List ℕ) (k : Bool) (k-is : TooShort t s k) where
  pub long-enough : k ≡ false → Long (lent b t s)
  long-enough e = long-lists max_entries (lent b t s) 0 (sym (k-is.is b max_entries 0) ∙ e)

  pub too_short : k ≡ true → LentChecked (lent b t s) (Err 12)
  unfolding after_lent first
  too_short e limit output rs = rw (sym (k-is.is b limit output) ∙ e) refl

  pub broken : k ≡ false → (g : Bool) → g ≡ sound (lent b t s) → g ≡ false
      → LentChecked (lent b t s) (Err 13)
  unfolding after_lent first
  broken e g g-is y limit output rs = rw (sym (k-is.is b limit output) ∙ e, sym g-is ∙ y) refl

-- ---- a step that is accepted

-- a step of a sound state as its own refusals settle it
pub own-step : (r : Room) (c : Step) (m : Lent) → sound m ≡ true → short r ≡ false
    → step_on r c m
    ≡ settle (first (refusals c r (held m))) (record { answer = says c (held m); state = store (next c (held m)) m }) m
unfolding step_on
own-step r c m g long = rw (g, own-refused r c (held m) false long refl) refl

-- ---- a layout that is taken over, or refused by 11

module _ (l : Layout) (b : Board) (t s t' s' : List ℕ) where
  pub taken : (after : Board) → Stored l t s t' s' after → Gave (taken_over l (lent b t s)) (Ok Done) after t' s'
  unfolding first settle answer_of store
  taken after k =
      rw k.fine
      (record { answer = refl; board = k.board; table = k.table; strips = k.strips })

  pub not_taken : Unchanged l t s t' s' → Gave (taken_over l (lent b t s)) (Err 11) b t' s'
  unfolding first
  not_taken k =
      subst (λ (x : List ℕ). Gave (taken_over l (lent b t s)) (Err 11) b x s') (sym k.table)
      (subst (λ (x : List ℕ). Gave (taken_over l (lent b t s)) (Err 11) b t x) (sym k.strips)
      (gave-refused _ _ (lent b t s) 11 (rw k.many refl)))
