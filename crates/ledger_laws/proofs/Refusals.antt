-- The first refusal that applies, and what is known where none does.
use Prim.Native.Nat.{ℕ}
use mathlib.Core.Path.{◌≡◌, refl, sym, subst}
use mathlib.Core.Bool.{Bool, true, false, not, ◌&&◌, ◌||◌}
use mathlib.Core.List.{List, [], ◌∷◌, map}
use mathlib.Core.Logic.{inl, inr}
use mathlib.Core.Option.{none, some, some-ne-none, none-ne-some, some-injective}
use Rattle.foil_spec.specs.Lists.{all}
use Rattle.foil_spec.specs.Foil.{Layout}
use Rattle.foil_spec.specs.Ledger.{Step, reads, Refusal, ◌⇒◌, first, Room, short, refusals, after_lent, refusal_of}
use Rattle.list_laws.proofs.Tests.{both, clash, and_l, and_r}
use Rattle.list_laws.proofs.Members.{In}

pub no-rule : (a : Bool) (n : ℕ) (rs : List Refusal) → first ((a ⇒ n) ∷ rs) ≡ none → a ≡ false
unfolding first
no-rule true n rs h = absurd (some-ne-none n h)
no-rule false n rs h = refl

pub no_more : (a : Bool) (n : ℕ) (rs : List Refusal) → first ((a ⇒ n) ∷ rs) ≡ none → first rs ≡ none
unfolding first
no_more true n rs h = absurd (some-ne-none n h)
no_more false n rs h = h

-- where no refusal applies, any one of them does not
pub ruleset none-applies = (no-rule, no_more)

-- the first that applies passes a test that every one passes that can apply
pub first_passes : (p : ℕ → Bool) (rs : List Refusal)
    → all (λ (c : Refusal). not c.applies || p c.number) rs ≡ true
    → (n : ℕ) → first rs ≡ some n → p n ≡ true
unfolding first
first_passes p [] h n e = absurd (none-ne-some n e)
first_passes p (c ∷ rs) h n e =
    both c.applies
    (λ t.
    let here : p c.number ≡ true = rw t at (and_l (not c.applies || p c.number) _ h) in
    let same : some c.number ≡ some n = rw t at e in
    subst (λ (k : ℕ). p k ≡ true) (some-injective c.number n same) here)
    (λ t. first_passes p rs (and_r (not c.applies || p c.number) _ h) n (rw t at e))

-- it is the number of one of them
pub first-in : (rs : List Refusal) (n : ℕ) → first rs ≡ some n → In n (map (λ (c : Refusal). c.number) rs)
unfolding first
first-in [] n e = absurd (none-ne-some n e)
first-in (c ∷ rs) n e =
    both c.applies
    (λ t.
    let same : some c.number ≡ some n = rw t at e in
    inl (sym (some-injective c.number n same)))
    (λ t. inr (first-in rs n (rw t at e)))

module _ (r : Room) (s : Step) (l : Layout) where
  -- a step is refused by 12 where the lists are too short
  pub short-refused : (b : Bool) → short r ≡ true → refusal_of r b s l ≡ some 12
  unfolding refusal_of after_lent first
  short-refused b e = rw e refl

  -- else by 13 where it reads a state that breaks a rule
  pub broken-refused : short r ≡ false → reads s ≡ true → refusal_of r true s l ≡ some 13
  unfolding refusal_of after_lent first
  broken-refused e f = rw (e, f) refl

  -- else by its own refusals
  pub own-refused : (b : Bool) → short r ≡ false → (b && reads s) ≡ false → refusal_of r b s l ≡ first (refusals s r l)
  unfolding refusal_of after_lent first
  own-refused b e f = rw (e, f) refl

  -- where it is not refused, the lists are long enough, what it reads keeps the rules, and none of its own applies
  pub unrefused-long : (b : Bool) → refusal_of r b s l ≡ none → short r ≡ false
  unfolding refusal_of after_lent
  unrefused-long b e = no-rule (short r) 12 _ e

  pub unrefused-sound : (b : Bool) → refusal_of r b s l ≡ none → reads s ≡ true → b ≡ false
  unfolding refusal_of after_lent
  unrefused-sound true e f = clash f (no-rule (reads s) 13 _ (no_more (short r) 12 _ e))
  unrefused-sound false e f = refl

  pub unrefused-own : (b : Bool) → refusal_of r b s l ≡ none → first (refusals s r l) ≡ none
  unfolding refusal_of after_lent
  unrefused-own b e = no_more (b && reads s) 13 _ (no_more (short r) 12 _ e)
