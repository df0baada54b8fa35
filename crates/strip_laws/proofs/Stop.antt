-- The first place where a test fails (`stop`), and the place where the stretch of passes before a place begins.
use Prim.Native.Nat.{ℕ, zero, suc, ◌+◌, ◌-◌, ◌≤◌, ◌<◌}
use native.Mathlib.Nat.{add-zero, eq-or-lt_of_le}
use native.Mathlib.Omega.{arith}
use mathlib.Core.Path.{◌≡◌, refl, sym, ◌∙◌}
use mathlib.Core.Bool.{Bool, true, false}
use mathlib.Core.Logic.{◌⊎◌, ⊎_elim, inl, inr}
use Rattle.foil_spec.specs.Strips.{stop_in, stop, starts}
use Rattle.strip_laws.specs.Rules.{Stop}
use Rattle.list_laws.proofs.Tests.{both, not_t, not_f}

module _ (g : ℕ → Bool) (N x : ℕ) where
  more : x < N → N - x ≡ suc (N - suc x)
  more l = omega arith

  pub stop-here : x < N → g x ≡ false → stop g N x ≡ x
  unfolding stop stop_in
  stop-here l e = rw (more l) (rw (e, stop_in))

  pub stop-next : x < N → g x ≡ true → stop g N x ≡ stop g N (suc x)
  unfolding stop stop_in
  stop-next l e = rw (more l) (rw (e, stop_in))

  pub stop-end : N ≤ x → stop g N x ≡ x
  unfolding stop stop_in
  stop-end l =
      let z : N - x ≡ 0 = omega arith in
      rw z

module _ (g : ℕ → Bool) (N : ℕ) where
  -- the stop is m places on, if g passes up to there, and there it fails or the end is met
  stop_is : (m x : ℕ) → x + m ≤ N → ((u : ℕ) → x ≤ u → u < x + m → g u ≡ true)
      → (x + m ≡ N) ⊎ (g (x + m) ≡ false) → stop g N x ≡ x + m
  stop_is zero x l h e =
      rw add-zero
      (⊎_elim
      (λ q. stop-end g N x (omega (arith, add-zero x)))
      (λ q.
      ⊎_elim
      (λ z. stop-end g N x (omega arith))
      (λ z. stop-here g N x z (rw add-zero at q))
      (eq-or-lt_of_le below))
      e)
    where
      below : x ≤ N
      below = omega arith
  stop_is (suc m) x l h e =
      let q : x + suc m ≡ suc x + m = omega arith in
      stop-next g N x (omega arith) (h x (omega arith) (omega arith))
      ∙ stop_is m (suc x) (omega arith) (λ u a b. h u (omega arith) (omega arith)) (rw q at e)
      ∙ sym q

  pub stop-of : (x e : ℕ) → Stop g N x e → stop g N x ≡ e
  stop-of x e s =
      let q : e ≡ x + (e - x) = omega arith in
      stop_is (e - x) x (omega arith) (λ u a b. s.passes u a (omega arith)) (rw q at s.ends) ∙ sym q

  stop-go : (m x : ℕ) → x + m ≡ N → Stop g N x (stop g N x)
  stop-go zero x q =
      rw (stop-end g N x (omega arith))
      (record {
        ge = omega arith;
        le = omega arith;
        passes = λ u a b. absurd (omega arith);
        ends = inl (omega arith);
      })
  stop-go (suc m) x q =
      both (g x)
      (λ e.
      rw (stop-next g N x (omega arith) e)
      (let r : Stop g N (suc x) (stop g N (suc x)) = stop-go m (suc x) (omega arith) in
      record {
        ge = omega arith;
        le = r.le;
        passes = λ u a b. ⊎_elim (λ z. rw (← z) e) (λ z. r.passes u z b) (eq-or-lt_of_le a);
        ends = r.ends;
      }))
      (λ e.
      rw (stop-here g N x (omega arith) e)
      (record {
        ge = omega arith;
        le = omega arith;
        passes = λ u a b. absurd (omega arith);
        ends = inr e;
      }))

  pub stop-is-stop : (x : ℕ) → x ≤ N → Stop g N x (stop g N x)
  stop-is-stop x l = stop-go (N - x) x (omega arith)

  pub stop-gt : (x : ℕ) → x < N → g x ≡ true → x < stop g N x
  stop-gt x l e = rw (stop-next g N x l e) (stop-is-stop (suc x) l).ge

pub starts-zero : (g : ℕ → Bool) → starts g 0 ≡ true
unfolding starts
starts-zero g = refl

pub starts-after : (g : ℕ → Bool) (x : ℕ) → g x ≡ false → starts g (suc x) ≡ true
unfolding starts
starts-after g x e = not_f e

pub starts-not : (g : ℕ → Bool) (x : ℕ) → starts g (suc x) ≡ true → g x ≡ false
unfolding starts
starts-not g x e = not_t (g x) e

-- the stretch of passes that goes up to x begins at a
pub record Start (g : ℕ → Bool) (x a : ℕ) : Type 0 where
  pub le : a ≤ x
  pub passes : (u : ℕ) → a ≤ u → u < x → g u ≡ true
  pub first : starts g a ≡ true

module _ (g : ℕ → Bool) where
  -- where the stretch of passes before x begins
  pub start_of : ℕ → ℕ
  start_of zero = zero
  start_of (suc x) = elim (g x) [ true ↦ start_of x | false ↦ suc x ]

  start-more : (x : ℕ) → g x ≡ true → start_of (suc x) ≡ start_of x
  unfolding start_of
  start-more x e = rw (e, start_of)

  start-here : (x : ℕ) → g x ≡ false → start_of (suc x) ≡ suc x
  unfolding start_of
  start-here x e = rw (e, start_of)

  start-zero : start_of 0 ≡ 0
  unfolding start_of
  start-zero = refl

  pub start_is : (x : ℕ) → Start g x (start_of x)
  start_is zero =
      rw start-zero
      (record { le = omega arith; passes = λ u a b. absurd (omega arith); first = starts-zero g })
  start_is (suc x) =
      both (g x)
      (λ e.
      rw (start-more x e)
      (let s : Start g x (start_of x) = start_is x in
      record {
        le = omega (arith, s.le);
        passes = λ u a b. ⊎_elim (λ q. rw q e) (λ l. s.passes u a l) (eq-or-lt_of_le (below u b));
        first = s.first;
      }))
      (λ e.
      rw (start-here x e)
      (record { le = omega arith; passes = λ u a b. absurd (omega arith); first = starts-after g x e }))
    where
      below : (u : ℕ) → u < suc x → u ≤ x
      below u l = omega arith

  pub start-of : (x a : ℕ) → Start g x a → start_of x ≡ a
  start-of zero a s = start-zero ∙ omega (arith, s.le)
  start-of (suc x) a s =
      ⊎_elim
      (λ q. at-end q)
      (λ l.
      start-more x (s.passes x (omega arith) (omega arith))
      ∙ start-of x a
      (record { le = omega arith; passes = λ u p r. s.passes u p (omega arith); first = s.first }))
      (eq-or-lt_of_le s.le)
    where
      at-end : a ≡ suc x → start_of (suc x) ≡ a
      at-end q = start-here x (starts-not g x (rw q at s.first)) ∙ sym q
