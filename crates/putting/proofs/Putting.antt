-- Bytes put at a place of a list, and others after them.
use Prim.Native.Nat.{ℕ, suc, ◌+◌, ◌≤◌, ◌<◌}
use native.Mathlib.Omega.{arith}
use native.Mathlib.Nat.{add-zero, zero-add}
use native.Mathlib.Numerals.{add-one}
use mathlib.Core.Path.{◌≡◌, refl, sym, ap, ◌∙◌, subst}
use mathlib.Core.List.{List, [], ◌∷◌, ◌++◌, map, append_assoc, append-nil}
use lib.ListN.{length, take, drop, set, length-append, length-take, length-drop}
use lib.Seq.{paste-zero, set_split, append_snoc, length-take-le, take_at}
use lib.Seq.{drop-append-add, drop-drop}
use Rattle.foil_spec.specs.Lists.{range, each}
use Rattle.foil_spec.specs.Lent.{over_front}
use Rattle.list_laws.proofs.Members.{map_last}
use Rattle.putting.specs.Put.{Put}

-- no bytes
pub put-none : (o : List ℕ) (at : ℕ) → at ≤ length o → Put o at [] o at
put-none o at l = record { fits = omega arith; is = paste-zero o at []; next = sym (add-zero at) }

-- one byte
pub put_one : (o : List ℕ) (at b : ℕ) → at < length o → Put o at (b ∷ []) (set o at b) (at + 1)
put_one o at b l =
    record {
      fits = omega arith;
      is =
          set_split o at b l
          ∙ sym (append_snoc (take at o) b (drop (suc at) o))
          ∙ ap (λ (k : ℕ). take at o ++ (b ∷ []) ++ drop k o) (sym (add-one at));
      next = refl;
    }

-- the list is as long as it was
pub put-length : {o o₁ a : List ℕ} {at r : ℕ} → Put o at a o₁ r → length o₁ ≡ length o
put-length p =
    let room = p.fits in
    omega (arith, simp (length-append, length-take, length-drop) at (ap length p.is))

module _ (o a : List ℕ) (at : ℕ) where
  -- where the bytes a end
  put-seam : at ≤ length o → length (take at o ++ a) ≡ at + length a
  put-seam l = length-append (take at o) a ∙ ap (λ (k : ℕ). k + length a) (length-take-le at o l)

  -- what stands after the bytes b that follow them
  put-past : at ≤ length o → (b : List ℕ)
      → drop (at + length a + length b) (take at o ++ a ++ drop (at + length a) o) ≡ drop (at + length (a ++ b)) o
  put-past l b =
      let rest : List ℕ = drop (at + length a) o in
      let both : at + length a + length b ≡ at + length (a ++ b) = simp length-append (omega arith) in
      ap (λ (k : ℕ). drop (k + length b) (take at o ++ a ++ rest)) (sym (put-seam l))
      ∙ drop-append-add (take at o ++ a) rest (length b)
      ∙ drop-drop (length b) (at + length a) o
      ∙ ap (λ (k : ℕ). drop k o) both

  -- the bytes b after them
  put_next : at ≤ length o → (b : List ℕ) (o₁ : List ℕ) → o₁ ≡ take at o ++ a ++ drop (at + length a) o
      → take (at + length a) o₁ ++ b ++ drop (at + length a + length b) o₁
      ≡ take at o ++ (a ++ b) ++ drop (at + length (a ++ b)) o
  put_next l b o₁ e =
      let rest : List ℕ = drop (at + length a) o in
      ap (λ (x : List ℕ). take (at + length a) x ++ b ++ drop (at + length a + length b) x) e
      ∙ ap (λ (x : List ℕ). x ++ b ++ drop (at + length a + length b) (take at o ++ a ++ rest))
      (take_at (take at o ++ a) rest (at + length a) (put-seam l))
      ∙ ap (λ (x : List ℕ). take at o ++ a ++ b ++ x) (put-past l b)
      ∙ ap (λ (x : List ℕ). x ++ drop (at + length (a ++ b)) o) (append_assoc (take at o) a b)

-- other bytes after some
pub put_then : {o o₁ o₂ a b : List ℕ} {at m r : ℕ} → Put o at a o₁ m → Put o₁ m b o₂ r → Put o at (a ++ b) o₂ r
put_then {o} {o₁} {o₂} {a} {b} {at} p q =
    let room = p.fits in
    let same = put-length p in
    let both = length-append a b in
    record {
      fits = omega (arith, p.next, q.fits);
      is =
          q.is
          ∙ ap (λ (k : ℕ). take k o₁ ++ b ++ drop (k + length b) o₁) p.next
          ∙ put_next o a at (omega arith) b o₁ p.is;
      next = omega (arith, p.next, q.next);
    }

each_last : {A B : Type 0} (g : A → List B) (xs : List A) (x : A) → each g (xs ++ (x ∷ [])) ≡ each g xs ++ g x
each_last g [] x = append-nil (g x)
each_last {A} {B} g (y ∷ ys) x =
    ap (λ (l : List B). g y ++ l) (each_last g ys x) ∙ sym (append_assoc (g y) (each g ys) (g x))

-- a numbered row of things: what k of them from a place on give, and one more
pub each_more : {A : Type 0} (g : A → List ℕ) (f : ℕ → A) (a k : ℕ)
    → each g (map f (range a (k + 1))) ≡ each g (map f (range a k)) ++ g (f (a + k))
each_more g f a k =
    ap (λ (j : ℕ). each g (map f (range a j))) (add-one k)
    ∙ ap (each g) (map_last f a k)
    ∙ each_last g (map f (range a k)) (f (a + k))

-- one more of them is put after the first k
pub row_more : {A : Type 0} (g : A → List ℕ) (f : ℕ → A) {o o₁ o₂ : List ℕ} {at a r : ℕ} (k : ℕ)
    → Put o at (each g (map f (range 0 k))) o₁ a → Put o₁ a (g (f k)) o₂ r
    → Put o at (each g (map f (range 0 (k + 1)))) o₂ r
row_more g f k p q = rw (each_more g f 0 k, zero-add k) (put_then p q)

-- bytes put at the front of one list, and over the front of another
module _ {f f₁ bytes : List ℕ} {size : ℕ} (p : Put f 0 bytes f₁ size) where
  pub front_long : length (take size f₁) ≡ size
  front_long = length-take-le size f₁ (omega (arith, put-length p, p.fits, p.next))

  front-is : take size f₁ ≡ bytes
  front-is =
      ap (λ (l : List ℕ). take size l) p.is
      ∙ take_at bytes (drop (0 + length bytes) f) size (omega (arith, p.next))

  pub front-over : {o o₁ : List ℕ} {r : ℕ} → Put o 0 (take size f₁) o₁ r → o₁ ≡ over_front bytes o
  unfolding over_front
  front-over {o} {o₁} {r} q =
      (subst (λ (bs : List ℕ). Put o 0 bs o₁ r) front-is q).is
      ∙ ap (λ (k : ℕ). bytes ++ drop k o) (zero-add (length bytes))
