-- Laws of members of lists, and of lists in order.
use Prim.Native.Nat.{ℕ, zero, suc, ◌+◌, ◌≤◌, ◌<◌}
use native.Mathlib.Omega.{arith}
use native.Mathlib.Nat.{add-zero}
use mathlib.Core.Path.{◌≡◌, refl, sym, ap, ◌∙◌, subst}
use mathlib.Core.Bool.{Bool, true, false, cond}
use mathlib.Core.List.{List, [], ◌∷◌, ◌++◌, map, append_assoc}
use mathlib.Core.Logic.{◌⊎◌, inl, inr, ⊎_elim, by_cases}
use native.Mathlib.Decide.{ℕ_discrete}
use lib.Dec.{ltb}
use lib.ListN.{length, get_or}
use borrow.Author.Tests.{lt-ltb}
use Rattle.foil_spec.specs.Lists.{range, keep, cons_if, all, any, each}
use Rattle.list_laws.proofs.Tests.{both, clash, and_l, and_r, and_i, or_l, or_r, or_cases, or-il, or-ir}
pub use Rattle.list_laws.specs.Members.{In, Sorted}

module _ {A : Type 0} where
  pub in_place : (xs : List A) (i : ℕ) (d : A) → i < length xs → In (get_or xs i d) xs
  in_place [] i d l = absurd (omega arith)
  in_place (x ∷ xs) zero d l = inl refl
  in_place (x ∷ xs) (suc i) d l = inr (in_place xs i d (omega arith))

  pub in_left : (x : A) (xs ys : List A) → In x xs → In x (xs ++ ys)
  in_left x [] ys h = absurd h
  in_left x (z ∷ xs) ys (inl e) = inl e
  in_left x (z ∷ xs) ys (inr h) = inr (in_left x xs ys h)

  pub in_right : (x : A) (xs ys : List A) → In x ys → In x (xs ++ ys)
  in_right x [] ys h = h
  in_right x (z ∷ xs) ys h = inr (in_right x xs ys h)

  pub in-cases : (x : A) (xs ys : List A) → In x (xs ++ ys) → In x xs ⊎ In x ys
  in-cases x [] ys h = inr h
  in-cases x (z ∷ xs) ys (inl e) = inl (inl e)
  in-cases x (z ∷ xs) ys (inr h) = ⊎_elim (λ k. inl (inr k)) (λ k. inr k) (in-cases x xs ys h)

  in-cons_if : (b : Bool) (x y : A) (ys : List A) → In x ys → In x (cons_if b y ys)
  in-cons_if true x y ys h = inr h
  in-cons_if false x y ys h = h

  pub in-keep : (p : A → Bool) (x : A) (xs : List A) → In x xs → p x ≡ true → In x (keep p xs)
  in-keep p x [] h t = h
  in-keep p x (y ∷ ys) (inl e) t = rw (← e) (rw t (inl refl))
  in-keep p x (y ∷ ys) (inr h) t = in-cons_if (p y) x y (keep p ys) (in-keep p x ys h t)

  of-cons_if : (b : Bool) (x y : A) (ys : List A) → In x (cons_if b y ys) → ((x ≡ y) × (b ≡ true)) ⊎ In x ys
  of-cons_if true x y ys (inl e) = inl (e, refl)
  of-cons_if true x y ys (inr h) = inr h
  of-cons_if false x y ys h = inr h

  pub of-keep : (p : A → Bool) (x : A) (xs : List A) → In x (keep p xs) → In x xs × (p x ≡ true)
  of-keep p x [] h = absurd h
  of-keep p x (y ∷ ys) h =
      ⊎_elim
      (λ (k : (x ≡ y) × (p y ≡ true)). (inl k.0, ap p k.0 ∙ k.1))
      (λ (k : In x (keep p ys)). (inr (of-keep p x ys k).0, (of-keep p x ys k).1))
      (of-cons_if (p y) x y (keep p ys) h)

  pub of-all : (p : A → Bool) (x : A) (xs : List A) → all p xs ≡ true → In x xs → p x ≡ true
  of-all p x [] t h = absurd h
  of-all p x (y ∷ ys) t (inl e) = ap p e ∙ and_l (p y) (all p ys) t
  of-all p x (y ∷ ys) t (inr h) = of-all p x ys (and_r (p y) (all p ys) t) h

  pub to-all : (p : A → Bool) (xs : List A) → ((x : A) → In x xs → p x ≡ true) → all p xs ≡ true
  to-all p [] h = refl
  to-all p (y ∷ ys) h = and_i {a = p y} (h y (inl refl)) (to-all p ys (λ x k. h x (inr k)))

  pub in-any : (p : A → Bool) (x : A) (xs : List A) → In x xs → p x ≡ true → any p xs ≡ true
  in-any p x [] h t = absurd h
  in-any p x (y ∷ ys) (inl e) t = or-il (any p ys) (sym (ap p e) ∙ t)
  in-any p x (y ∷ ys) (inr h) t = or-ir (p y) (in-any p x ys h t)

  pub of-any : (p : A → Bool) (xs : List A) → any p xs ≡ true → (x : A) × In x xs × (p x ≡ true)
  of-any p [] t = clash t refl
  of-any p (y ∷ ys) t =
      ⊎_elim
      (λ (k : p y ≡ true). (y, inl refl, k))
      (λ (k : any p ys ≡ true). let r = of-any p ys k in (r.0, inr r.1, r.2))
      (or_cases (p y) (any p ys) t)

  pub not-any : (p : A → Bool) (x : A) (xs : List A) → any p xs ≡ false → In x xs → p x ≡ false
  not-any p x [] t h = absurd h
  not-any p x (y ∷ ys) t (inl e) = ap p e ∙ or_l (p y) (any p ys) t
  not-any p x (y ∷ ys) t (inr h) = not-any p x ys (or_r (p y) (any p ys) t) h

  pub none_of : (p : A → Bool) (xs : List A) → ((x : A) → In x xs → p x ≡ false) → any p xs ≡ false
  none_of p [] h = refl
  none_of p (x ∷ xs) h = rw (h x (inl refl)) (none_of p xs (λ y k. h y (inr k)))

  keep-fewer : (b : Bool) (x : A) (xs ys : List A) → length xs ≤ length ys → length (cons_if b x xs) ≤ suc (length ys)
  keep-fewer true x xs ys l = omega arith
  keep-fewer false x xs ys l = omega arith

  pub length-keep : (p : A → Bool) (xs : List A) → length (keep p xs) ≤ length xs
  length-keep p [] = omega arith
  length-keep p (x ∷ xs) = keep-fewer (p x) x (keep p xs) xs (length-keep p xs)

  pub sorted-append : (r : A → A → Bool) (xs ys : List A) → Sorted r xs → Sorted r ys
      → ((x y : A) → In x xs → In y ys → r x y ≡ true) → Sorted r (xs ++ ys)
  sorted-append r [] ys sx sy h = sy
  sorted-append r (x ∷ xs) ys sx sy h = (
    λ y k. ⊎_elim (λ (u : In y xs). sx.0 y u) (λ (u : In y ys). h x y (inl refl) u) (in-cases y xs ys k),
    sorted-append r xs ys sx.1 sy (λ a b u v. h a b (inr u) v),
  )

  sorted-cons_if : (r : A → A → Bool) (b : Bool) (x : A) (ys : List A) → ((y : A) → In y ys → r x y ≡ true)
      → Sorted r ys → Sorted r (cons_if b x ys)
  sorted-cons_if r true x ys h s = (h, s)
  sorted-cons_if r false x ys h s = s

  pub sorted-keep : (r : A → A → Bool) (p : A → Bool) (xs : List A) → Sorted r xs → Sorted r (keep p xs)
  sorted-keep r p [] s = s
  sorted-keep r p (x ∷ xs) s =
      sorted-cons_if r (p x) x (keep p xs) (λ y k. s.0 y (of-keep p y xs k).0) (sorted-keep r p xs s.1)

module _ {A B : Type 0} where
  pub in_map : (f : A → B) (x : A) (xs : List A) → In x xs → In (f x) (map f xs)
  in_map f x [] h = h
  in_map f x (y ∷ ys) (inl e) = inl (ap f e)
  in_map f x (y ∷ ys) (inr h) = inr (in_map f x ys h)

  pub of_map : (f : A → B) (z : B) (xs : List A) → In z (map f xs) → (x : A) × In x xs × (z ≡ f x)
  of_map f z [] h = absurd h
  of_map f z (y ∷ ys) (inl e) = (y, inl refl, e)
  of_map f z (y ∷ ys) (inr h) = let r = of_map f z ys h in (r.0, inr r.1, r.2)

  pub in-each : (f : A → List B) (z : B) (x : A) (xs : List A) → In x xs → In z (f x) → In z (each f xs)
  in-each f z x [] h k = absurd h
  in-each f z x (y ∷ ys) (inl e) k = in_left z (f y) (each f ys) (subst (λ (w : A). In z (f w)) e k)
  in-each f z x (y ∷ ys) (inr h) k = in_right z (f y) (each f ys) (in-each f z x ys h k)

  pub of-each : (f : A → List B) (z : B) (xs : List A) → In z (each f xs) → (x : A) × In x xs × In z (f x)
  of-each f z [] h = absurd h
  of-each f z (y ∷ ys) h =
      ⊎_elim
      (λ (k : In z (f y)). (y, inl refl, k))
      (λ (k : In z (each f ys)). let r = of-each f z ys k in (r.0, inr r.1, r.2))
      (in-cases z (f y) (each f ys) h)

  pub each_append : (f : A → List B) (xs ys : List A) → each f (xs ++ ys) ≡ each f xs ++ each f ys
  each_append f [] ys = refl
  each_append f (x ∷ xs) ys =
      ap (λ (l : List B). f x ++ l) (each_append f xs ys) ∙ sym (append_assoc (f x) (each f xs) (each f ys))

  -- what the elements that pass a test give, by each element
  pub each_keep : (p : A → Bool) (f : A → List B) (xs : List A)
      → each f (keep p xs) ≡ each (λ (x : A). cond (p x) (f x) []) xs
  each_keep p f [] = refl
  each_keep p f (x ∷ xs) = go (p x) (each_keep p f xs)
    where
      go : (b : Bool) → each f (keep p xs) ≡ each (λ (y : A). cond (p y) (f y) []) xs
          → each f (cons_if b x (keep p xs)) ≡ cond b (f x) [] ++ each (λ (y : A). cond (p y) (f y) []) xs
      go true e = ap (λ (l : List B). f x ++ l) e
      go false e = e

  -- lists in order one after the other are in order, where what earlier elements give comes before the rest
  pub sorted-each : (q : A → A → Bool) (r : B → B → Bool) (f : A → List B) (xs : List A) → Sorted q xs
      → ((x : A) → In x xs → Sorted r (f x))
      → ((x y : A) (u v : B) → q x y ≡ true → In u (f x) → In v (f y) → r u v ≡ true)
      → Sorted r (each f xs)
  sorted-each q r f [] s h k = tt
  sorted-each q r f (x ∷ xs) s h k =
      sorted-append r (f x) (each f xs) (h x (inl refl)) (sorted-each q r f xs s.1 (λ y u. h y (inr u)) k)
      (λ u v hu hv. let w = of-each f v xs hv in k x w.0 u v (s.0 w.0 w.1) hu w.2)

  pub sorted-map : (q : A → A → Bool) (r : B → B → Bool) (f : A → B) (xs : List A) → Sorted q xs
      → ((x y : A) → q x y ≡ true → r (f x) (f y) ≡ true) → Sorted r (map f xs)
  sorted-map q r f [] s k = tt
  sorted-map q r f (x ∷ xs) s k =
      (λ v hv. let w = of_map f v xs hv in rw w.2 (k x w.0 (s.0 w.0 w.1)), sorted-map q r f xs s.1 k)

-- the places from a + 1 on, counted from a on
pub map-later : {A : Type 0} (g : ℕ → A) (a n : ℕ) → map g (range (suc a) n) ≡ map (λ (k : ℕ). g (suc k)) (range a n)
map-later g a zero = refl
map-later {A} g a (suc n) = ap (λ (xs : List A). g (suc a) ∷ xs) (map-later g (suc a) n)

pub length-range : (a n : ℕ) → length (range a n) ≡ n
length-range a zero = refl
length-range a (suc n) = ap suc (length-range (suc a) n)

pub in-range : (k a n : ℕ) → a ≤ k → k < a + n → In k (range a n)
in-range k a zero h l = absurd (let z : k < a = omega arith in omega arith)
in-range k a (suc n) h l =
    by_cases (ℕ_discrete k a) (λ e. inl e) (λ ne. inr (in-range k (suc a) n (omega arith) (omega arith)))

pub of_range : (k a n : ℕ) → In k (range a n) → (a ≤ k) × (k < a + n)
of_range k a zero h = absurd h
of_range k a (suc n) (inl e) = omega arith
of_range k a (suc n) (inr h) = let r = of_range k (suc a) n h in omega arith

pub sorted-range : (a n : ℕ) → Sorted ltb (range a n)
sorted-range a zero = tt
sorted-range a (suc n) = (λ k h. lt-ltb a k (of_range k (suc a) n h).0, sorted-range (suc a) n)

-- of a list in order, what an earlier place gives comes before what a later one gives
pub sorted-places : {A : Type 0} (r : A → A → Bool) (g : ℕ → A) (a n : ℕ) → Sorted r (map g (range a n)) → (j k : ℕ)
    → a ≤ j → j < k → k < a + n → r (g j) (g k) ≡ true
sorted-places r g a zero s j k h l m = absurd (let z : k < a = omega arith in omega arith)
sorted-places r g a (suc n) s j k h l m =
    by_cases (ℕ_discrete j a)
    (λ e.
    rw e (s.0 (g k) (in_map g k (range (suc a) n) (in-range k (suc a) n (omega arith) (omega arith)))))
    (λ ne. sorted-places r g (suc a) n s.1 j k (omega arith) l (omega arith))

-- a test of all that the places below n give
module _ {A : Type 0} (p : A → Bool) (g : ℕ → A) (n : ℕ) where
  pub all-places : ((k : ℕ) → k < n → p (g k) ≡ true) → all p (map g (range 0 n)) ≡ true
  all-places h =
      to-all p (map g (range 0 n))
      (λ x i.
      let k = of_map g x (range 0 n) i in
      let l = of_range k.0 0 n k.1 in
      ap p k.2 ∙ h k.0 (omega arith))

  pub at_place : all p (map g (range 0 n)) ≡ true → (k : ℕ) → k < n → p (g k) ≡ true
  at_place h k l =
      of-all p (g k) (map g (range 0 n)) h (in_map g k (range 0 n) (in-range k 0 n (omega arith) (omega arith)))

  pub not-all : (k : ℕ) → k < n → p (g k) ≡ false → all p (map g (range 0 n)) ≡ false
  not-all k l e = both (all p (map g (range 0 n))) (λ h. clash (at_place h k l) e) (λ h. h)

  pub any_place : (k : ℕ) → k < n → p (g k) ≡ true → any p (map g (range 0 n)) ≡ true
  any_place k l e =
      in-any p (g k) (map g (range 0 n)) (in_map g k (range 0 n) (in-range k 0 n (omega arith) (omega arith))) e

  pub no_place : ((k : ℕ) → k < n → p (g k) ≡ false) → any p (map g (range 0 n)) ≡ false
  no_place h =
      none_of p (map g (range 0 n))
      (λ x i.
      let k = of_map g x (range 0 n) i in
      let l = of_range k.0 0 n k.1 in
      ap p k.2 ∙ h k.0 (omega arith))

-- ---- one place more

module _ {A : Type 0} where
  pub keep_append : (p : A → Bool) (xs ys : List A) → keep p (xs ++ ys) ≡ keep p xs ++ keep p ys
  keep_append p [] ys = refl
  keep_append p (x ∷ xs) ys = go (p x) (keep_append p xs ys)
    where
      go : (b : Bool) → keep p (xs ++ ys) ≡ keep p xs ++ keep p ys
          → cons_if b x (keep p (xs ++ ys)) ≡ cons_if b x (keep p xs) ++ keep p ys
      go true e = ap (λ (l : List A). x ∷ l) e
      go false e = e

  -- the places below n + 1 are those below n, then n
  pub map_last : (g : ℕ → A) (a n : ℕ) → map g (range a (suc n)) ≡ map g (range a n) ++ (g (a + n) ∷ [])
  map_last g a zero = ap (λ (k : ℕ). g k ∷ []) (sym (add-zero a))
  map_last g a (suc n) =
      ap (λ (l : List A). g a ∷ l)
      (map_last g (suc a) n
      ∙ ap (λ (k : ℕ). map g (range (suc a) n) ++ (g k ∷ [])) (let e : suc a + n ≡ a + suc n = omega arith in e))
