-- Between two neighbouring marked columns nothing changes, so that a corner there can be moved to one of the two: it is
-- then on a shorter path, or on one as short and earlier in the order.
use Prim.Native.Nat.{ℕ, zero, suc, ◌+◌, ◌-◌, ◌≤◌, ◌<◌}
use native.Mathlib.Nat.{add-zero}
use native.Mathlib.Omega.{arith}
use native.Mathlib.Decide.{dec_le, dec_lt}
use mathlib.Core.Path.{◌≡◌, refl, subst}
use mathlib.Core.Bool.{Bool, true, false}
use mathlib.Core.Logic.{◌⊎◌, inl, inr, by_cases}
use Rattle.list_laws.proofs.Tests.{both, clash}
use Rattle.foil_spec.specs.Paths.{gap}
use Rattle.course_laws.specs.Course.{flip, Span, Within, Marks, Steady}
use Rattle.course_laws.proofs.Course.{span-refl, span-sym, span-trans, span-start, span-end, span-part}

-- between the columns g and e nothing changes: what is free or a target there is so up to both
pub record Between (f : ℕ → ℕ → Bool) (T : ℕ → ℕ → Type 0) (g e : ℕ) : Type 0 where
  pub free : (x y z : ℕ) → g < x → x < e → f x y ≡ true → g ≤ z → z ≤ e → f z y ≡ true
  pub target : (x y z : ℕ) → g < x → x < e → T x y → g ≤ z → z ≤ e → T z y

-- what a path from column x, between g and e, tells of g and e, where P z l says that one of at most l steps starts at
-- column z: it is shorter from g, or from e, or as short from both
abbrev Slid : (ℕ → ℕ → Type 0) → ℕ → ℕ → ℕ → ℕ → Type 0
Slid P g e x len =
    ((l : ℕ) × (l + (x - g) ≤ len) × P g l) ⊎ (((l : ℕ) × (l + (e - x) ≤ len) × P e l) ⊎ (P g len × P e len))

-- for the next corner c from (x, y), with n more segments of r steps, there is one at a column k that Q holds of: it is
-- on a path no longer, and no later, or on a shorter one
abbrev pub Near : (ℕ → ℕ → Bool) → (ℕ → ℕ → Type 0) → (n r x y c : ℕ) → (ℕ → Type 0) → Type 0
Near f T n r x y c Q =
    (k : ℕ) × (l : ℕ) × Q k × Span f y x k × Within n l (flip f) (flip T) y k
    × (((gap x k + l ≤ gap x c + r) × (k ≤ c)) ⊎ (gap x k + l < gap x c + r))

module _ (f : ℕ → ℕ → Bool) (T : ℕ → ℕ → Type 0) (g e : ℕ) (B : Between f T g e) where
  -- on a row, from a free point between the columns to any column up to them
  over : (y x z : ℕ) → g < x → x < e → f x y ≡ true → g ≤ z → z ≤ e → Span f y x z
  unfolding Span
  over y x z p q h lo hi u v w = B.free x y u p q h (omega arith) (omega arith)

  -- the same upright segment on another column
  shift : (x z a b : ℕ) → g < x → x < e → g ≤ z → z ≤ e → Span (flip f) x a b → Span (flip f) z a b
  unfolding Span
  shift x z a b p q lo hi h u v w = B.free x u z p q (h u v w) lo hi

  level-case : (n len x y : ℕ) → g < x → x < e → (c r : ℕ) → gap x c + r ≤ len → Span f y x c
      → Within n r (flip f) (flip T) y c → Dec (c ≤ g) → Dec (e ≤ c)
      → (g < c → c < e → Slid (λ z l. Within n l (flip f) (flip T) y z) g e c r)
      → Slid (λ z l. Within (suc n) l f T z y) g e x len
  level-case n len x y p q c r le sp w (yes a) (yes b) ih = absurd (omega arith)
  level-case n len x y p q c r le sp w (yes a) (no b) ih =
      inl (gap g c + r, omega arith, (c, r, omega arith, span-part f y x c g c (omega arith) (omega arith) sp, w))
  level-case n len x y p q c r le sp w (no a) (yes b) ih =
      inr
      (inl (gap e c + r, omega arith, (c, r, omega arith, span-part f y x c e c (omega arith) (omega arith) sp, w)))
  level-case n len x y p q c r le sp w (no a) (no b) ih = pick (ih (omega arith) (omega arith))
    where
      at : (z : ℕ) → g ≤ z → z ≤ e → Span f y z z
      at z lo hi = span-refl f y z (B.free c y z (omega arith) (omega arith) (span-end f y x c sp) lo hi)

      to-g : Span f y g g
      to-g = at g (omega arith) (omega arith)

      to-e : Span f y e e
      to-e = at e (omega arith) (omega arith)

      pick : Slid (λ z l. Within n l (flip f) (flip T) y z) g e c r → Slid (λ z l. Within (suc n) l f T z y) g e x len
      pick (inl s) = inl (s.0, (let h = s.1 in omega arith), (g, s.0, omega arith, to-g, s.2))
      pick (inr (inl s)) = inr (inl (s.0, (let h = s.1 in omega arith), (e, s.0, omega arith, to-e, s.2)))
      pick (inr (inr s)) = inr (inr ((g, r, omega arith, to-g, s.0), (e, r, omega arith, to-e, s.1)))

  upright-case : (n len x y : ℕ) → g < x → x < e → (c r : ℕ) → gap y c + r ≤ len → Span (flip f) x y c
      → Slid (λ z l. Within n l f T z c) g e x r → Slid (λ z l. Within (suc n) l (flip f) (flip T) y z) g e x len
  upright-case n len x y p q c r le sp s = pick s
    where
      to-g : Span (flip f) g y c
      to-g = shift x g y c p q (omega arith) (omega arith) sp

      to-e : Span (flip f) e y c
      to-e = shift x e y c p q (omega arith) (omega arith) sp

      pick : Slid (λ z l. Within n l f T z c) g e x r → Slid (λ z l. Within (suc n) l (flip f) (flip T) y z) g e x len
      pick (inl s) = inl (gap y c + s.0, (let h = s.1 in omega arith), (c, s.0, omega arith, to-g, s.2))
      pick (inr (inl s)) = inr (inl (gap y c + s.0, (let h = s.1 in omega arith), (c, s.0, omega arith, to-e, s.2)))
      pick (inr (inr s)) = inr (inr ((c, r, le, to-g, s.0), (c, r, le, to-e, s.1)))

  ends : {P : ℕ → Type 0} → ((z : ℕ) → g ≤ z → z ≤ e → P z) → g < e → P g × P e
  ends h l = (h g (omega arith) (omega arith), h e (omega arith) (omega arith))

  mutual
    slide-level : (n len x y : ℕ) → g < x → x < e → Within n len f T x y → Slid (λ z l. Within n l f T z y) g e x len
    slide-level zero len x y p q w = inr (inr (ends {P = λ z. T z y} (λ z. B.target x y z p q w) (omega arith)))
    slide-level (suc n) len x y p q w =
        level-case n len x y p q w.0 w.1 w.2 w.3 w.4 (dec_le w.0 g) (dec_le e w.0)
        (λ a b. slide-upright n w.1 w.0 y a b w.4)

    slide-upright : (n len x y : ℕ) → g < x → x < e → Within n len (flip f) (flip T) y x
        → Slid (λ z l. Within n l (flip f) (flip T) y z) g e x len
    slide-upright zero len x y p q w = inr (inr (ends {P = λ z. T z y} (λ z. B.target x y z p q w) (omega arith)))
    slide-upright (suc n) len x y p q w =
        upright-case n len x y p q w.0 w.1 w.2 w.3 (slide-level n w.1 x w.0 p q w.4)

  -- a path that starts between the columns starts at g too, for the steps from there
  lip-level : (n len x y : ℕ) → g < x → x < e → Within n len f T x y → Within n (len + (x - g)) f T g y
  lip-level zero len x y p q w = B.target x y g p q w (omega arith) (omega arith)
  lip-level (suc n) len x y p q w =
      let free = span-start f y x w.0 w.3 in
      let back = span-sym f y x g (over y x g p q free (omega arith) (omega arith)) in
      (w.0, w.1, (let h = w.2 in omega arith), span-trans f y g x w.0 back w.3, w.4)

  lip-upright : (n len x y : ℕ) → g < x → x < e → Within n len (flip f) (flip T) y x
      → Within n (len + (x - g)) (flip f) (flip T) y g
  lip-upright zero len x y p q w = B.target x y g p q w (omega arith) (omega arith)
  lip-upright (suc n) len x y p q w = (
    w.0,
    w.1 + (x - g),
    let h = w.2 in omega arith,
    shift x g y w.0 p q (omega arith) (omega arith) w.3,
    lip-level n w.1 x w.0 p q w.4,
  )

  -- from a column that is not between g and e, the first corner need not be between them
  near-between : (n r x y c : ℕ) → (x ≤ g) ⊎ (e ≤ x) → g < c → c < e → Span f y x c
      → Within n r (flip f) (flip T) y c
      → Near f T n r x y c (λ k. (k ≡ g) ⊎ (k ≡ e))
  near-between n r x y c (inl s) p q sp w = (
    g,
    r + (c - g),
    inl refl,
    span-part f y x c x g (omega arith) (omega arith) sp,
    lip-upright n r c y p q w,
    inl (omega arith, omega arith),
  )
  near-between n r x y c (inr s) p q sp w = pick (slide-upright n r c y p q w)
    where
      to-e : Span f y x e
      to-e = span-part f y x c x e (omega arith) (omega arith) sp

      to-g : Span f y x g
      to-g = span-trans f y x c g sp (over y c g p q (span-end f y x c sp) (omega arith) (omega arith))

      pick : Slid (λ z l. Within n l (flip f) (flip T) y z) g e c r
          → Near f T n r x y c (λ k. (k ≡ g) ⊎ (k ≡ e))
      pick (inl u) = (g, u.0, inl refl, to-g, u.2, inl ((let h = u.1 in omega arith), omega arith))
      pick (inr (inl u)) = (e, u.0, inr refl, to-e, u.2, inr (let h = u.1 in omega arith))
      pick (inr (inr u)) = (e, r, inr refl, to-e, u.1, inr (omega arith))

-- The marked columns next to a column that is not marked.
module _ (m : ℕ → Bool) where
  -- the last marked number up to x
  last-mark : (x : ℕ) → m 0 ≡ true
      → (g : ℕ) × (g ≤ x) × (m g ≡ true) × ((z : ℕ) → g < z → z ≤ x → m z ≡ false)
  last-mark zero h = (0, omega arith, h, λ z p q. absurd (omega arith))
  last-mark (suc x) h = pick (last-mark x h) (m (suc x)) refl
    where
      pick : ((g : ℕ) × (g ≤ x) × (m g ≡ true) × ((z : ℕ) → g < z → z ≤ x → m z ≡ false))
          → (b : Bool) → m (suc x) ≡ b
          → (g : ℕ) × (g ≤ suc x) × (m g ≡ true) × ((z : ℕ) → g < z → z ≤ suc x → m z ≡ false)
      pick r true e = (suc x, omega arith, e, λ z p q. absurd (omega arith))
      pick r false e = (
        r.0,
        (let h = r.1 in omega arith),
        r.2,
        λ z p q.
            by_cases (dec_le z x) (λ l. r.3 z p l)
            (λ l. subst (λ (k : ℕ). m k ≡ false) (let i : suc x ≡ z = omega arith in i) e),
      )

  -- the first marked number from x on, with the number x + d marked
  next-mark : (d x : ℕ) → m (x + d) ≡ true
      → (e : ℕ) × (x ≤ e) × (e ≤ x + d) × (m e ≡ true) × ((z : ℕ) → x ≤ z → z < e → m z ≡ false)
  next-mark zero x h = (x, omega arith, omega arith, rw add-zero at h, λ z p q. absurd (omega arith))
  next-mark (suc d) x h =
      let i : x + suc d ≡ suc x + d = omega arith in
      pick (next-mark d (suc x) (subst (λ (k : ℕ). m k ≡ true) i h)) (m x) refl
    where
      pick : ((e : ℕ) × (suc x ≤ e) × (e ≤ suc x + d) × (m e ≡ true) × ((z : ℕ) → suc x ≤ z → z < e → m z ≡ false))
          → (b : Bool) → m x ≡ b
          → (e : ℕ) × (x ≤ e) × (e ≤ x + suc d) × (m e ≡ true) × ((z : ℕ) → x ≤ z → z < e → m z ≡ false)
      pick r true e = (x, omega arith, omega arith, e, λ z p q. absurd (omega arith))
      pick r false e = (
        r.0,
        (let h = r.1 in omega arith),
        (let h = r.2 in omega arith),
        r.3,
        λ z p q.
            by_cases (dec_lt x z) (λ l. r.4 z (omega arith) q)
            (λ l. subst (λ (k : ℕ). m k ≡ false) (let i : x ≡ z = omega arith in i) e),
      )

-- what goes on from a column without a mark to the columns next to it goes on over all such columns
module _ (m : ℕ → Bool) (P : ℕ → Type 0) (down : (x : ℕ) → m (suc x) ≡ false → P (suc x) → P x)
    (up : (x : ℕ) → m x ≡ false → P x → P (suc x)) where
  go-down : (d x : ℕ) → ((z : ℕ) → x < z → z ≤ x + d → m z ≡ false) → P (x + d) → P x
  go-down zero x h k = rw add-zero at k
  go-down (suc d) x h k =
      let e : x + suc d ≡ suc (x + d) = omega arith in
      go-down d x (λ z p q. h z p (omega arith))
      (down (x + d) (h (suc (x + d)) (omega arith) (omega arith)) (rw e at k))

  go-up : (d x : ℕ) → ((z : ℕ) → x ≤ z → z < x + d → m z ≡ false) → P x → P (x + d)
  go-up zero x h k = rw add-zero k
  go-up (suc d) x h k =
      let e : x + suc d ≡ suc (x + d) = omega arith in
      rw e (up (x + d) (h (x + d) (omega arith) (omega arith)) (go-up d x (λ z p q. h z p (omega arith)) k))

  over-gap : (g e : ℕ) → ((z : ℕ) → g < z → z < e → m z ≡ false) → (x z : ℕ) → g < x → x < e → P x → g ≤ z → z ≤ e
      → P z
  over-gap g e h x z p q k lo hi =
      by_cases (dec_le z x)
      (λ l.
      let i : x ≡ z + (x - z) = omega arith in
      go-down (x - z) z (λ a b c. h a (omega arith) (omega arith)) (subst P i k))
      (λ l.
      let i : x + (z - x) ≡ z = omega arith in
      subst P i (go-up (z - x) x (λ a b c. h a (omega arith) (omega arith)) k))

module _ (f : ℕ → ℕ → Bool) (m : ℕ → Bool) (size : ℕ) (M : Marks f m size) where
  module _ (T : ℕ → ℕ → Type 0) (steady : Steady T m) where
    between : (g e : ℕ) → ((z : ℕ) → g < z → z < e → m z ≡ false) → Between f T g e
    between g e h = record {
      free = λ x y z.
          over-gap m (λ c. f c y ≡ true) (λ c. M.down c y) (λ c. M.up c y) g e h x z;
      target = λ x y z. over-gap m (λ c. T c y) (λ c. steady.down c y) (λ c. steady.up c y) g e h x z;
    }

    -- a column that is not marked, between the marked ones next to it
    near-gap : (n r x y c g e : ℕ) → m x ≡ true → Span f y x c → Within n r (flip f) (flip T) y c
        → g < c → c < e → m g ≡ true → m e ≡ true → ((z : ℕ) → g < z → z < e → m z ≡ false)
        → Near f T n r x y c (λ k. m k ≡ true)
    near-gap n r x y c g e mx sp w p q mg me h =
        let N = near-between f T g e (between g e h) n r x y c (side (dec_le x g) (dec_le e x)) p q sp w in
        (N.0, N.1, on N.0 N.2, N.3, N.4, N.5)
      where
        side : Dec (x ≤ g) → Dec (e ≤ x) → (x ≤ g) ⊎ (e ≤ x)
        side (yes a) b = inl a
        side (no a) (yes b) = inr b
        side (no a) (no b) = clash mx (h x (omega arith) (omega arith))

        on : (k : ℕ) → (k ≡ g) ⊎ (k ≡ e) → m k ≡ true
        on k (inl i) = rw i mg
        on k (inr i) = rw i me

    -- from a marked column, a next corner anywhere has one on a marked column
    pub near : (n r x y c : ℕ) → m x ≡ true → Span f y x c → Within n r (flip f) (flip T) y c
        → Near f T n r x y c (λ k. m k ≡ true)
    near n r x y c mx sp w =
        both (m c) (λ mc. (c, r, mc, sp, w, inl (omega arith, omega arith))) moved
      where
        apart : (k : ℕ) → m c ≡ false → m k ≡ true → k ≡ c → ⊥
        apart k mc mk i = clash (rw i at mk) mc

        inner : (g e : ℕ) → ((z : ℕ) → g < z → z ≤ c → m z ≡ false) → ((z : ℕ) → c ≤ z → z < e → m z ≡ false)
            → (z : ℕ) → g < z → z < e → m z ≡ false
        inner g e a b z p q = by_cases (dec_le z c) (λ l. a z p l) (λ l. b z (omega arith) q)

        moved : m c ≡ false → Near f T n r x y c (λ k. m k ≡ true)
        moved mc =
            let b = M.below c y (span-end f y x c sp) in
            let i : size - 1 ≡ c + (size - 1 - c) = omega arith in
            let lo = last-mark m c M.first in
            let hi = next-mark m (size - 1 - c) c (subst (λ (a : ℕ). m a ≡ true) i M.last) in
            let p = apart lo.0 mc lo.2 in
            let q = apart hi.0 mc hi.3 in
            let u = lo.1 in
            let v = hi.1 in
            near-gap n r x y c lo.0 hi.0 mx sp w (omega arith) (omega arith) lo.2 hi.3
            (inner lo.0 hi.0 lo.3 hi.4)
