-- Links are cut box by box: the rectangle between the lines that bound a box holds just the links that meet it.
use Prim.Native.Nat.{ℕ, suc, ◌+◌, ◌-◌, ◌*◌, ◌≤◌, ◌<◌, max}
use native.Mathlib.Omega.{arith}
use native.Mathlib.Decide.{dec_le, dec_lt}
use mathlib.Core.Path.{◌≡◌, refl, sym, ◌∙◌}
use mathlib.Core.Bool.{Bool, true, false, not}
use mathlib.Core.List.{List}
use lib.ListN.{get_or, length, take}
use borrow.Author.Count.{below_more}
use borrow.Author.Tests.{lt-ltb, ltb-true, ltb-false}
use Rattle.std.proofs.Common.{nat_lt}
use Rattle.std.proofs.lemmas.List.{get_or-take, get_or_default, length-take-le}
use Rattle.std.specs.List.Sorted.{IsPartitionedBy, IsPartitionPoint}
use Rattle.foil_spec.specs.Lent.{entry_at}
use Rattle.list_laws.proofs.Tests.{clash, and_i}
use Rattle.zones.proofs.Free.{inside-yes}
use Rattle.grid.specs.Size.{stride}
use Rattle.grid.specs.Extent.{extent, Solid}
use Rattle.grid.specs.Lines.{Rising, Lines}
use Rattle.grid.specs.Links.{Block, FirstFrom, Paint, hit, missed, Missed, BoxPainted, Painted}
use Rattle.grid.proofs.Covers.{turned-covers, misses-ahead, misses-past, misses-above, misses-under}

-- A rectangle of links.
pub block-done : {a b c lo hi : ℕ} {e₀ e : List ℕ} → b ≡ c → Block a b lo hi e₀ e → Block a c lo hi e₀ e
block-done e h = rw (← e) h

-- The first line at a number or after it: the lines rise, so those below the number come first.
module _ {lines : List ℕ} {n : ℕ} (v : ℕ) (L : Lines lines n) where
  pub lines-part : IsPartitionedBy (λ (x : ℕ). nat_lt x v) (take n lines)
  lines-part i j d le lt h = lt-ltb (get_or (take n lines) i d) v (up (dec_lt i j))
    where
      last : get_or (take n lines) j d < v
      last = ltb-true (get_or (take n lines) j d) v h

      fits : j < n
      fits = omega (arith, length-take-le n lines L.fit)

      is : (k : ℕ) → k < n → get_or (take n lines) k d ≡ get_or lines k 0
      is k l = let f = L.fit in get_or-take n lines k d l ∙ get_or_default lines k d 0 (omega arith)

      up : Dec (i < j) → get_or (take n lines) i d < v
      up (yes p) = omega (arith, L.rising.up i j p fits, is i (omega (arith, fits)), is j fits, last)
      up (no p) = let e : i ≡ j = omega arith in rw e last

  pub first-split : {r : ℕ} → r ≤ length (take n lines) →
      IsPartitionPoint (λ (x : ℕ). nat_lt x v ≡ true) (λ (x : ℕ). nat_lt x v ≡ false) (take n lines) r →
      FirstFrom lines n v r
  first-split {r} b P = record {
    le = omega (arith, length-take-le n lines L.fit);
    low = λ k l. let f = length-take-le n lines L.fit in
        omega (arith, ltb-true (get_or (take n lines) k 0) v (P.0 k 0 (omega arith) l), get_or-take n lines k 0 (omega arith));
    high = λ k l m. let f = length-take-le n lines L.fit in
        omega (arith, ltb-false (get_or (take n lines) k 0) v (P.1 k 0 l (omega arith)), get_or-take n lines k 0 m);
  }

-- One box.
module _ (z : List ℕ) {upright : Bool} {lines : List ℕ} {m : ℕ} {cross : List ℕ} {n : ℕ} (k : ℕ)
    {e₀ e : List ℕ} {a b lo hi u v x y s : ℕ} (A : FirstFrom lines m u a) (Z : FirstFrom lines m v b)
    (L : FirstFrom cross n x lo) (H : FirstFrom cross n y hi) (K : Block a (max a b) s hi e₀ e)
    (few : n ≤ stride) (R : Rising cross n) (B : Solid (entry_at z k))
    (eu : u ≡ (extent (not upright) (entry_at z k)).from) (ev : v ≡ (extent (not upright) (entry_at z k)).to)
    (ex : x ≡ (extent upright (entry_at z k)).from) (ey : y ≡ (extent upright (entry_at z k)).to)
    (es : s ≡ lo - 1) where
  -- within the rectangle: the first number of the link that the box has is on it
  within : (j : ℕ) → j < m → (i : ℕ) → suc i < n → a ≤ j → j < b → lo ≤ suc i → i < hi →
      Missed z upright lines cross k j i → ⊥
  within j lj i li p q r w M =
      let c = B upright in
      let a1 = A.high j p lj in
      let b1 = Z.low j q in
      let c1 = L.high (suc i) r li in
      let d1 = H.low i w in
      let o = R.up i (suc i) (omega arith) li in
      clash
      (turned-covers upright (entry_at z k) (max (get_or cross i 0) x) (get_or lines j 0)
      ∙ and_i (inside-yes _ _ _ (omega arith) (omega arith)) (inside-yes _ _ _ (omega arith) (omega arith)))
      (M.point (max (get_or cross i 0) x) (omega arith) (omega arith))

  pub box-painted : BoxPainted z upright lines m cross n k e₀ e
  box-painted = record {
    size = K.size;
    link = λ j lj i li. pick j lj i li (dec_le a j) (dec_lt j b) (dec_le lo (suc i)) (dec_lt i hi);
  }
    where
      stays : (j i : ℕ) → suc i < n → (j < max a b → a ≤ j → s ≤ i → i < hi → ⊥) →
          Missed z upright lines cross k j i →
          Paint (Missed z upright lines cross k j i) (get_or e₀ (j * stride + i) 0) (get_or e (j * stride + i) 0)
      stays j i li out M = rw (K.kept j i (omega arith) out) (missed M)

      pick : (j : ℕ) → j < m → (i : ℕ) → suc i < n → Dec (a ≤ j) → Dec (j < b) → Dec (lo ≤ suc i) → Dec (i < hi) →
          Paint (Missed z upright lines cross k j i) (get_or e₀ (j * stride + i) 0) (get_or e (j * stride + i) 0)
      pick j lj i li (yes p) (yes q) (yes r) (yes w) =
          rw (K.cut j (omega arith) p i (omega arith) w) (hit (within j lj i li p q r w))
      pick j lj i li (no p) q r w =
          let l = A.low j (omega arith) in
          stays j i li (λ f g h o. omega arith) (record { point = λ c f g. misses-above upright _ c _ (omega arith) })
      pick j lj i li (yes p) (no q) r w =
          let l = Z.high j (omega arith) lj in
          stays j i li (λ f g h o. omega arith) (record { point = λ c f g. misses-under upright _ c _ (omega arith) })
      pick j lj i li (yes p) (yes q) (no r) w =
          let l = L.low (suc i) (omega arith) in
          stays j i li (λ f g h o. omega arith) (record { point = λ c f g. misses-ahead upright _ c _ (omega arith) })
      pick j lj i li (yes p) (yes q) (yes r) (no w) =
          let l = H.high i (omega arith) (omega arith) in
          stays j i li (λ f g h o. omega arith) (record { point = λ c f g. misses-past upright _ c _ (omega arith) })

-- All boxes.
module _ {z : List ℕ} {upright : Bool} {lines : List ℕ} {m : ℕ} {cross : List ℕ} {n : ℕ} where
  pub painted-more : {k : ℕ} {e e' : List ℕ} → Painted z upright lines m cross n k e →
      BoxPainted z upright lines m cross n k e e' → Painted z upright lines m cross n (k + 1) e'
  painted-more {k} {e} {e'} P E = record {
    free = λ j lj i li h. still j lj i li _ _ (E.link j lj i li) refl h;
    one = λ j lj i li h. opens j lj i li _ _ (E.link j lj i li) refl h;
  }
    where
      still : (j : ℕ) → j < m → (i : ℕ) → suc i < n → (u v : ℕ) → Paint (Missed z upright lines cross k j i) u v →
          u ≡ get_or e (j * stride + i) 0 → v ≡ 1 → (b : ℕ) → b < k + 1 → Missed z upright lines cross b j i
      still j lj i li u v (hit x) q w = absurd (omega arith)
      still j lj i li u v (missed M) q w =
          below_more (λ b. Missed z upright lines cross b j i) k (P.free j lj i li (sym q ∙ w)) M

      opens : (j : ℕ) → j < m → (i : ℕ) → suc i < n → (u v : ℕ) → Paint (Missed z upright lines cross k j i) u v →
          u ≡ get_or e (j * stride + i) 0 → ((b : ℕ) → b < k + 1 → Missed z upright lines cross b j i) → v ≡ 1
      opens j lj i li u v (hit x) q h = absurd (x (h k (omega arith)))
      opens j lj i li u v (missed M) q h = q ∙ P.one j lj i li (λ b l. h b (omega arith))
