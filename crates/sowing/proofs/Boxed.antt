-- Whether boxes have a point, box by box.
use Prim.Native.Nat.{ℕ, zero, suc, ◌+◌, ◌≤◌, ◌<◌}
use Rattle.std.specs.List.{range_with_len, list_any}
use native.Mathlib.Nat.{zero-add}
use native.Mathlib.Omega.{arith}
use native.Mathlib.Numerals.{add-one}
use native.Mathlib.Decide.{dec_le, dec_lt}
use mathlib.Core.Path.{◌≡◌, refl, sym, ap, ap₂, ◌∙◌}
use mathlib.Core.Bool.{Bool, true, false, not, ◌&&◌, ◌||◌, or-false, and_comm}
use mathlib.Core.List.{List, [], ◌∷◌, map}
use lib.ListN.{get_or}
use Rattle.foil_spec.specs.Lists.{range, any}
use Rattle.foil_spec.specs.Foil.{Entry}
use Rattle.foil_spec.specs.Lent.{entry_at}
use Rattle.list_laws.proofs.Tests.{any_append, same_test}
use Rattle.list_laws.proofs.Members.{map_last}
use Rattle.zones.specs.Boxes.{inside, covers}
use Rattle.zones.proofs.Free.{inside-yes, of-inside}
use Rattle.grid.specs.Extent.{turned, extent, Solid}
use Rattle.grid.specs.Links.{FirstFrom}
use Rattle.grid.specs.declared.Extent.{Extent}
use Rattle.grid.proofs.Covers.{covers_on, turned-covers}
use Rattle.sowing.specs.Seeds.{boxed, clear_at, Sown, Sows, in_block, BlockSown, aimed_at, aimed_one}
use Rattle.sowing.proofs.Seeds.{sown-same, sows-same}

-- the tests of a row one after the other
module _ {A : Type 0} (p : A → Bool) (f : ℕ → A) where
  pub any-row : (a n : ℕ) → list_any (λ i. p (f i)) (range_with_len a n) ≡ any p (map f (range a n))
  any-row a zero = refl
  any-row a (suc n) = rw add-one (ap (λ (b : Bool). p (f a) || b) (any-row (suc a) n))

-- whether a box has a point, by what it covers on both axes
module _ (upright : Bool) (e : Entry) (x y : ℕ) {r : Extent} (is : r ≡ extent upright e) where
  pub in-box : {s : Extent} → s ≡ extent (not upright) e → inside r.from r.to x ≡ true
      → inside s.from s.to y ≡ turned upright (covers e) x y
  in-box {s} j h =
      ap (λ (b : Bool). b && inside s.from s.to y) (sym h)
      ∙ ap₂ (λ (a b : Extent). inside a.from a.to x && inside b.from b.to y) is j
      ∙ sym (turned-covers upright e x y)

  pub off-box : inside r.from r.to x ≡ false → false ≡ turned upright (covers e) x y
  off-box h =
      ap (λ (b : Bool). b && covers_on (not upright) e y) (sym h ∙ ap (λ (a : Extent). inside a.from a.to x) is)
      ∙ sym (turned-covers upright e x y)

module _ (t : List ℕ) (upright : Bool) (x y : ℕ) where
  abbrev has : Entry → Bool
  has e = turned upright (covers e) x y

  pub boxed-more : (k : ℕ) → boxed (k + 1) t upright x y ≡ (boxed k t upright x y || has (entry_at t k))
  unfolding boxed
  boxed-more k =
      ap (λ (n : ℕ). any has (map (entry_at t) (range 0 n))) (add-one k)
      ∙ ap (any has) (map_last (entry_at t) 0 k)
      ∙ any_append has (map (entry_at t) (range 0 k)) (entry_at t (0 + k) ∷ [])
      ∙ ap (λ (b : Bool). any has (map (entry_at t) (range 0 k)) || b)
      (or-false (has (entry_at t (0 + k))) ∙ ap (λ (n : ℕ). has (entry_at t n)) (zero-add k))

-- a crossing is left free just if no box has it
module _ (n : ℕ) (z : List ℕ) (upright : Bool) (lines cross : List ℕ) (line k : ℕ) where
  pub not-clear : true ≡ boxed n z upright (get_or cross k 0) (get_or lines line 0)
      → clear_at n z upright lines cross line k ≡ false
  unfolding clear_at
  not-clear h = ap not (sym h)

  pub is-clear : false ≡ boxed n z upright (get_or cross k 0) (get_or lines line 0)
      → clear_at n z upright lines cross line k ≡ true
  unfolding clear_at
  is-clear h = ap not (sym h)

-- ---- the crossings in a box are a block

module _ {lines : List ℕ} {m : ℕ} {r : Extent} {a b : ℕ} (A : FirstFrom lines m r.from a)
    (B : FirstFrom lines m r.to b) where
  line-inside : (i : ℕ) → i < m → inside r.from r.to (get_or lines i 0) ≡ inside a b i
  line-inside i li = same_test _ _ to from
    where
      to : inside r.from r.to (get_or lines i 0) ≡ true → inside a b i ≡ true
      to h = let w = of-inside r.from r.to (get_or lines i 0) h in
          inside-yes a b i (first (dec_lt i a) w.0) (last (dec_le b i) w.1)
        where
          first : Dec (i < a) → r.from ≤ get_or lines i 0 → a ≤ i
          first (yes p) l = absurd (let q = A.low i p in omega arith)
          first (no p) l = omega arith

          last : Dec (b ≤ i) → get_or lines i 0 < r.to → i < b
          last (yes p) l = absurd (let q = B.high i p li in omega arith)
          last (no p) l = omega arith

      from : inside a b i ≡ true → inside r.from r.to (get_or lines i 0) ≡ true
      from h = let w = of-inside a b i h in
          inside-yes r.from r.to (get_or lines i 0) (A.high i w.0 li) (B.low i w.1)

  ordered : r.from < r.to → a ≤ b
  ordered l = pick (dec_le a b)
    where
      pick : Dec (a ≤ b) → a ≤ b
      pick (yes p) = p
      pick (no p) =
          let q = A.le in
          let low = A.low b (omega arith) in
          let high = B.high b (omega arith) (omega arith) in
          absurd (omega arith)

pub block-ordered : (upright : Bool) (e : Entry) {lines : List ℕ} {m : ℕ} {r : Extent} {a b : ℕ} → r ≡ extent upright e
    → Solid e → FirstFrom lines m r.from a → FirstFrom lines m r.to b → a ≤ b
block-ordered upright e is s A B =
    ordered A B
    (let l = s upright in
    omega (arith, ap (λ (x : Extent). x.from) is, ap (λ (x : Extent). x.to) is))

swap_and : (x y t : Bool) → ((x && y) && t) ≡ ((y && x) && t)
swap_and x y t = ap (λ (b : Bool). b && t) (and_comm x y)

pub box-sown : (n : ℕ) (z : List ℕ) (e : Entry) (upright : Bool) {lines : List ℕ} {m : ℕ} {cross : List ℕ} {c : ℕ}
    {r s : Extent} {a b lo hi : ℕ} {l₀ w₀ l w : List ℕ} → r ≡ extent (not upright) e
    → s ≡ extent upright e → FirstFrom lines m r.from a → FirstFrom lines m r.to b
    → FirstFrom cross c s.from lo → FirstFrom cross c s.to hi
    → BlockSown a b lo hi (clear_at n z upright lines cross) l₀ w₀ l w
    → Sows (aimed_one n z e upright lines cross) m c l₀ w₀ l w
unfolding aimed_one in_block
box-sown n z e upright {lines} {m} {cross} {c} {r} {s} {a} {b} {lo} {hi} beside along A B L H S =
    sows-same
    (λ i li k lk.
    let on : covers_on upright e (get_or cross k 0) ≡ inside lo hi k =
    ap (λ (x : Extent). inside x.from x.to (get_or cross k 0)) (sym along) ∙ line-inside L H k lk in
    let at : covers_on (not upright) e (get_or lines i 0) ≡ inside a b i =
    ap (λ (x : Extent). inside x.from x.to (get_or lines i 0)) (sym beside) ∙ line-inside A B i li in
    ap (λ (t : Bool). t && clear_at n z upright lines cross i k)
    (turned-covers upright e (get_or cross k 0) (get_or lines i 0)
    ∙ ap₂ (λ (x y : Bool). x && y) on at)
    ∙ swap_and (inside lo hi k) (inside a b i) (clear_at n z upright lines cross i k))
    (S.sows m c B.le H.le)

-- ---- target boxes

split-and : (x y t : Bool) → ((x || y) && t) ≡ ((x && t) || (y && t))
split-and true true true = refl
split-and true true false = refl
split-and true false true = refl
split-and true false false = refl
split-and false y t = refl

module _ (n : ℕ) (z : List ℕ) (targets : List ℕ) (upright : Bool) (lines cross : List ℕ) {m c : ℕ} {l w : List ℕ}
  where
    pub targets-none : Sown (λ i c. false) m c l w
        → Sown (aimed_at n z 0 targets upright lines cross) m c l w
    unfolding aimed_at boxed
    targets-none S = sown-same (λ i li k lk. refl) S

    pub targets-more : (e : ℕ) {l' w' : List ℕ}
        → Sown (aimed_at n z e targets upright lines cross) m c l w
        → Sows (aimed_one n z (entry_at targets e) upright lines cross) m c l w l' w'
        → Sown (aimed_at n z (e + 1) targets upright lines cross) m c l' w'
    unfolding aimed_at aimed_one
    targets-more e S A =
        sown-same
        (λ i li k lk.
        ap (λ (b : Bool). b && clear_at n z upright lines cross i k)
        (boxed-more targets upright (get_or cross k 0) (get_or lines i 0) e)
        ∙ split-and (boxed e targets upright (get_or cross k 0) (get_or lines i 0))
        (turned upright (covers (entry_at targets e)) (get_or cross k 0) (get_or lines i 0))
        (clear_at n z upright lines cross i k))
        (A.sown _ S)

-- the test is the same for both directions
pub aimed-twin : (n : ℕ) (z : List ℕ) (k : ℕ) (t cols rows : List ℕ) (j i : ℕ)
    → aimed_at n z k t false rows cols j i ≡ aimed_at n z k t true cols rows i j
unfolding aimed_at clear_at boxed
aimed-twin n z k t cols rows j i = refl
