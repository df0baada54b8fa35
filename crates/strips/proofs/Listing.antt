-- The flat list of strips: its parts, and how it is written.
use Prim.Native.Nat.{ℕ, zero, suc, ◌+◌, ◌*◌, ◌-◌, ◌≤◌, ◌<◌}
use native.Mathlib.Omega.{arith}
use mathlib.Core.Path.{◌≡◌, refl, sym, ap, ap₂, ◌∙◌}
use mathlib.Core.List.{List, [], ◌∷◌, ◌++◌, append_assoc}
use lib.ListN.{length, set, take, drop, replicate, length-drop}
use lib.Seq.{sets, sets-eq, take_at, length-take-le, drop-drop, drop-append-add}
use Rattle.foil_spec.specs.Lists.{each}
use Rattle.foil_spec.specs.Strips.{Strip}
use Rattle.foil_spec.specs.Lent.{strip_numbers, written, listed_strip}
use Rattle.std.specs.Prelude.{Some}
use Rattle.strips.specs.Built.{Listed, Rebuilt}
use Rattle.strips.specs.Joining.{at}

pub length-strips : (ss : List Strip) → length (each strip_numbers ss) ≡ length ss * 4
unfolding strip_numbers
length-strips [] = refl
length-strips (s ∷ ss) = omega (arith, length-strips ss)

strips-append : (ss ts : List Strip) → each strip_numbers (ss ++ ts) ≡ each strip_numbers ss ++ each strip_numbers ts
unfolding strip_numbers
strips-append [] ts = refl
strips-append (s ∷ ss) ts = ap (λ (l : List ℕ). strip_numbers s ++ l) (strips-append ss ts)

abbrev pub with_top : Strip → ℕ → Strip
with_top s t = record { x0 = s.x0; y0 = s.y0; x1 = s.x1; y1 = t }

-- r stands after the strips
module _ (r : List ℕ) where
  pub listed_at : (ss : List Strip) (k : ℕ) → k < length ss → listed_strip (each strip_numbers ss ++ r) k ≡ at ss k
  unfolding strip_numbers listed_strip
  listed_at [] k lt = absurd (omega arith)
  listed_at (s ∷ ss) zero lt = refl
  listed_at (s ∷ ss) (suc k) lt =
      let a : suc k * 4 ≡ suc (suc (suc (suc (k * 4)))) = omega arith in
      let b : suc k * 4 + 1 ≡ suc (suc (suc (suc (k * 4 + 1)))) = omega arith in
      let c : suc k * 4 + 2 ≡ suc (suc (suc (suc (k * 4 + 2)))) = omega arith in
      let d : suc k * 4 + 3 ≡ suc (suc (suc (suc (k * 4 + 3)))) = omega arith in
      rw (b, c, d, a) (listed_at ss k (omega arith))

  -- another y1 for the strip at place k
  pub set-top : (ss : List Strip) (k t : ℕ) → k < length ss
      → set (each strip_numbers ss ++ r) (k * 4 + 3) t ≡ each strip_numbers (set ss k (with_top (at ss k) t)) ++ r
  unfolding strip_numbers
  set-top [] k t lt = absurd (omega arith)
  set-top (s ∷ ss) zero t lt = refl
  set-top (s ∷ ss) (suc k) t lt =
      let q : suc k * 4 + 3 ≡ suc (suc (suc (suc (k * 4 + 3)))) = omega arith in
      rw q (ap (λ (z : List ℕ). strip_numbers s ++ z) (set-top ss k t (omega arith)))

-- a strip that was put
pub strip-put : (o : List ℕ) (k : ℕ) (s : Strip) → k * 4 + 4 ≤ length o
    → sets o (k * 4) (strip_numbers s)
    ≡ take (k * 4) o ++ (s.x0 ∷ s.y0 ∷ s.x1 ∷ s.y1 ∷ drop (k * 4 + 4) o)
unfolding strip_numbers
strip-put o k s h =
    sets-eq (strip_numbers s) o (k * 4) h ∙ append_assoc (take (k * 4) o) (strip_numbers s) (drop (k * 4 + 4) o)

-- `count` strips stand at the front of out, and after them what stood in o
module _ (ss : List Strip) (o out : List ℕ) (count : ℕ) (n : length ss ≡ count)
    (e : out ≡ each strip_numbers ss ++ drop (count * 4) o) where
  long : length (each strip_numbers ss) ≡ count * 4
  long = omega (arith, length-strips ss)

  pub take-strips : take (count * 4) out ≡ each strip_numbers ss
  take-strips =
      ap (take (count * 4)) e ∙ take_at (each strip_numbers ss) (drop (count * 4) o) (count * 4) long

  pub drop-strips : (k : ℕ) → drop (count * 4 + k) out ≡ drop (count * 4 + k) o
  drop-strips k =
      ap (drop (count * 4 + k)) e
      ∙ ap (λ (j : ℕ). drop (j + k) (each strip_numbers ss ++ drop (count * 4) o)) (sym long)
      ∙ drop-append-add (each strip_numbers ss) (drop (count * 4) o) k
      ∙ drop-drop k (count * 4) o

  -- one strip more
  pub put-strip : (s : Strip)
      → take (count * 4) out ++ (s.x0 ∷ s.y0 ∷ s.x1 ∷ s.y1 ∷ drop (count * 4 + 4) out)
      ≡ each strip_numbers (ss ++ (s ∷ [])) ++ drop ((count + 1) * 4) o
  unfolding strip_numbers
  put-strip s =
      let q : count * 4 + 4 ≡ (count + 1) * 4 = omega arith in
      let d : drop (count * 4 + 4) out ≡ drop ((count + 1) * 4) o =
      drop-strips 4 ∙ ap (λ (j : ℕ). drop j o) q in
      ap₂ (λ (a b : List ℕ). a ++ (s.x0 ∷ s.y0 ∷ s.x1 ∷ s.y1 ∷ b)) take-strips d
      ∙ sym (append_assoc (each strip_numbers ss) (each strip_numbers (s ∷ [])) (drop ((count + 1) * 4) o))
      ∙ ap (λ (z : List ℕ). z ++ drop ((count + 1) * 4) o) (sym (strips-append ss (s ∷ [])))

-- the strips, and zeros in the place of what follows them up to 4,096 places
pub rebuilt : (o out : List ℕ) (r : ℕ) (ss : List Strip) (zs : List ℕ) → 16384 ≤ length out → Listed o out (Some r) ss
    → zs ≡ replicate (length (take (16384 - r * 4) (drop (r * 4) out))) 0
    → Rebuilt o (take (r * 4) out ++ (zs ++ drop (16384 - r * 4) (drop (r * 4) out))) ss (Some r)
unfolding written
rebuilt o out r ss zs big z q =
    let m : r * 4 + (16384 - r * 4) ≡ 16384 = omega (arith, z.1) in
    let c : r * 4 ≡ length (each strip_numbers ss) = omega (arith, z.0, length-strips ss) in
    let a : take (r * 4) out ≡ each strip_numbers ss = take-strips ss o out r (sym z.0) z.2 in
    let b : drop (16384 - r * 4) (drop (r * 4) out) ≡ drop 16384 o =
    drop-drop (16384 - r * 4) (r * 4) out
    ∙ drop-strips ss o out r (sym z.0) z.2 (16384 - r * 4)
    ∙ ap (λ (j : ℕ). drop j o) m in
    let n : length (take (16384 - r * 4) (drop (r * 4) out)) ≡ 16384 - r * 4 =
    length-take-le (16384 - r * 4) (drop (r * 4) out) (omega (arith, length-drop (r * 4) out)) in (
      z.0,
      z.1,
      ap₂ (λ (u v : List ℕ). u ++ (zs ++ v)) a b
          ∙ ap (λ (x : List ℕ). each strip_numbers ss ++ (x ++ drop 16384 o))
          (q ∙ ap (λ (j : ℕ). replicate j 0) (n ∙ ap (λ (j : ℕ). 16384 - j) c)),
    )
