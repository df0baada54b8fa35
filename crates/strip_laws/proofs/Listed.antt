-- Strips that are written at the front of a flat list are those that are read there.
use Prim.Native.Nat.{ℕ, suc, ◌+◌, ◌-◌, ◌*◌}
use native.Mathlib.Omega.{arith}
use mathlib.Core.Path.{◌≡◌, refl, ap, ap₂, ◌∙◌, fun_ext}
use mathlib.Core.List.{List, [], ◌∷◌, ◌++◌, map, append_assoc}
use lib.ListN.{length, drop, replicate}
use Rattle.foil_spec.specs.Lists.{range, each}
use Rattle.foil_spec.specs.Strips.{Strip}
use Rattle.foil_spec.specs.Lent.{strip_numbers, written, listed_strip, listed_strips}
use Rattle.list_laws.proofs.Members.{map-later}

strip-here : (s : Strip) (l : List ℕ) → listed_strip (strip_numbers s ++ l) 0 ≡ s
unfolding listed_strip strip_numbers
strip-here s l = refl

strip-later : (s : Strip) (l : List ℕ) (k : ℕ) → listed_strip (strip_numbers s ++ l) (suc k) ≡ listed_strip l k
unfolding listed_strip strip_numbers
strip-later s l k =
    let a : suc k * 4 ≡ suc (suc (suc (suc (k * 4)))) = omega arith in
    let b : (j : ℕ) → suc k * 4 + j ≡ suc (suc (suc (suc (k * 4 + j)))) = λ j. omega arith in
    rw (b 1, b 2, b 3, a) refl

listed-strips : (ss : List Strip) (rest : List ℕ) → listed_strips (each strip_numbers ss ++ rest) (length ss) ≡ ss
unfolding listed_strips
listed-strips [] rest = refl
listed-strips (s ∷ ss) rest =
    let l : List ℕ = each strip_numbers ss ++ rest in
    ap (λ (u : List ℕ). map (listed_strip u) (range 0 (suc (length ss))))
    (append_assoc (strip_numbers s) (each strip_numbers ss) rest)
    ∙ ap₂ {A = Strip} {B = List Strip} {C = List Strip} (λ a b. a ∷ b) (strip-here s l)
    (map-later (listed_strip (strip_numbers s ++ l)) 0 (length ss)
    ∙ ap (λ (g : ℕ → Strip). map g (range 0 (length ss))) (fun_ext (λ k. strip-later s l k))
    ∙ listed-strips ss rest)

pub listed-written : (n : ℕ) (ss : List Strip) (old : List ℕ)
    → listed_strips (written n (each strip_numbers ss) old) (length ss) ≡ ss
unfolding written
listed-written n ss old = listed-strips ss (replicate (n - length (each strip_numbers ss)) 0 ++ drop n old)
