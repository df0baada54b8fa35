-- Corners that stand in a flat list are read back, and the numbers of a list that draws corners are theirs.
use Prim.Native.Nat.{ℕ, zero, suc, ◌+◌, ◌*◌, ◌/◌, ◌%◌}
use native.Mathlib.Omega.{arith}
use mathlib.Core.Path.{◌≡◌, refl, sym, ap, ◌∙◌, fun_ext}
use mathlib.Core.Bool.{Bool, true}
use mathlib.Core.List.{List, [], ◌∷◌, ◌++◌, map, append-nil}
use lib.Dec.{eqb}
use lib.ListN.{length}
use borrow.Author.Tests.{eqb-true, eqb-false, eq-eqb, ne_eqb}
use Rattle.foil_spec.specs.Lists.{range, each}
use Rattle.foil_spec.specs.Foil.{Point, point}
use Rattle.foil_spec.specs.Paths.{is_way}
use Rattle.foil_spec.specs.Corners.{point_numbers, corner_at, corners_in, drawn}
use Rattle.list_laws.proofs.Tests.{both, clash}
use Rattle.list_laws.proofs.Members.{map-later}
use Rattle.ledger_laws.proofs.Stored.{length-points}

-- the corners after the first one
corner-later : (x y : ℕ) (ks : List ℕ) (k : ℕ) → corner_at (x ∷ y ∷ ks) (suc k) ≡ corner_at ks k
unfolding corner_at
corner-later x y ks k =
    let a : suc k * 2 ≡ suc (suc (k * 2)) = omega arith in
    let b : suc k * 2 + 1 ≡ suc (suc (k * 2 + 1)) = omega arith in
    rw (b, a) refl

corners-later : (x y : ℕ) (ks : List ℕ) (n : ℕ) → corners_in (x ∷ y ∷ ks) (suc n) ≡ point x y ∷ corners_in ks n
unfolding corners_in corner_at
corners-later x y ks n =
    ap (λ (ps : List Point). point x y ∷ ps)
    (map-later (corner_at (x ∷ y ∷ ks)) 0 n
    ∙ ap (λ (g : ℕ → Point). map g (range 0 n)) (fun_ext (λ k. corner-later x y ks k)))

-- the corners of a track, written at the front of a corner list, are the first ones in it
pub corners-read : (cs : List Point) (rest : List ℕ) → corners_in (each point_numbers cs ++ rest) (length cs) ≡ cs
unfolding point_numbers
corners-read [] rest = unfold corners_in in refl
corners-read (p ∷ cs) rest =
    corners-later p.x p.y (each point_numbers cs ++ rest) (length cs)
    ∙ ap (λ (ps : List Point). p ∷ ps) (corners-read cs rest)

-- corners that fill a list, as numbers again, are the list
corners-again : (ks : List ℕ) (n : ℕ) → length ks ≡ n * 2 → each point_numbers (corners_in ks n) ≡ ks
unfolding point_numbers
corners-again [] zero e = unfold corners_in in refl
corners-again [] (suc n) e = absurd (omega arith)
corners-again (x ∷ []) n e = absurd (omega arith)
corners-again (x ∷ y ∷ ks) zero e = absurd (omega arith)
corners-again (x ∷ y ∷ ks) (suc n) e =
    ap (each point_numbers) (corners-later x y ks n)
    ∙ ap (λ (l : List ℕ). x ∷ y ∷ l) (corners-again ks n (omega (arith, e)))

-- ---- whole lists

module _ (ks : List ℕ) where
  pub drawn-whole : length ks % 2 ≡ 0 → drawn ks ≡ corners_in ks (length ks / 2)
  unfolding drawn
  drawn-whole e = rw (eq-eqb (length ks % 2) 0 e) refl

  pub drawn-half : (length ks % 2 ≡ 0 → ⊥) → drawn ks ≡ []
  unfolding drawn
  drawn-half e = rw (ne_eqb (length ks % 2) 0 e) refl

-- corners are drawn by their numbers
pub drawn-read : (cs : List Point) → drawn (each point_numbers cs) ≡ cs
drawn-read cs =
    let ks : List ℕ = each point_numbers cs in
    let half : length ks / 2 ≡ length cs = omega (arith, length-points cs) in
    drawn-whole ks (omega (arith, length-points cs))
    ∙ ap (corners_in ks) half
    ∙ ap (λ (l : List ℕ). corners_in l (length cs)) (sym (append-nil ks))
    ∙ corners-read cs []

-- and a list that draws a way is the numbers of its corners
pub way-numbers : (f : ℕ → ℕ → Bool) (ks : List ℕ) → is_way f (drawn ks) ≡ true → each point_numbers (drawn ks) ≡ ks
unfolding is_way
way-numbers f ks w =
    both (eqb (length ks % 2) 0)
    (λ t.
    let e = eqb-true (length ks % 2) 0 t in
    ap (each point_numbers) (drawn-whole ks e) ∙ corners-again ks (length ks / 2) (omega (arith, e)))
    (λ t. clash w (ap (is_way f) (drawn-half ks (eqb-false (length ks % 2) 0 t))))
