-- What answers write into an output list, one at its front or some one after the other.
use Prim.Native.Nat.{ℕ}
use mathlib.Core.Path.{◌≡◌, refl, sym, ap, ◌∙◌}
use mathlib.Core.List.{List, [], ◌++◌, append-nil, append_assoc}
use lib.ListN.{length, take, drop, length-append}
use lib.Seq.{drop-nil, drop-drop, take-append_seam, drop-append_seam}
use Rattle.foil_spec.specs.Lists.{each}
use Rattle.foil_spec.specs.Foil.{Point}
use Rattle.foil_spec.specs.Corners.{point_numbers}
use Rattle.foil_spec.specs.Ledger.{Answer, refused, accepted, laid, found, wrote, booked}
use Rattle.foil_spec.specs.Lent.{over_front, output_after, numbers_out}

-- numbers after others
pub over-append : (xs ys out : List ℕ) → over_front (xs ++ ys) out ≡ xs ++ over_front ys (drop (length xs) out)
unfolding over_front
over-append xs ys out = rw (drop-drop, length-append) (append_assoc xs ys _)

over_none : (xs : List ℕ) → over_front xs [] ≡ xs
unfolding over_front
over_none xs = rw (drop-nil, append-nil) refl

-- an answer writes its numbers at the front
pub out-is : (a : Answer) (out : List ℕ) → output_after a out ≡ over_front (numbers_out a) out
unfolding output_after numbers_out
out-is (refused n) out = unfold over_front in refl
out-is accepted out = unfold over_front in refl
out-is (laid cs n) out = ap (λ (ns : List ℕ). over_front ns out) (sym (over_none (each point_numbers cs)))
out-is (found n) out = unfold over_front in refl
out-is (wrote bs) out = ap (λ (ns : List ℕ). over_front ns out) (sym (over_none bs))
out-is (booked k n) out = unfold over_front in refl

-- those of a track are its corners'
pub laid_out : (cs : List Point) (n : ℕ) → numbers_out (laid cs n) ≡ each point_numbers cs
unfolding numbers_out output_after
laid_out cs n = over_none (each point_numbers cs)

module _ (a : Answer) (out : List ℕ) where
  pub out-front : take (length (numbers_out a)) (output_after a out) ≡ numbers_out a
  unfolding over_front
  out-front =
      ap (take (length (numbers_out a))) (out-is a out)
      ∙ take-append_seam (numbers_out a) (drop (length (numbers_out a)) out)

  pub out-rest : drop (length (numbers_out a)) (output_after a out) ≡ drop (length (numbers_out a)) out
  unfolding over_front
  out-rest =
      ap (drop (length (numbers_out a))) (out-is a out)
      ∙ drop-append_seam (numbers_out a) (drop (length (numbers_out a)) out)
