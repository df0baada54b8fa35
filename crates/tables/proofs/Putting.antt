-- How many strips a small foil has at most, and what stands in a list when strips are put there.
use Prim.Native.Nat.{ℕ, zero, suc, ◌+◌, ◌*◌, ◌-◌, ◌≤◌}
use native.Mathlib.Omega.{arith}
use mathlib.Core.Path.{◌≡◌, sym, ap, ◌∙◌}
use mathlib.Core.Bool.{Bool}
use mathlib.Core.List.{List, ◌++◌}
use lib.ListN.{length, take, drop, replicate, length-append, length-drop, length-map}
use Rattle.std.specs.Prelude.{Option, Some, None}
use Rattle.foil_spec.specs.Lists.{range, keep, each}
use Rattle.foil_spec.specs.Limits.{max_strips, strips_size}
use Rattle.foil_spec.specs.Strips.{outside, since, scan, scan_at, runs, row_of, is_top, Strip, strip_at, begun, row_strips}
use Rattle.foil_spec.specs.Strips.{strips_from, strips}
use Rattle.list_laws.proofs.Tests.{both}
use Rattle.list_laws.proofs.Members.{length-keep}
use Rattle.strips.specs.Built.{Listed, Rebuilt}
use Rattle.strips.proofs.Listing.{length-strips, take-strips, rebuilt}
use Rattle.foil_spec.specs.Lent.{strip_numbers}
use Rattle.tables.specs.StripList.{PutStrips}

-- a run of a row takes two columns, but for the last one
module _ (g : ℕ → Bool) where
  runs_of : (n : ℕ) → ((x : ℕ) → length (scan g n x outside) * 2 ≤ n + 1)
      × ((x a : ℕ) → length (scan g n x (since a)) * 2 ≤ n + 2)
  unfolding scan
  runs_of zero = (λ x. omega arith, λ x a. omega arith)
  runs_of (suc n) = (
    λ x.
        both (g x)
        (λ e. rw (e, scan) (omega (arith, (runs_of n).1 (suc x) x)))
        (λ e. rw (e, scan) (omega (arith, (runs_of n).0 (suc x)))),
    λ x a.
        both (g x)
        (λ e. rw (e, scan) (omega (arith, (runs_of n).1 (suc x) a)))
        (λ e. rw (e, scan) (omega (arith, (runs_of n).0 (suc x)))),
  )

module _ (f : ℕ → ℕ → Bool) (w h : ℕ) (narrow : w ≤ 127) where
  in_row : (y : ℕ) → length (row_strips f w h y) ≤ 64
  unfolding begun scan_at
  in_row y =
      omega (
        arith,
        length-map (keep (is_top f w y) (runs (row_of f y) w)) (strip_at f w h y),
        length-keep (is_top f w y) (runs (row_of f y) w),
        (runs_of (row_of f y) (w - 0)).0 0,
      )

  in_rows : (k y : ℕ) → length (each (row_strips f w h) (range y k)) ≤ k * 64
  in_rows zero y = omega arith
  in_rows (suc k) y =
      omega (
        arith,
        length-append (row_strips f w h y) (each (row_strips f w h) (range (suc y) k)),
        in_row y,
        in_rows k (suc y),
      )

  pub few-strips : h ≤ 64 → length (strips f w h) ≤ max_strips
  unfolding strips_from
  few-strips low = omega (arith, in_rows (h - 0) 0)

-- few strips are put in the list itself
pub put-here : (l l' : List ℕ) (ss : List Strip) (r : Option ℕ) → length ss ≤ max_strips → Rebuilt l l' ss r
    → PutStrips l l' r ss
put-here l l' ss (Some c) few z = z
put-here l l' ss None few z = absurd (omega (arith, z.0))

-- they were built in another list, are copied to the front, and zeros are put after them
pub put-over : (o out l xs zs : List ℕ) (c : ℕ) (ss : List Strip) → strips_size ≤ length l → Listed o out (Some c) ss
    → xs ≡ take (c * 4) out
    → zs ≡ replicate (length (take (strips_size - c * 4) (drop (c * 4) (xs ++ drop (c * 4) l)))) 0
    → PutStrips l
    (take (c * 4) (xs ++ drop (c * 4) l) ++ (zs ++ drop (strips_size - c * 4) (drop (c * 4) (xs ++ drop (c * 4) l))))
    (Some c) ss
put-over o out l xs zs c ss long z p =
    let e : xs ≡ each strip_numbers ss = p ∙ take-strips ss o out c (sym z.0) z.2 in
    rebuilt l (xs ++ drop (c * 4) l) c ss zs
    (omega (
      arith,
      length-append xs (drop (c * 4) l),
      length-drop (c * 4) l,
      ap length e,
      length-strips ss,
      z.0,
    ))
    (z.0, z.1, ap (λ (x : List ℕ). x ++ drop (c * 4) l) e)
