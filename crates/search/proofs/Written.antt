-- What the walk writes is its corners, at the front of the list.
use Prim.Native.Nat.{ℕ, suc, ◌+◌, ◌*◌, ◌≤◌}
use native.Mathlib.Omega.{arith}
use native.Mathlib.Nat.{zero-add}
use mathlib.Core.Path.{◌≡◌, refl, ap, ◌∙◌}
use mathlib.Core.Bool.{Bool, true, false}
use mathlib.Core.List.{List, [], ◌∷◌, ◌++◌}
use lib.ListN.{get_or, length, drop}
use lib.Seq.{sets, sets-eq}
use Rattle.foil_spec.specs.Lists.{each}
use Rattle.foil_spec.specs.Foil.{Point, point}
use Rattle.foil_spec.specs.Corners.{point_numbers}
use Rattle.runs.specs.Line.{label_top}
use Rattle.labels.specs.Walk.{Trails, label_at, with_corner, walk_out, Standing, Walk}
use Rattle.labels.specs.declared.Walker.{Walker}
use Rattle.labels.proofs.First.{trail-length}
use Rattle.search.specs.Search.{turns, Ready, Written}
use Rattle.search.specs.declared.Start.{Start}

-- the numbers that corners are written as
abbrev numbers : List Point → List ℕ
numbers cs = each point_numbers cs

numbers-length : (cs : List Point) → length (numbers cs) ≡ 2 * length cs
unfolding point_numbers
numbers-length [] = refl
numbers-length (p ∷ cs) = let e = numbers-length cs in omega arith

-- one corner, and then the others
put-more : (out : List ℕ) (at x y : ℕ) (cs : List Point)
    → sets (sets out (at * 2) (point_numbers (point x y))) ((at + 1) * 2) (numbers cs)
    ≡ sets out (at * 2) (numbers (point x y ∷ cs))
unfolding point_numbers
put-more out at x y cs = let d : (at + 1) * 2 ≡ suc (suc (at * 2)) = omega arith in rw d refl

-- what a walk puts
walk-puts : (up : Bool) (cols rows qs out : List ℕ) (at i j : ℕ)
    → walk_out up cols rows out at i j qs ≡ sets out (at * 2) (numbers (turns up cols rows i j qs))
unfolding walk_out turns
walk-puts up cols rows [] out at i j = refl
walk-puts false cols rows (q ∷ qs) out at i j =
    walk-puts true cols rows qs (with_corner out at (get_or cols q 0) (get_or rows j 0)) (at + 1) q j
    ∙ put-more out at (get_or cols q 0) (get_or rows j 0) (turns true cols rows q j qs)
walk-puts true cols rows (q ∷ qs) out at i j =
    walk-puts false cols rows qs (with_corner out at (get_or cols i 0) (get_or rows q 0)) (at + 1) i q
    ∙ put-more out at (get_or cols i 0) (get_or rows q 0) (turns false cols rows i q qs)

written : (cs : List Point) (out : List ℕ) → 2 * length cs ≤ length out → Written cs out (sets out 0 (numbers cs))
written cs out l =
    let e = numbers-length cs in
    sets-eq (numbers cs) out 0 (omega arith)
    ∙ ap (λ (n : ℕ). numbers cs ++ drop n out) (zero-add (length (numbers cs)))

-- one corner
pub corner-written : (x y : ℕ) (out : List ℕ) → 2 ≤ length out
    → Written (point x y ∷ []) out (sets out 0 (point_numbers (point x y)))
corner-written x y out l = put-more out 0 x y [] ∙ written (point x y ∷ []) out l

trails-length : (up : Bool) (l u wl wu kl ku cols rows : List ℕ) (nc nr i j v : ℕ) (qs : List ℕ)
    → Trails up l u wl wu kl ku cols rows nc nr i j v qs → v ≡ length qs + 1
unfolding Trails
trails-length false l u wl wu kl ku cols rows nc nr i j v qs t = trail-length t
trails-length true l u wl wu kl ku cols rows nc nr i j v qs t = trail-length t

turns-length : (up : Bool) (cols rows : List ℕ) (i j : ℕ) (qs : List ℕ) → length (turns up cols rows i j qs) ≡ length qs
unfolding turns
turns-length up cols rows i j [] = refl
turns-length false cols rows i j (q ∷ qs) = ap suc (turns-length true cols rows q j qs)
turns-length true cols rows i j (q ∷ qs) = ap suc (turns-length false cols rows i q qs)

-- the walk under way after its first corner
abbrev pub set_out : Start → Walker
set_out s = record { i = s.i; j = s.j; upright = s.upright; label = s.corners; corners = 1 }

module _ {cs : List Point} {cols rows kl ku l u wl wu : List ℕ} {s : Start}
    (R : Ready cs cols rows kl ku l u wl wu s) where
  pub sets-out : (out mid : List ℕ) → 2 * s.corners ≤ length out → length mid ≡ length out
      → Standing l u s.columns s.rows (set_out s) mid
  sets-out out mid room e = record {
    i-in = R.i-in;
    j-in = R.j-in;
    some = R.some;
    label = R.label;
    room = omega arith;
  }

  -- the number of corners is a label
  pub corners-low : s.corners ≤ label_top
  unfolding label_at
  corners-low = low s.upright R.label
    where
      low : (up : Bool) → label_at up l u s.i s.j ≡ s.corners → s.corners ≤ label_top
      low false e = let h = R.walkable.level-low.le s.j R.j-in s.i R.i-in in omega arith
      low true e = let h = R.walkable.upright-low.le s.i R.i-in s.j R.j-in in omega arith

  -- the first corner, and then those of the walk
  pub walk-written : (out mid out' : List ℕ) → 2 * s.corners ≤ length out
      → mid ≡ with_corner out 0 (get_or cols s.i 0) (get_or rows s.j 0)
      → Walk l u wl wu kl ku cols rows s.columns s.rows (set_out s) mid out' → Written cs out out'
  walk-written out mid out' room e k =
      let qs = k.crossings in
      let ts : List Point = turns s.upright cols rows s.i s.j qs in
      let c = R.takes qs k.trail in
      let m = turns-length s.upright cols rows s.i s.j qs in
      let n = trails-length s.upright _ _ _ _ _ _ _ _ _ _ _ _ _ qs k.trail in
      let h = ap length c in
      k.wrote ∙ walk-puts s.upright cols rows qs mid 1 s.i s.j
      ∙ ap (λ (o : List ℕ). sets o 2 (numbers ts)) e
      ∙ put-more out 0 (get_or cols s.i 0) (get_or rows s.j 0) ts
      ∙ ap (λ (ps : List Point). sets out 0 (numbers ps)) c
      ∙ written cs out (omega arith)
