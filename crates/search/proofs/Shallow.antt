-- No label comes near the largest number of 16 bits: where segments lead from a crossing to a target, few do.
use Prim.Native.Nat.{ℕ, zero, suc, ◌+◌, ◌-◌, ◌<◌}
use native.Mathlib.Omega.{arith}
use mathlib.Core.Path.{◌≡◌}
use mathlib.Core.Bool.{Bool, true, false}
use mathlib.Core.List.{List}
use Rattle.course_laws.specs.Best.{On}
use Rattle.box_laws.specs.Boxed.{LabelsFit}
use Rattle.box_laws.proofs.Boxed.{box-labels}
use Rattle.runs.specs.Line.{label_top}
use Rattle.labels.specs.Rounds.{Rounds, Shallow}
use Rattle.labels.proofs.Meaning.{Says, Both, rounds-labels}
use Rattle.sowing.specs.Seeds.{Sown, aimed_at}
use Rattle.search.specs.Grid.{free_of, target_of, Aimed, Grid}
use Rattle.search.specs.declared.Aim.{Aim}
use Rattle.search.proofs.Grid.{target_free, level-faithful, upright-faithful, seeds}

-- a label that says how many segments lead to a target is small
small : {f : ℕ → ℕ → Bool} {T : ℕ → ℕ → Type 0} {r x y : ℕ} → LabelsFit f → (v : ℕ) → Says f T r x y v → v < label_top
small fit zero s = omega arith
small {T = T} {x = x} {y = y} fit (suc k) s =
    let e : suc k ≡ k + 1 = omega arith in
    omega (arith, fit T x y k (s.course k e) (s.least k e))

module _ {z t : List ℕ} {a : Aim} (P : Aimed z t a) {cols rows kl ku : List ℕ} {nc nr : ℕ}
    (G : Grid z t a cols rows kl ku nc nr) {l₀ u₀ wl₀ wu₀ : List ℕ}
    (L : Sown (aimed_at a.n z a.k t false rows cols) nr nc l₀ wl₀)
    (U : Sown (aimed_at a.n z a.k t true cols rows) nc nr u₀ wu₀) where
  -- what the labels say after some rounds
  labelled : {v : ℕ} {l u wl wu : List ℕ} → Rounds kl ku cols rows nc nr l₀ u₀ wl₀ wu₀ v l u wl wu
      → Both (free_of z a) (On (target_of z t a)) cols nc rows nr (v - 1) l u
  labelled r = rounds-labels (target_free z t a) (level-faithful G) (upright-faithful G) (seeds G L U) r

  pub shallow : Shallow kl ku cols rows nc nr l₀ u₀ wl₀ wu₀
  shallow =
      let fit = box-labels z a.n a.w a.h P.boxes.few in
      record {
        level = λ r j lj i li. small fit.0 _ ((labelled r).0.says j lj i li);
        upright = λ r i li j lj. small fit.1 _ ((labelled r).1.says i li j lj);
      }
