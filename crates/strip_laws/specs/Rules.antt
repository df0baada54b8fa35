-- Document 01's rules for runs and strips, in its words, for any test f of free points, width W and height H.
use Rattle.std.specs.Prelude.{ℕ, pred, ◌≤◌, ◌<◌, ◌≡◌, Bool, true, false, ◌&&◌, ◌||◌, ◌⊎◌, ltb, eqb, length, get_or}
use Rattle.foil_spec.specs.Foil.{Point}
use Rattle.foil_spec.specs.Strips.{Run, run, row_of, Strip, strips, holds, place_of}
use Rattle.list_laws.specs.Members.{In}

-- a run: a longest unbroken row of free points, where g tests the points of one row
pub record IsRun (g : ℕ → Bool) (W : ℕ) (r : Run) : Type 0 where
  pub not-empty : r.from < r.to
  pub on-board : r.to ≤ W
  pub all-free : (x : ℕ) → r.from ≤ x → x < r.to → g x ≡ true
  pub left : (r.from ≡ 0) ⊎ (g (pred r.from) ≡ false)
  pub right : (r.to ≡ W) ⊎ (g r.to ≡ false)

-- e is the first place from x on, below N, where g fails, or N
pub record Stop (g : ℕ → Bool) (N x e : ℕ) : Type 0 where
  pub ge : x ≤ e
  pub le : e ≤ N
  pub passes : (u : ℕ) → x ≤ u → u < e → g u ≡ true
  pub ends : (e ≡ N) ⊎ (g e ≡ false)

-- the columns of a strip
abbrev pub columns : Strip → Run
columns s = run s.x0 s.x1

-- a strip: equal runs on neighbouring rows, joined as far as they go
pub record IsStrip (f : ℕ → ℕ → Bool) (W H : ℕ) (s : Strip) : Type 0 where
  pub not-empty : s.y0 < s.y1
  pub on-board : s.y1 ≤ H
  pub are-runs : (y : ℕ) → s.y0 ≤ y → y < s.y1 → IsRun (row_of f y) W (columns s)
  pub above : (s.y0 ≡ 0) ⊎ (IsRun (row_of f (pred s.y0)) W (columns s) → ⊥)
  pub below : (s.y1 ≡ H) ⊎ (IsRun (row_of f s.y1) W (columns s) → ⊥)

-- smaller y0 first, then smaller x0
unfoldable pub strip_before : Strip → Strip → Bool
strip_before s t = ltb s.y0 t.y0 || eqb s.y0 t.y0 && ltb s.x0 t.x0

-- of a free point: the strip at the place that is looked up holds it, and no other strip of the foil does; d is what a
-- place past the end would give
abbrev pub FoundStrip : (ℕ → ℕ → Bool) → ℕ → ℕ → Type 0
FoundStrip f W H =
    (p : Point) (d : Strip) → p.x < W → p.y < H → f p.x p.y ≡ true
    → (place_of p (strips f W H) < length (strips f W H))
    × (holds p (get_or (strips f W H) (place_of p (strips f W H)) d) ≡ true)
    × ((s : Strip) → In s (strips f W H) → holds p s ≡ true → s ≡ get_or (strips f W H) (place_of p (strips f W H)) d)
