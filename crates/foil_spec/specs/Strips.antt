-- Runs and strips, over any test f of free points (x first, then y), a width W and a height H.
use Rattle.std.specs.Prelude.{ℕ, zero, suc, ◌-◌, Bool, true, false, cond, not, ◌&&◌, List, [], ◌∷◌, map, leb, ltb, eqb}
use Rattle.foil_spec.specs.Lists.{range, keep, each}
use Rattle.foil_spec.specs.Foil.{Point}
use Rattle.foil_spec.specs.declared.Strip as declared_strip

-- the first of the n places from x on where the test g fails, or the place after them
unfoldable pub stop_in : (ℕ → Bool) → ℕ → ℕ → ℕ
stop_in g zero x = x
stop_in g (suc n) x = elim (g x) [ true ↦ stop_in g n (suc x) | false ↦ x ]

-- the first place from x on, below N, where g fails; N where there is none
unfoldable pub stop : (ℕ → Bool) → ℕ → ℕ → ℕ
stop g N x = stop_in g (N - x) x

-- the columns from `from` up to `to`, `to` excluded
pub record Run : Type 0 where
  pub from : ℕ
  pub to : ℕ

-- the columns from a up to b
abbrev pub run : ℕ → ℕ → Run
run a b = record { from = a; to = b }

-- a scan along a row stands outside of runs, or in one since a column
pub data Scan : Type 0 where
  outside : Scan
  since : ℕ → Scan

-- the runs of the row g that end in the n columns from x on
unfoldable pub scan : (ℕ → Bool) → ℕ → ℕ → Scan → List Run
scan g zero x outside = []
scan g zero x (since a) = run a x ∷ []
scan g (suc n) x outside =
    elim (g x) [ true ↦ scan g n (suc x) (since x) | false ↦ scan g n (suc x) outside ]
scan g (suc n) x (since a) =
    elim (g x) [ true ↦ scan g n (suc x) (since a) | false ↦ run a x ∷ scan g n (suc x) outside ]

-- the runs that are still to come at column x
unfoldable pub scan_at : (ℕ → Bool) → ℕ → ℕ → Scan → List Run
scan_at g W x s = scan g (W - x) x s

-- the runs that begin at column x or later, seen from outside of runs
abbrev pub runs_from : (ℕ → Bool) → ℕ → ℕ → List Run
runs_from g W x = scan_at g W x outside

-- the runs of a row, from left to right
abbrev pub runs : (ℕ → Bool) → ℕ → List Run
runs g W = runs_from g W 0

-- there is no free point just left of column a
unfoldable pub starts : (ℕ → Bool) → ℕ → Bool
starts g zero = true
starts g (suc a) = not (g a)

-- r is a run of the row g: nothing free before it, not empty, and on to the first column that is not free
unfoldable pub is_run : (ℕ → Bool) → ℕ → Run → Bool
is_run g W r = starts g r.from && (ltb r.from r.to && eqb (stop g W r.from) r.to)

-- row y
abbrev pub row_of : (ℕ → ℕ → Bool) → ℕ → ℕ → Bool
row_of f y = λ x. f x y

-- the run r of row y is no run of the row before: a strip begins with it
unfoldable pub is_top : (ℕ → ℕ → Bool) → ℕ → ℕ → Run → Bool
is_top f W zero r = true
is_top f W (suc y) r = not (is_run (row_of f y) W r)

-- a joined block of equal runs, ends x1 and y1 excluded
abbrev pub Strip : Type 0
Strip = declared_strip.Strip

-- the first row from y on, below H, of which r is no run
abbrev pub until : (ℕ → ℕ → Bool) → ℕ → ℕ → Run → ℕ → ℕ
until f W H r y = stop (λ v. is_run (row_of f v) W r) H y

-- the strip that begins with the run r of row y
abbrev pub strip_at : (ℕ → ℕ → Bool) → ℕ → ℕ → ℕ → Run → Strip
strip_at f W H y r = record { x0 = r.from; y0 = y; x1 = r.to; y1 = until f W H r y }

-- the strips that begin on row y with a run of the list
unfoldable pub begun : (ℕ → ℕ → Bool) → ℕ → ℕ → ℕ → List Run → List Strip
begun f W H y rs = map (strip_at f W H y) (keep (is_top f W y) rs)

-- the strips that begin on row y, by x0
abbrev pub row_strips : (ℕ → ℕ → Bool) → ℕ → ℕ → ℕ → List Strip
row_strips f W H y = begun f W H y (runs (row_of f y) W)

-- the strips that begin on row y or later, by y0, then x0
unfoldable pub strips_from : (ℕ → ℕ → Bool) → ℕ → ℕ → ℕ → List Strip
strips_from f W H y = each (row_strips f W H) (range y (H - y))

-- all strips of the foil, by y0, then x0
abbrev pub strips : (ℕ → ℕ → Bool) → ℕ → ℕ → List Strip
strips f W H = strips_from f W H 0

-- the strip holds the point
unfoldable pub holds : Point → Strip → Bool
holds p s = leb s.x0 p.x && (ltb p.x s.x1 && (leb s.y0 p.y && ltb p.y s.y1))

-- the place of the first strip in the list that holds the point, the first being 0
unfoldable pub place_of : Point → List Strip → ℕ
place_of p [] = 0
place_of p (s ∷ ss) = cond (holds p s) 0 (suc (place_of p ss))
