-- A foil in flat lists of numbers, and what 13 asks of its record and lists: one definition, for today's rules and for
-- document 01's.
use Rattle.std.specs.Prelude.{ℕ, ◌+◌, ◌*◌, ◌-◌, Bool, true, false, not, ◌&&◌, List, [], ◌∷◌, ◌++◌, map, leb, ltb, eqb, length, get_or, drop, replicate}
use Rattle.foil_spec.specs.Lists.{range, all, each}
use Rattle.foil_spec.specs.Limits.{max_entries, table_size, max_strips, strips_size}
use Rattle.foil_spec.specs.Foil.{Entry, entry, entry_numbers, Pen, Rule, size_ok, reach_ok, pen_ok, entry_ok}
use Rattle.foil_spec.specs.Foil.{no_crossing, pen_rule, patch_margin, reach_rule, free_by}
use Rattle.foil_spec.specs.Strips.{Strip, strips}

-- the entry at place k of a table
unfoldable pub entry_at : List ℕ → ℕ → Entry
entry_at t k =
    entry (get_or t (k * 5) 0) (get_or t (k * 5 + 1) 0) (get_or t (k * 5 + 2) 0) (get_or t (k * 5 + 3) 0) (get_or t (k * 5 + 4) 0)

-- a place of the strip list is four numbers
unfoldable pub strip_numbers : Strip → List ℕ
strip_numbers s = s.x0 ∷ s.y0 ∷ s.x1 ∷ s.y1 ∷ []

-- the numbers in front, zeros up to n numbers in all, and after them what stood there
unfoldable pub written : ℕ → List ℕ → List ℕ → List ℕ
written n ns old = ns ++ (replicate (n - length ns) 0 ++ drop n old)

-- the lists are equal
unfoldable pub same_numbers : List ℕ → List ℕ → Bool
same_numbers [] [] = true
same_numbers [] (n ∷ ns) = false
same_numbers (m ∷ ms) [] = false
same_numbers (m ∷ ms) (n ∷ ns) = eqb m n && same_numbers ms ns

-- what is asked of a foil: that its pen or reach is within its limits, by which rule its points are blocked, and what
-- besides of its row of entries
pub record Asked : Type 0 where
  pub allowed : Bool
  pub rule : Rule
  pub besides : List Entry → Bool

-- today, of a foil by its pen: no patch lies across a track
unfoldable pub today : Pen → Asked
today p = record { allowed = pen_ok p; rule = pen_rule p; besides = no_crossing (patch_margin p) }

-- by document 01, of a foil by its reach: the edge blocks nothing, and patches may lie across tracks
unfoldable pub formerly : ℕ → Asked
formerly d = record { allowed = reach_ok d; rule = reach_rule d; besides = λ es. true }

-- the strips of a foil of W by H with these entries, by a rule of blocking
unfoldable pub strips_by : Rule → ℕ → ℕ → List Entry → List Strip
strips_by r W H es = strips (free_by r W H es) W H

-- a foil of W by H with these entries keeps the rules of the sections on the foil and the strips, and what is asked
unfoldable pub keeps_asked : Asked → ℕ → ℕ → List Entry → Bool
keeps_asked a W H es =
    size_ok W && size_ok H && a.allowed && all (entry_ok W H) es && leb (length es) max_entries && a.besides es
    && not (ltb max_strips (length (strips_by a.rule W H es)))

-- the table t and the strip list s hold these entries and strips, so many as counted, and zeros after them
unfoldable pub listed_in : List Entry → List Strip → ℕ → List ℕ → List ℕ → Bool
listed_in es ss count t s =
    eqb count (length ss) && same_numbers t (written table_size (each entry_numbers es) t)
    && same_numbers s (written strips_size (each strip_numbers ss) s)

-- 13 does not apply to a record of W by H, n entries and so many strips, with a table t and a strip list s: the first n
-- entries of the table keep what is asked, and the lists hold them and their strips
unfoldable pub sound_by : Asked → ℕ → ℕ → ℕ → ℕ → List ℕ → List ℕ → Bool
sound_by a W H n count t s =
    keeps_asked a W H (map (entry_at t) (range 0 n))
    && listed_in (map (entry_at t) (range 0 n)) (strips_by a.rule W H (map (entry_at t) (range 0 n))) count t s
