-- Strips that are joined row by row: each strip's y1 moves on as its run goes on.
use Rattle.std.specs.Prelude.{ℕ, ◌+◌, ◌*◌, ◌-◌, ◌≤◌, ◌<◌, min, ◌≡◌, Bool, true, false, ltb, Option, Some, None}
use Rattle.std.specs.Prelude.{List, ◌++◌, length, get_or, drop}
use Rattle.foil_spec.specs.Lists.{each}
use Rattle.foil_spec.specs.Limits.{max_strips}
use Rattle.foil_spec.specs.Strips.{run, is_run, row_of, Strip, strips_from, strips}
use Rattle.foil_spec.specs.Lent.{strip_numbers}
use Rattle.strip_laws.specs.Rules.{Stop, columns}

-- the row up to which a strip that begins at column a is known: z for the columns before x, v for the others
unfoldable pub bound : ℕ → ℕ → ℕ → ℕ → ℕ
bound v z x a = elim (ltb a x) [ true ↦ z | false ↦ v ]

abbrev pub no_strip : Strip
no_strip = record { x0 = 0; y0 = 0; x1 = 0; y1 = 0 }

-- the strip at place k
abbrev pub at : List Strip → ℕ → Strip
at l k = get_or l k no_strip

-- the strip s of the foil stands at place k as t: as far as it is known
pub record Placed (f : ℕ → ℕ → Bool) (w h v z x : ℕ) (last : List ℕ) (s t : Strip) (k : ℕ) : Type 0 where
  pub lt : s.x0 < s.x1
  pub le : s.x1 ≤ w
  pub rows : Stop (λ u. is_run (row_of f u) w (columns s)) h s.y0 s.y1
  pub early : s.y0 < bound v z x s.x0
  pub same-x0 : t.x0 ≡ s.x0
  pub same-y0 : t.y0 ≡ s.y0
  pub same-x1 : t.x1 ≡ s.x1
  pub known-y1 : t.y1 ≡ min s.y1 (bound v z x s.x0)
  pub latest : bound v z x s.x0 ≤ s.y1 → get_or last s.x0 0 ≡ k

-- the last strip that began at column a is from a up to b, and goes as far as t
pub record Open (last : List ℕ) (cur : List Strip) (count a b t : ℕ) : Type 0 where
  pub lt : get_or last a 0 < count
  pub is-x0 : (at cur (get_or last a 0)).x0 ≡ a
  pub is-x1 : (at cur (get_or last a 0)).x1 ≡ b
  pub is-y1 : (at cur (get_or last a 0)).y1 ≡ t

-- The first `count` strips of the foil, `done`, stand in out as `cur`: those that begin before column x are known up
-- to row z, the others up to row v. The strips `rest` are still to come; o is the list as it came.
pub record Joined
    (f : ℕ → ℕ → Bool) (w h : ℕ) (o out last : List ℕ) (count v z x : ℕ) (rest : List Strip) : Type 0 where
  pub small : count ≤ max_strips
  pub same : length out ≡ length o
  pub wide : w ≤ length last
  pub done : List Strip
  pub cur : List Strip
  pub split : strips f w h ≡ done ++ rest
  pub counted : length done ≡ count
  pub len : length cur ≡ count
  pub held : out ≡ each strip_numbers cur ++ drop (count * 4) o
  pub placed : (k : ℕ) → k < count → Placed f w h v z x last (at done k) (at cur k) k
  pub opens : (a b : ℕ) → a < w → 0 < bound v z x a → is_run (row_of f (bound v z x a - 1)) w (run a b) ≡ true
      → Open last cur count a b (bound v z x a)

-- row y, and with it all rows up to z, is joined: there are c strips so far, or there are too many
abbrev pub RowJoined : (ℕ → ℕ → Bool) → ℕ → ℕ → List ℕ → List ℕ → List ℕ → Option ℕ → ℕ → ℕ → Type 0
RowJoined f w h o out last (Some c) y z = Joined f w h o out last c y z w (strips_from f w h z)
RowJoined f w h o out last None y z = max_strips < length (strips f w h)

-- row y is joined to the c strips before, whatever list o they were begun on
abbrev pub JoinsRow : (ℕ → ℕ → Bool) → ℕ → ℕ → List ℕ → List ℕ → ℕ → ℕ → ℕ → List ℕ → List ℕ → Option ℕ → Type 0
JoinsRow f w h out last c y z out' last' r =
    (o : List ℕ) → Joined f w h o out last c y z 0 (strips_from f w h y) → RowJoined f w h o out' last' r y z

-- what the list says of place k: a strip from a up to b that goes as far as y
pub record Opened (out : List ℕ) (k count a b y : ℕ) : Type 0 where
  pub lt : k < count
  pub is-x0 : get_or out (k * 4) 0 ≡ a
  pub is-x1 : get_or out (k * 4 + 2) 0 ≡ b
  pub is-y1 : get_or out (k * 4 + 3) 0 ≡ y
