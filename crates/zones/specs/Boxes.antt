-- What is blocked of a foil as boxes: a table of them, five numbers a place, in which no net and no rule counts.
use Rattle.std.specs.Prelude.{ℕ, ◌+◌, ◌*◌, ◌-◌, ◌≤◌, ◌<◌, min, ◌≡◌, Bool, true, not, ◌&&◌, List, map, leb, ltb, length}
use Rattle.foil_spec.specs.Lists.{range, all}
use Rattle.foil_spec.specs.Limits.{max_side}
use Rattle.foil_spec.specs.Foil.{Entry, entry}
use Rattle.foil_spec.specs.Lent.{entry_at}

-- a table of boxes has room for those of 128 entries and four more
abbrev pub max_boxes : ℕ
max_boxes = 132

-- lo ≤ v < hi
unfoldable pub inside : ℕ → ℕ → ℕ → Bool
inside lo hi v = leb lo v && ltb v hi

-- the box of the entry has the point (x, y)
unfoldable pub covers : Entry → ℕ → ℕ → Bool
covers e x y = inside e.x0 e.x1 x && inside e.y0 e.y1 y

-- the point (x, y) is on a foil of w by h, and none of the first n boxes of the table z has it
unfoldable pub box_free : ℕ → ℕ → ℕ → List ℕ → ℕ → ℕ → Bool
box_free w h n z x y = ltb x w && ltb y h && all (λ (e : Entry). not (covers e x y)) (map (entry_at z) (range 0 n))

-- one of the first n boxes of the table z has the point (x, y)
pub record Covered (z : List ℕ) (n x y : ℕ) : Type 0 where
  pub place : ℕ
  pub lt : place < n
  pub yes : covers (entry_at z place) x y ≡ true

-- the first n boxes of the table z are not empty and lie on a foil of w by h
pub record Boxes (z : List ℕ) (n w h : ℕ) : Type 0 where
  pub len : n * 5 ≤ length z
  pub few : n ≤ max_boxes
  pub width : w ≤ max_side
  pub height : h ≤ max_side
  pub x-order : (k : ℕ) → k < n → (entry_at z k).x0 < (entry_at z k).x1
  pub y-order : (k : ℕ) → k < n → (entry_at z k).y0 < (entry_at z k).y1
  pub x-end : (k : ℕ) → k < n → (entry_at z k).x1 ≤ w
  pub y-end : (k : ℕ) → k < n → (entry_at z k).y1 ≤ h

-- they leave just those points free that pass the test f
pub record Zoned (f : ℕ → ℕ → Bool) (w h : ℕ) (z : List ℕ) (n : ℕ) : Type 0 where
  pub same : box_free w h n z ≡ f
  pub boxes : Boxes z n w h

-- what an entry blocks up to d away, clipped to a foil of w by h
unfoldable pub zone_of : ℕ → ℕ → ℕ → Entry → Entry
zone_of d w h e = entry 0 (e.x0 - d) (e.y0 - d) (min (e.x1 + d) w) (min (e.y1 + d) h)

-- the box e stands at place k, and the boxes before it are as they were
pub record BoxPut (old new : List ℕ) (k : ℕ) (e : Entry) : Type 0 where
  pub here : entry_at new k ≡ e
  pub before : (j : ℕ) → j < k → entry_at new j ≡ entry_at old j

-- the boxes a and b stand at places n and n + 1, and the boxes before them are as they were
pub record PutTwo (old new : List ℕ) (n : ℕ) (a b : Entry) : Type 0 where
  pub first : entry_at new n ≡ a
  pub second : entry_at new (n + 1) ≡ b
  pub before : (j : ℕ) → j < n → entry_at new j ≡ entry_at old j

-- from place n on stand four boxes with what is nearer than m to the edge of a foil of w by h: on the left, on the
-- right, above and below; the boxes before them are as they were
pub record Edged (old new : List ℕ) (n m w h : ℕ) : Type 0 where
  pub left : entry_at new n ≡ entry 0 0 0 (min m w) h
  pub right : entry_at new (n + 1) ≡ entry 0 (w - m) 0 w h
  pub above : entry_at new (n + 2) ≡ entry 0 0 0 w (min m h)
  pub below : entry_at new (n + 2 + 1) ≡ entry 0 0 (h - m) w h
  pub before : (j : ℕ) → j < n → entry_at new j ≡ entry_at old j
