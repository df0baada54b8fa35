-- One line of the escape grid, with its links, and the labels of its crossings.
use Rattle.std.specs.Prelude.{ℕ, ◌+◌, ◌-◌, ◌*◌, ◌≤◌, ◌<◌, min, max, ◌≡◌, ◌≢◌, Bool, true, false, ◌&&◌, eqb, List, get_or, length}
use Rattle.foil_spec.specs.Paths.{gap}
use Rattle.grid.specs.Size.{stride}

-- the label of crossing k of a line, in the list of the lines' own direction
abbrev pub along : List ℕ → ℕ → ℕ → ℕ
along lab line k = get_or lab (line * stride + k) 0

-- and in the list of the other direction, where line and crossing change places
abbrev pub across : List ℕ → ℕ → ℕ → ℕ
across lab line k = along lab k line

-- a list has a place for each crossing of a line
abbrev pub HasLine : List ℕ → ℕ → Type 0
HasLine l line = line * stride + stride ≤ length l

-- the line is free from crossing a to crossing b, either way round
unfoldable pub Linked : List ℕ → ℕ → ℕ → ℕ → Type 0
Linked link line a b = (i : ℕ) → min a b ≤ i → i < max a b → get_or link (line * stride + i) 0 ≡ 1

-- r is the first crossing that is joined with the crossing `at`
pub record RunStart (link : List ℕ) (line at r : ℕ) : Type 0 where
  pub le : r ≤ at
  pub linked : Linked link line r at
  pub stop : 0 < r → get_or link (line * stride + (r - 1)) 0 ≢ 1

-- r is the first crossing after the crossing `at` that is not joined with it, or n
pub record RunEnd (link : List ℕ) (line n at r : ℕ) : Type 0 where
  pub after : at < r
  pub le : r ≤ n
  pub linked : Linked link line at (r - 1)
  pub stop : r < n → get_or link (line * stride + (r - 1)) 0 ≢ 1

-- a crossing before the crossing `at` is joined with it, and has the label v in the other direction
pub record Left (other link : List ℕ) (line at v : ℕ) : Type 0 where
  pub j : ℕ
  pub before : j < at
  pub linked : Linked link line at j
  pub stop : across other line j ≡ v

-- no label is larger: a label is a number of 16 bits
abbrev pub label_top : ℕ
label_top = 65535

-- crossing k is a stop for the label v, over which s steps lead from x: it has that label in the other direction, and
-- its ink there and the steps from x to it make s
unfoldable pub is_stop : (other inks cross : List ℕ) (line x v s k : ℕ) → Bool
is_stop other inks cross line x v s k =
    eqb (across other line k) v && eqb (across inks line k + gap x (get_or cross k 0)) s

-- r is the first such stop from the crossing lo on, and joined with it, or n
pub record Scanned (other inks link cross : List ℕ) (line n lo x v s r : ℕ) : Type 0 where
  pub le : r ≤ n
  pub before : (k : ℕ) → k < r → lo ≤ k → Linked link line lo k → is_stop other inks cross line x v s k ≡ false
  pub found : r < n → (lo ≤ r) × Linked link line lo r × (is_stop other inks cross line x v s r ≡ true)

-- r is the first such stop joined with the crossing `at`, from there, or n
pub record Stop (other inks link cross : List ℕ) (line n at v s r : ℕ) : Type 0 where
  pub le : r ≤ n
  pub before : (k : ℕ) → k < r → Linked link line at k → is_stop other inks cross line (get_or cross at 0) v s k ≡ false
  pub found : r < n → Linked link line at r × (is_stop other inks cross line (get_or cross at 0) v s r ≡ true)

-- r is the first of the crossings lo to hi, hi excluded, of a line that has the label v in the other direction, or hi
pub record FirstStop (other : List ℕ) (line v lo hi r : ℕ) : Type 0 where
  pub from : lo ≤ r
  pub le : r ≤ hi
  pub before : (k : ℕ) → k < r → lo ≤ k → across other line k ≢ v
  pub stop : r < hi → across other line r ≡ v
