-- Inks: how many steps, at least, lead from a crossing to the target by as few segments as its label says.
use Rattle.std.specs.Prelude.{ℕ, ◌+◌, ◌-◌, ◌*◌, ◌≤◌, ◌<◌, ◌≡◌, ◌≢◌, ◌⊎◌, List, get_or, set, length}
use Rattle.foil_spec.specs.Limits.{max_side}
use Rattle.foil_spec.specs.Paths.{gap}
use Rattle.grid.specs.Size.{stride}
use Rattle.grid.specs.Lines.{Lines}
use Rattle.runs.specs.Line.{along, across, HasLine, Linked, label_top}

-- the stops of a line for the label v have small inks
pub record Low (other inks : List ℕ) (line n v : ℕ) : Type 0 where
  pub le : (q : ℕ) → q < n → across other line q ≡ v → across inks line q ≤ 4095 * v

-- a line with n crossings, whose numbers are cross, the labels and inks of the other direction, and the label v that is
-- looked for in these
pub record OnLine (other inks cross : List ℕ) (line n v : ℕ) : Type 0 where
  pub line-in : line < stride
  pub crossings : Lines cross n
  pub top : v < label_top
  pub others : n * stride ≤ length other
  pub other-inks : n * stride ≤ length inks
  pub low : Low other inks line n v

-- its crossing k
pub record AtCrossing (other inks : List ℕ) (line v k : ℕ) : Type 0 where
  pub line-in : line < stride
  pub k-in : k < stride
  pub top : v < label_top
  pub others : HasLine other k
  pub other-inks : HasLine inks k
  pub low : across other line k ≡ v → across inks line k ≤ 4095 * v

-- its crossings lo to hi, hi excluded, one of which, h, is a stop
pub record StopIn (other : List ℕ) (line n v lo hi h : ℕ) : Type 0 where
  pub hi-in : hi ≤ n
  pub from : lo ≤ h
  pub to : h < hi
  pub stop : across other line h ≡ v

-- r is the least of `best` and, where crossing k is a stop for the label v, its ink and x more
pub record Carried (other inks : List ℕ) (line v k x best r : ℕ) : Type 0 where
  pub no-farther : r ≤ best
  pub no_more : across other line k ≡ v → r ≤ across inks line k + x
  pub is : (r ≡ best) ⊎ ((across other line k ≡ v) × (r ≡ across inks line k + x))

-- s is no more than the ink at x over any stop from crossing a to crossing b, b excluded, and no less than that over
-- one of the stops from lo to hi
pub record Least (other inks cross : List ℕ) (line v lo hi a b x s : ℕ) : Type 0 where
  pub le : (q : ℕ) → a ≤ q → q < b → across other line q ≡ v → s ≤ across inks line q + gap x (get_or cross q 0)
  pub q : ℕ
  pub from : lo ≤ q
  pub to : q < hi
  pub stop : across other line q ≡ v
  pub ge : across inks line q + gap x (get_or cross q 0) ≤ s

-- p is x more than the least ink at crossing j over the stops from crossing a to crossing b, b excluded
pub record Over (other inks cross : List ℕ) (line v lo hi a b j x p : ℕ) : Type 0 where
  pub above : x ≤ p
  pub least : Least other inks cross line v lo hi a b (get_or cross j 0) (p - x)

-- the sweep down has come to crossing k of the run from lo to hi: at each crossing from there on stands the least ink
-- over the stops from it on, and its number more
pub record Ahead (other inks cross : List ℕ) (line v lo hi k : ℕ) (ahead : List ℕ) : Type 0 where
  pub at : (j : ℕ) → k ≤ j → j < hi → Over other inks cross line v lo hi j hi j (get_or cross j 0) (get_or ahead j 0)

-- the sweep up has come to crossing k: at each crossing before it stands the least ink over the stops up to it, and as
-- much more as its number is below 4,096
pub record Behind (other inks cross : List ℕ) (line v lo hi k : ℕ) (behind : List ℕ) : Type 0 where
  pub at : (j : ℕ) → j < k → lo ≤ j →
      Over other inks cross line v lo hi lo (j + 1) j (max_side - get_or cross j 0) (get_or behind j 0)

-- both sweeps have come over the crossings lo to hi, hi excluded, of a line with n
pub record Swept (other inks cross : List ℕ) (line n v lo hi : ℕ) (ahead behind : List ℕ) : Type 0 where
  pub line-in : line < stride
  pub crossings : Lines cross n
  pub from : lo ≤ hi
  pub hi-in : hi ≤ n
  pub ahead-room : stride ≤ length ahead
  pub behind-room : stride ≤ length behind
  pub down : Ahead other inks cross line v lo hi lo ahead
  pub up : Behind other inks cross line v lo hi hi behind

-- no crossing of a line from lo to hi, hi excluded, has a label
pub record Blank (lab : List ℕ) (line lo hi : ℕ) : Type 0 where
  pub none : (j : ℕ) → lo ≤ j → j < hi → along lab line j ≡ 0

-- crossing k of a line, without a label, gets the ink s: the inks before and after
pub data InkPut (line k s : ℕ) (l : List ℕ) : List ℕ → List ℕ → Type 0 where
  stays : {w : List ℕ} → along l line k ≢ 0 → InkPut line k s l w w
  puts : {w : List ℕ} → along l line k ≡ 0 → InkPut line k s l w (set w (line * stride + k) s)

-- the inks w before and after the crossings lo to k of a run get theirs: where there is no label, the least over the
-- stops lo to hi
pub record RunInked (other inks cross : List ℕ) (line v lo hi k : ℕ) (l₀ w₀ w : List ℕ) : Type 0 where
  pub size : length w ≡ length w₀
  pub fresh : (j : ℕ) → j < k → lo ≤ j → along l₀ line j ≡ 0 →
      Least other inks cross line v lo hi lo hi (get_or cross j 0) (along w line j)
  pub kept : (j : ℕ) → j < k → lo ≤ j → along l₀ line j ≢ 0 → along w line j ≡ along w₀ line j
  pub low : (i : ℕ) → i < line * stride + lo → get_or w i 0 ≡ get_or w₀ i 0
  pub high : (i : ℕ) → line * stride + k ≤ i → get_or w i 0 ≡ get_or w₀ i 0

-- s is the least ink at crossing k over the stops that are joined with it
pub record LeastInk (other inks link cross : List ℕ) (line n v k s : ℕ) : Type 0 where
  pub le : (q : ℕ) → q < n → Linked link line k q → across other line q ≡ v →
      s ≤ across inks line q + gap (get_or cross k 0) (get_or cross q 0)
  pub q : ℕ
  pub below : q < n
  pub linked : Linked link line k q
  pub stop : across other line q ≡ v
  pub ge : across inks line q + gap (get_or cross k 0) (get_or cross q 0) ≤ s

-- the inks w before and after a pass, or a part of one: each new label has the least, and the others stay
pub record Inked (other inks link cross : List ℕ) (m n v : ℕ) (l₀ l w₀ w : List ℕ) : Type 0 where
  pub size : length w ≡ length w₀
  pub kept : (i : ℕ) → i < m → (k : ℕ) → k < n → along l₀ i k ≢ 0 → along w i k ≡ along w₀ i k
  pub fresh : (i : ℕ) → i < m → (k : ℕ) → k < n → along l₀ i k ≡ 0 → along l i k ≢ 0 →
      LeastInk other inks link cross i n v k (along w i k)

-- every label has a small ink
pub record Lean (m n : ℕ) (lab inks : List ℕ) : Type 0 where
  pub le : (i : ℕ) → i < m → (k : ℕ) → k < n → along lab i k ≢ 0 → along inks i k ≤ 4095 * along lab i k
