-- A pass over m lines with n crossings each: what is joined with a label v of the other direction gets the label v + 1.
use Rattle.std.specs.Prelude.{ℕ, zero, suc, ◌+◌, ◌-◌, ◌*◌, ◌≤◌, ◌<◌, ◌≡◌, ◌≢◌, Bool, true, false, List, [], ◌∷◌, get_or}
use Rattle.std.specs.Prelude.{set, length}
use Rattle.std.specs.Prelude.{Option, Some, None}
use Rattle.grid.specs.Size.{stride, area}
use Rattle.grid.specs.Lines.{Lines}
use Rattle.runs.specs.Line.{along, across, HasLine, Linked, RunStart, RunEnd, Left, label_top}
use Rattle.runs.specs.Ink.{RunInked, LeastInk, Inked, Lean}
use Rattle.labels.specs.declared.Run.{Run}

-- how many places have no label
unfoldable pub zeros : List ℕ → ℕ
zeros [] = 0
zeros (zero ∷ l) = suc (zeros l)
zeros (suc x ∷ l) = zeros l

-- crossing k of a line before and after a pass
pub data Cell (other link : List ℕ) (line n v k : ℕ) : ℕ → ℕ → Type 0 where
  kept : {a : ℕ} → a ≢ 0 → Cell other link line n v k a a
  none : ((q : ℕ) → q < n → Linked link line k q → across other line q ≢ v) → Cell other link line n v k 0 0
  new : (q : ℕ) → q < n → Linked link line k q → across other line q ≡ v → Cell other link line n v k 0 (v + 1)

-- the labels before and after a pass
pub record Pass (other link : List ℕ) (m n v : ℕ) (l₀ l : List ℕ) : Type 0 where
  pub cell : (i : ℕ) → i < m → (k : ℕ) → k < n → Cell other link i n v k (along l₀ i k) (along l i k)

-- a crossing before and after a part of a pass
pub data Part (other link : List ℕ) (line n v k : ℕ) : ℕ → ℕ → Type 0 where
  stood : {a : ℕ} → Part other link line n v k a a
  got : (q : ℕ) → q < n → Linked link line k q → across other line q ≡ v → Part other link line n v k 0 (v + 1)

-- the labels before and after a part of a pass
pub record Parts (other link : List ℕ) (m n v : ℕ) (l₀ l : List ℕ) : Type 0 where
  pub part : (i : ℕ) → i < m → (k : ℕ) → k < n → Part other link i n v k (along l₀ i k) (along l i k)

-- crossing k of a line alone gets what a pass gives it: labels and inks before and after, and whether it has a label
pub data Alone (other inks link cross : List ℕ) (line n k v : ℕ)
    : List ℕ → List ℕ → List ℕ → List ℕ → Bool → Type 0 where
  had : {l w : List ℕ} → along l line k ≢ 0 → Alone other inks link cross line n k v l l w w true
  gets : {l w : List ℕ} (s : ℕ) → along l line k ≡ 0 → LeastInk other inks link cross line n v k s →
      Alone other inks link cross line n k v l (set l (line * stride + k) (v + 1)) w (set w (line * stride + k) s) true
  misses : {l w : List ℕ} → along l line k ≡ 0 →
      ((q : ℕ) → q < n → Linked link line k q → across other line q ≢ v) →
      Alone other inks link cross line n k v l l w w false

-- every label is at most v
pub record Below (m n : ℕ) (lab : List ℕ) (v : ℕ) : Type 0 where
  pub le : (i : ℕ) → i < m → (k : ℕ) → k < n → along lab i k ≤ v

-- up to which label a crossing may have no run yet in the round that looks for v: 1, the target's, in the first round
abbrev pub floor : ℕ → ℕ
floor v = 2 - v

-- what is joined on a line with a label above b has a label
pub record Joined (link lab : List ℕ) (line n b : ℕ) : Type 0 where
  pub on : (k q : ℕ) → k < n → q < n → Linked link line k q → b < along lab line k → along lab line q ≢ 0

-- and on m lines
pub record Full (link lab : List ℕ) (m n b : ℕ) : Type 0 where
  pub joined : (i : ℕ) → i < m → Joined link lab i n b

-- the marks of a line, two numbers, span its crossing k: the first is as much as `stride` is above the crossing where
-- they begin, the second is the crossing where they end
pub record Spans (marks : List ℕ) (line k : ℕ) : Type 0 where
  pub from : stride ≤ k + get_or marks (2 * line) 0
  pub to : k < get_or marks (2 * line + 1) 0

-- the marks of all lines are such, and end at crossing n at the latest
pub record Marks (marks : List ℕ) (n : ℕ) : Type 0 where
  pub from : (i : ℕ) → get_or marks (2 * i) 0 ≤ stride
  pub to : (i : ℕ) → get_or marks (2 * i + 1) 0 ≤ n

-- and those of m lines with n crossings each span all crossings with the label v
pub record Marked (marks : List ℕ) (m n : ℕ) (lab : List ℕ) (v : ℕ) : Type 0 where
  pub fit : Marks marks n
  pub whole : (i : ℕ) → i < m → (k : ℕ) → k < n → along lab i k ≡ v → Spans marks i k

-- the marks of a line are made to span the crossings lo to hi, hi excluded, c of which have new labels: the marks
-- before and after
pub record Widened (line lo hi c : ℕ) (t₀ t : List ℕ) : Type 0 where
  pub size : length t ≡ length t₀
  pub marks : (n : ℕ) → hi ≤ n → Marks t₀ n → Marks t n
  pub old : (i k : ℕ) → Spans t₀ i k → Spans t i k
  pub new : c ≢ 0 → (k : ℕ) → lo ≤ k → k < hi → Spans t line k

-- r is the first crossing of a line with the label v from the crossing `at` on, or `end`
pub record NextNew (lab : List ℕ) (line at end v r : ℕ) : Type 0 where
  pub le : r ≤ end
  pub before : (j : ℕ) → j < r → at ≤ j → along lab line j ≢ v
  pub found : r < end → (at ≤ r) × (along lab line r ≡ v)

-- s is the sum of a line's labels before crossing k, each of which is 1 at most
pub record Summed (lab : List ℕ) (line k s : ℕ) : Type 0 where
  pub le : s ≤ k
  pub none : s ≡ 0 → (j : ℕ) → j < k → along lab line j ≡ 0

-- crossing k of a line gets the label v + 1, if it has none: the labels before and after, c of which are new
pub data CellFilled (line k v : ℕ) : List ℕ → List ℕ → ℕ → Type 0 where
  stays : {l : List ℕ} → along l line k ≢ 0 → CellFilled line k v l l 0
  puts : {l : List ℕ} → along l line k ≡ 0 → CellFilled line k v l (set l (line * stride + k) (v + 1)) 1

-- a crossing of a run before and after the run gets labels
pub data Fill (v : ℕ) : ℕ → ℕ → Type 0 where
  held : {a : ℕ} → a ≢ 0 → Fill v a a
  fresh : Fill v 0 (v + 1)

-- the crossings lo to k, k excluded, of a line get labels where they have none: the labels before and after, c of which
-- are new, and one that is, if there are any
pub record RunFilled (line lo k v : ℕ) (l₀ l : List ℕ) (c : ℕ) : Type 0 where
  pub size : length l ≡ length l₀
  pub fill : (j : ℕ) → j < k → lo ≤ j → Fill v (along l₀ line j) (along l line j)
  pub low : (i : ℕ) → i < line * stride + lo → get_or l i 0 ≡ get_or l₀ i 0
  pub high : (i : ℕ) → line * stride + k ≤ i → get_or l i 0 ≡ get_or l₀ i 0
  pub count : zeros l + c ≡ zeros l₀
  pub same : c ≡ 0 → l ≡ l₀
  pub new : c ≢ 0 → (j : ℕ) × (lo ≤ j) × (j < k) × (along l₀ line j ≡ 0)

-- the lists of m lines with n crossings each: their labels, inks and links, and the other direction's labels and inks
pub record OneWay (lab own other inks link cross : List ℕ) (m n : ℕ) : Type 0 where
  pub few : m ≤ stride
  pub crossings : Lines cross n
  pub labels : m * stride ≤ length lab
  pub own-inks : m * stride ≤ length own
  pub others : n * stride ≤ length other
  pub other-inks : n * stride ≤ length inks
  pub links : m * stride ≤ length link

-- and those of one line
pub record LineLists (lab own link : List ℕ) (line : ℕ) : Type 0 where
  pub labels : HasLine lab line
  pub own-inks : HasLine own line
  pub links : HasLine link line

-- a visit of crossing k, a stop for the label v; a label above `low` says that its run is done
pub record Visiting (lab other link ahead behind : List ℕ) (line n k v low : ℕ) : Type 0 where
  pub k-in : k < n
  pub stop : across other line k ≡ v
  pub ahead-room : stride ≤ length ahead
  pub behind-room : stride ≤ length behind
  pub low-is : low ≡ floor v
  pub joined : Joined link lab line n (floor v)

-- a pass that looks for the label v, by the marks `from`
pub record Seeking (lab other inks link from : List ℕ) (m n v : ℕ) : Type 0 where
  pub pos : 1 ≤ v
  pub top : v < label_top
  pub few : length lab ≤ area
  pub lean : Lean n m other inks
  pub marked : Marked from n m other v
  pub full : Full link lab m n (floor v)

-- the lists that it works with: those marks, the marks that it makes, and what the two sweeps leave
pub record PassRoom (from marks ahead behind : List ℕ) (n : ℕ) : Type 0 where
  pub from-room : 2 * stride ≤ length from
  pub marks-room : 2 * stride ≤ length marks
  pub marks-fit : Marks marks n
  pub ahead-room : stride ≤ length ahead
  pub behind-room : stride ≤ length behind

-- a visit of crossing k of a line: its run, lo to hi, gets inks and labels, c of which are new, or there is none: its
-- label says that this was done, or it is left to the visit of a crossing before it
pub data Visit (other inks link cross : List ℕ) (line n k v : ℕ)
    : List ℕ → List ℕ → List ℕ → List ℕ → Option Run → Type 0 where
  passed : {l w : List ℕ} → floor v < along l line k → Visit other inks link cross line n k v l l w w None
  left : {l w : List ℕ} → Left other link line k v → Visit other inks link cross line n k v l l w w None
  ran : {l₀ l w₀ w : List ℕ} {lo hi c : ℕ} → RunStart link line k lo → RunEnd link line n k hi →
      RunInked other inks cross line v lo hi hi l₀ w₀ w → RunFilled line lo hi v l₀ l c →
      Visit other inks link cross line n k v l₀ l w₀ w (Some (record { lo = lo; hi = hi; new = c }))

-- all that is joined with crossing k of a line has a label, or that is left to the visit of a crossing before it
pub data Done (other link : List ℕ) (line n v : ℕ) (l : List ℕ) (k : ℕ) : Type 0 where
  labelled : ((q : ℕ) → q < n → Linked link line k q → along l line q ≢ 0) → Done other link line n v l k
  waits : Left other link line k v → Done other link line n v l k

-- a crossing of m lines with n crossings each had no label, and has the label v + 1: the labels before and after
pub record NewLabel (m n v : ℕ) (l₀ l : List ℕ) : Type 0 where
  pub line : ℕ
  pub k : ℕ
  pub line-in : line < m
  pub k-in : k < n
  pub was : along l₀ line k ≡ 0
  pub is : along l line k ≡ v + 1

-- the crossings with the label v before place p of the other direction's labels are visited: what that did to the
-- labels, c of which are new
pub record Visited (other link : List ℕ) (m n v p : ℕ) (l₀ l : List ℕ) (c : ℕ) : Type 0 where
  pub size : length l ≡ length l₀
  pub part : (i : ℕ) → i < m → (k : ℕ) → k < n → Part other link i n v k (along l₀ i k) (along l i k)
  pub did : (i : ℕ) → i < m → (k : ℕ) → k < n → k * stride + i < p → across other i k ≡ v → Done other link i n v l k
  pub count : zeros l + c ≡ zeros l₀
  pub same : c ≡ 0 → l ≡ l₀
  pub new : c ≢ 0 → NewLabel m n v l₀ l
  pub full : Full link l m n (floor v)

-- the marks span the crossings that got labels
pub record Spanned (marks : List ℕ) (m n : ℕ) (l₀ l : List ℕ) : Type 0 where
  pub fit : Marks marks n
  pub whole : (i : ℕ) → i < m → (k : ℕ) → k < n → along l₀ i k ≡ 0 → along l i k ≢ 0 → Spans marks i k

-- a pass up to place p of the other direction's labels: labels and inks before and after, the marks and the number of
-- new labels then
pub record PassTo (other inks link cross : List ℕ) (m n v p : ℕ) (l₀ l w₀ w t : List ℕ) (c : ℕ) : Type 0 where
  pub visited : Visited other link m n v p l₀ l c
  pub inked : Inked other inks link cross m n v l₀ l w₀ w
  pub spanned : Spanned t m n l₀ l
