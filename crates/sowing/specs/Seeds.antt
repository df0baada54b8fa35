-- The labels before the first round: those of the targets.
use Rattle.std.specs.Prelude.{ℕ, ◌+◌, ◌*◌, ◌≤◌, ◌<◌, ◌≡◌, Bool, true, false, not, ◌&&◌, ◌||◌, List, map, ltb, get_or, length}
use Rattle.foil_spec.specs.Lists.{range, any}
use Rattle.foil_spec.specs.Foil.{Entry}
use Rattle.foil_spec.specs.Lent.{entry_at}
use Rattle.zones.specs.Boxes.{inside, covers, Boxes}
use Rattle.grid.specs.Size.{stride, area}
use Rattle.grid.specs.Extent.{turned, Solid}
use Rattle.grid.specs.Lines.{Lines}
use Rattle.runs.specs.Line.{along}

-- no crossing has a label
abbrev pub Unlabelled : List ℕ → Type 0
Unlabelled lab = (p : ℕ) → get_or lab p 0 ≡ 0

-- one of the first k boxes of the table t has the point (x, y), or (y, x) if upright
unfoldable pub boxed : ℕ → List ℕ → Bool → ℕ → ℕ → Bool
boxed k t upright x y = any (λ (e : Entry). turned upright (covers e) x y) (map (entry_at t) (range 0 k))

-- two boxes that are not empty have a point in common
unfoldable pub overlap : Entry → Entry → Bool
overlap a b = ltb a.x0 b.x1 && ltb b.x0 a.x1 && ltb a.y0 b.y1 && ltb b.y0 a.y1

-- of the first n boxes of the table z the first r tell which points of the box e are in one of them
pub record Enough (n : ℕ) (z : List ℕ) (e : Entry) (r : ℕ) : Type 0 where
  pub le : r ≤ n
  pub same : (upright : Bool) (x y : ℕ) → turned upright (covers e) x y ≡ true
      → boxed r z upright x y ≡ boxed n z upright x y

-- a test of crossings, line first: on m lines with n crossings each, those that pass it have the label 1 and the ink 0,
-- and all others have no label
pub record Sown (on : ℕ → ℕ → Bool) (m n : ℕ) (lab inks : List ℕ) : Type 0 where
  pub one : (i : ℕ) → i < m → (c : ℕ) → c < n → on i c ≡ true → (along lab i c ≡ 1) × (along inks i c ≡ 0)
  pub rest : (i : ℕ) → i < m → (c : ℕ) → c < n → on i c ≡ false → along lab i c ≡ 0
  pub labels-fit : m * stride ≤ length lab
  pub labels-few : length lab ≤ area
  pub inks-fit : m * stride ≤ length inks
  pub lines-few : m ≤ stride
  pub crossings-few : n ≤ stride

-- one test or the other
abbrev pub or_else : (ℕ → ℕ → Bool) → (ℕ → ℕ → Bool) → ℕ → ℕ → Bool
or_else f g i c = f i c || g i c

-- labels and inks before and after the crossings that pass the test are sown
pub record Sows (new : ℕ → ℕ → Bool) (m n : ℕ) (l₀ w₀ l w : List ℕ) : Type 0 where
  pub sown : (on : ℕ → ℕ → Bool) → Sown on m n l₀ w₀ → Sown (or_else on new) m n l w

-- the crossing is on one of the lines a to b, b excluded, from lo to hi, hi excluded, and passes the test
unfoldable pub in_block : (a b lo hi : ℕ) → (ℕ → ℕ → Bool) → ℕ → ℕ → Bool
in_block a b lo hi test i c = inside a b i && inside lo hi c && test i c

-- these are sown, on all lines that there are
pub record BlockSown (a b lo hi : ℕ) (test : ℕ → ℕ → Bool) (l₀ w₀ l w : List ℕ) : Type 0 where
  pub sows : (m n : ℕ) → b ≤ m → hi ≤ n → Sows (in_block a b lo hi test) m n l₀ w₀ l w

-- there are lines and crossings for them, and the labels are sown
pub record Sowable (b hi : ℕ) (l w : List ℕ) : Type 0 where
  pub m : ℕ
  pub n : ℕ
  pub on : ℕ → ℕ → Bool
  pub sown : Sown on m n l w
  pub lines-in : b ≤ m
  pub crossings-in : hi ≤ n

-- what is asked to sow what n boxes of the table z leave free of a block, the crossings lo to hi, hi excluded, of the
-- lines a to b, b excluded
pub record BlockAsked (z : List ℕ) (n : ℕ) (lines cross : List ℕ) (a b lo hi : ℕ) (l w : List ℕ) : Type 0 where
  pub boxes : n * 5 ≤ length z
  pub lines-there : b ≤ length lines
  pub crossings-there : hi ≤ length cross
  pub lines-order : a ≤ b
  pub crossings-order : lo ≤ hi
  pub sowable : Sowable b hi l w

-- of a target box, place e of the table t, on m lines with c crossings each
pub record BoxAsked (z : List ℕ) (n : ℕ) (t : List ℕ) (e : ℕ) (lines : List ℕ) (m : ℕ) (cross : List ℕ) (c : ℕ)
    (l w : List ℕ) : Type 0 where
  pub boxes : n * 5 ≤ length z
  pub target : e * 5 + 5 ≤ length t
  pub solid : Solid (entry_at t e)
  pub along-lines : Lines lines m
  pub along-cross : Lines cross c
  pub on : ℕ → ℕ → Bool
  pub sown : Sown on m c l w

-- and of the first k target boxes, where there is no label yet
pub record TargetsAsked (z : List ℕ) (n : ℕ) (t : List ℕ) (k : ℕ) (lines : List ℕ) (m : ℕ) (cross : List ℕ) (c : ℕ)
    (l w : List ℕ) : Type 0 where
  pub boxes : n * 5 ≤ length z
  pub width : ℕ
  pub height : ℕ
  pub targets : Boxes t k width height
  pub along-lines : Lines lines m
  pub along-cross : Lines cross c
  pub blank : Sown (λ i c. false) m c l w

-- the first n boxes of the table z leave crossing c of line i free
unfoldable pub clear_at : (n : ℕ) (z : List ℕ) (upright : Bool) (lines cross : List ℕ) → ℕ → ℕ → Bool
clear_at n z upright lines cross i c = not (boxed n z upright (get_or cross c 0) (get_or lines i 0))

-- and one of the first k boxes of the table t has it
unfoldable pub aimed_at : (n : ℕ) (z : List ℕ) (k : ℕ) (t : List ℕ) (upright : Bool) (lines cross : List ℕ) → ℕ → ℕ
    → Bool
aimed_at n z k t upright lines cross i c =
    boxed k t upright (get_or cross c 0) (get_or lines i 0) && clear_at n z upright lines cross i c

-- the box e has it
unfoldable pub aimed_one : (n : ℕ) (z : List ℕ) (e : Entry) (upright : Bool) (lines cross : List ℕ) → ℕ → ℕ → Bool
aimed_one n z e upright lines cross i c =
    turned upright (covers e) (get_or cross c 0) (get_or lines i 0) && clear_at n z upright lines cross i c
