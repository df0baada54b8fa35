-- Which way the first path goes from the crossing of column i and row j, by its labels l and u and its inks wl and wu.
use Rattle.std.specs.Prelude.{ℕ, ◌+◌, ◌*◌, ◌≤◌, ◌<◌, ◌≡◌, ◌≢◌, ◌⊎◌, Bool, true, false, List, length}
use Rattle.grid.specs.Size.{stride}
use Rattle.grid.specs.Lines.{Lines}
use Rattle.runs.specs.Line.{along, label_top, Stop}
use Rattle.runs.specs.Ink.{Low}

-- the lists have room for the crossing of column i and row j, and for the lines through it
pub record Crossing (l u wl wu ku rows : List ℕ) (nr i j : ℕ) : Type 0 where
  pub lines : Lines rows nr
  pub i-in : i < stride
  pub j-in : j < nr
  pub level : nr * stride ≤ length l
  pub upright : i * stride + stride ≤ length u
  pub level-inks : nr * stride ≤ length wl
  pub upright-inks : i * stride + stride ≤ length wu
  pub upright-links : i * stride + stride ≤ length ku

-- the crossing has a label, and the inks of the upright line's stops are small
pub record Choosing (l u wl : List ℕ) (nr i j : ℕ) : Type 0 where
  pub some : (along l j i ≢ 0) ⊎ (along u i j ≢ 0)
  pub top : along l j i ≤ label_top
  pub low : (v : ℕ) → 1 ≤ v → Low l wl i nr v

-- what `starts_upright` and `start_at` are asked
pub record ChoiceAsked (l u wl wu ku rows : List ℕ) (nr i j : ℕ) : Type 0 where
  pub room : Crossing l u wl wu ku rows nr i j
  pub choosing : Choosing l u wl nr i j

-- true is upright first; where both ways need as many segments, the inks decide, and where these are equal, the first
-- stop of the upright one
pub data Choice (l u wl wu ku rows : List ℕ) (nr i j : ℕ) : Bool → Type 0 where
  level-only : along l j i ≢ 0 → (along u i j ≡ 0) ⊎ (along l j i < along u i j)
      → Choice l u wl wu ku rows nr i j false
  upright-only : along u i j ≢ 0 → (along l j i ≡ 0) ⊎ (along u i j < along l j i)
      → Choice l u wl wu ku rows nr i j true
  level-less : along l j i ≢ 0 → along l j i ≡ along u i j → along wl j i < along wu i j
      → Choice l u wl wu ku rows nr i j false
  upright-less : along l j i ≢ 0 → along l j i ≡ along u i j → along wu i j < along wl j i
      → Choice l u wl wu ku rows nr i j true
  here : along l j i ≡ 1 → along u i j ≡ 1 → Choice l u wl wu ku rows nr i j false
  tie-level : (v r : ℕ) → 1 ≤ v → along l j i ≡ v + 1 → along u i j ≡ v + 1 → along wl j i ≡ along wu i j
      → Stop l wl ku rows i nr j v (along wu i j) r → j ≤ r → Choice l u wl wu ku rows nr i j false
  tie-upright : (v r : ℕ) → 1 ≤ v → along l j i ≡ v + 1 → along u i j ≡ v + 1 → along wl j i ≡ along wu i j
      → Stop l wl ku rows i nr j v (along wu i j) r → r < j → Choice l u wl wu ku rows nr i j true
