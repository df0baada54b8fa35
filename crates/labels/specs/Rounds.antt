-- The rounds of the search on a grid with nc columns and nr rows: a level label of column i and row j stands at
-- j * stride + i, an upright one at i * stride + j; 0 is no label, and targets have the label 1 in both lists.
use Rattle.std.specs.Prelude.{ℕ, ◌+◌, ◌*◌, ◌≤◌, ◌<◌, ◌≡◌, ◌≢◌, ◌⊎◌, Bool, true, false, List, length}
use Rattle.grid.specs.Size.{stride, area}
use Rattle.grid.specs.Lines.{Lines}
use Rattle.runs.specs.Line.{along, label_top}
use Rattle.runs.specs.Ink.{Inked, Lean}
use Rattle.labels.specs.Pass.{Cell, Pass, Parts, Below}

-- the grid's lines, and the sizes of its lists: labels l and u, inks wl and wu, links kl and ku, level and upright
pub record Sized (l u wl wu kl ku cols rows : List ℕ) (nc nr : ℕ) : Type 0 where
  pub column-lines : Lines cols nc
  pub row-lines : Lines rows nr
  pub level : nr * stride ≤ length l
  pub upright : nc * stride ≤ length u
  pub level-inks : nr * stride ≤ length wl
  pub upright-inks : nc * stride ≤ length wu
  pub level-links : nr * stride ≤ length kl
  pub upright-links : nc * stride ≤ length ku

-- a crossing has the label 1 in both lists or in none
pub record Twin (l u : List ℕ) (nc nr : ℕ) : Type 0 where
  pub level : (i : ℕ) → i < nr → (k : ℕ) → k < nc → along l i k ≡ 1 → along u k i ≡ 1
  pub upright : (i : ℕ) → i < nc → (k : ℕ) → k < nr → along u i k ≡ 1 → along l k i ≡ 1

-- before the first round only the targets have labels, and the lists of labels are no larger than the grid may be
pub record Begun (l u wl wu : List ℕ) (nc nr : ℕ) : Type 0 where
  pub twin : Twin l u nc nr
  pub level-low : Below nr nc l 1
  pub upright-low : Below nc nr u 1
  pub level-lean : Lean nr nc l wl
  pub upright-lean : Lean nc nr u wu
  pub level-few : length l ≤ area
  pub upright-few : length u ≤ area

-- after some rounds, the next of which looks for the label v: labels l and u, inks wl and wu
pub data Rounds (kl ku cols rows : List ℕ) (nc nr : ℕ) (l₀ u₀ wl₀ wu₀ : List ℕ)
    : ℕ → List ℕ → List ℕ → List ℕ → List ℕ → Type 0 where
  start : Rounds kl ku cols rows nc nr l₀ u₀ wl₀ wu₀ 1 l₀ u₀ wl₀ wu₀
  more : {v : ℕ} {l u wl wu l' u' wl' wu' : List ℕ} → Rounds kl ku cols rows nc nr l₀ u₀ wl₀ wu₀ v l u wl wu →
      Pass u kl nr nc v l l' → Inked u wu kl cols nr nc v l l' wl wl' →
      Pass l' ku nc nr v u u' → Inked l' wl' ku rows nc nr v u u' wu wu' →
      Rounds kl ku cols rows nc nr l₀ u₀ wl₀ wu₀ (v + 1) l' u' wl' wu'

-- whatever rounds lead to, all labels are below the largest
pub record Shallow (kl ku cols rows : List ℕ) (nc nr : ℕ) (l₀ u₀ wl₀ wu₀ : List ℕ) : Type 0 where
  pub level : {v : ℕ} {l u wl wu : List ℕ} → Rounds kl ku cols rows nc nr l₀ u₀ wl₀ wu₀ v l u wl wu →
      (j : ℕ) → j < nr → (i : ℕ) → i < nc → along l j i < label_top
  pub upright : {v : ℕ} {l u wl wu : List ℕ} → Rounds kl ku cols rows nc nr l₀ u₀ wl₀ wu₀ v l u wl wu →
      (i : ℕ) → i < nc → (j : ℕ) → j < nr → along u i j < label_top

-- what is known before the last round is tried for the crossing of column i and row j
pub record Trying (l u wl wu : List ℕ) (nc nr i j v : ℕ) : Type 0 where
  pub i-in : i < nc
  pub j-in : j < nr
  pub pos : 1 ≤ v
  pub top : v < label_top
  pub level-lean : Lean nr nc l wl
  pub upright-lean : Lean nc nr u wu

-- the last round, which looks for the label v: the crossing of column i and row j gets what a round gives it, and any
-- other that or nothing
pub record Last (kl ku cols rows : List ℕ) (nc nr i j v : ℕ) (l₀ u₀ wl₀ wu₀ l u wl wu : List ℕ) : Type 0 where
  pub level : Parts u₀ kl nr nc v l₀ l
  pub level-inks : Inked u₀ wu₀ kl cols nr nc v l₀ l wl₀ wl
  pub level-here : Cell u₀ kl j nc v i (along l₀ j i) (along l j i)
  pub upright : Parts l ku nc nr v u₀ u
  pub upright-inks : Inked l wl ku rows nc nr v u₀ u wu₀ wu
  pub upright-here : Cell l ku i nr v j (along u₀ i j) (along u i j)
  pub some : (along l j i ≢ 0) ⊎ (along u i j ≢ 0)

-- whether the round that looks for the label v is the last: labels and inks before and after
pub data Tried (kl ku cols rows : List ℕ) (nc nr i j v : ℕ)
    : List ℕ → List ℕ → List ℕ → List ℕ → List ℕ → List ℕ → List ℕ → List ℕ → Bool → Type 0 where
  reached : {l₀ u₀ wl₀ wu₀ l u wl wu : List ℕ} → Last kl ku cols rows nc nr i j v l₀ u₀ wl₀ wu₀ l u wl wu →
      Tried kl ku cols rows nc nr i j v l₀ u₀ wl₀ wu₀ l u wl wu true
  missed : {l u wl wu : List ℕ} → along l j i ≡ 0 → along u i j ≡ 0 →
      Tried kl ku cols rows nc nr i j v l u wl wu l u wl wu false

-- the crossing of column i and row j has a label after a last round, or it has none and a round changes nothing
pub data Ended (kl ku cols rows : List ℕ) (nc nr i j : ℕ) (l₀ u₀ wl₀ wu₀ : List ℕ)
    : List ℕ → List ℕ → List ℕ → List ℕ → Bool → Type 0 where
  found : {v : ℕ} {l u wl wu l' u' wl' wu' : List ℕ} → v < label_top →
      Rounds kl ku cols rows nc nr l₀ u₀ wl₀ wu₀ v l u wl wu →
      Last kl ku cols rows nc nr i j v l u wl wu l' u' wl' wu' →
      Ended kl ku cols rows nc nr i j l₀ u₀ wl₀ wu₀ l' u' wl' wu' true
  stuck : {v : ℕ} {l u wl wu wl' wu' : List ℕ} → Rounds kl ku cols rows nc nr l₀ u₀ wl₀ wu₀ v l u wl wu →
      along l j i ≡ 0 → along u i j ≡ 0 → Pass u kl nr nc v l l → Pass l ku nc nr v u u →
      Ended kl ku cols rows nc nr i j l₀ u₀ wl₀ wu₀ l u wl' wu' false
