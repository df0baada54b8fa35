-- The links of the lines that run along one axis: place line * stride + i has 1 where the line is free from its
-- crossing i to the next one.
use Rattle.std.specs.Prelude.{ℕ, suc, ◌+◌, ◌*◌, ◌≤◌, ◌<◌, Bool, List, ◌≡◌, get_or, length}
use Rattle.foil_spec.specs.Lent.{entry_at}
use Rattle.course_laws.specs.Course.{Span}
use Rattle.grid.specs.Size.{stride}
use Rattle.grid.specs.Extent.{Misses}
use Rattle.grid.specs.Lines.{Lines}

-- m lines with n crossings each, and room for their links
pub record Crossed (lines : List ℕ) (m : ℕ) (cross : List ℕ) (n : ℕ) (link : List ℕ) : Type 0 where
  pub along : Lines lines m
  pub across : Lines cross n
  pub room : m * stride ≤ length link

-- the links lo to hi, hi excluded, of the lines a to b, b excluded, are cut
pub record Block (a b lo hi : ℕ) (e₀ e : List ℕ) : Type 0 where
  pub size : length e ≡ length e₀
  pub cut : (j : ℕ) → j < b → a ≤ j → (i : ℕ) → lo ≤ i → i < hi → get_or e (j * stride + i) 0 ≡ 0
  pub kept : (j i : ℕ) → i < stride → (j < b → a ≤ j → lo ≤ i → i < hi → ⊥) →
      get_or e (j * stride + i) 0 ≡ get_or e₀ (j * stride + i) 0

-- r is the first of n lines at v or after it, or n
pub record FirstFrom (lines : List ℕ) (n v r : ℕ) : Type 0 where
  pub le : r ≤ n
  pub low : (k : ℕ) → k < r → get_or lines k 0 < v
  pub high : (k : ℕ) → r ≤ k → k < n → v ≤ get_or lines k 0

-- a link before and after a box is painted, where M says that the box misses it
pub data Paint (M : Type 0) : ℕ → ℕ → Type 0 where
  hit : {v : ℕ} → (M → ⊥) → Paint M v 0
  missed : {v : ℕ} → M → Paint M v v

module _ (z : List ℕ) (upright : Bool) (lines : List ℕ) where
  -- box k of a table misses the link of line j from crossing i to the next one
  abbrev pub Missed : List ℕ → ℕ → ℕ → ℕ → Type 0
  Missed cross k j i = Misses upright (entry_at z k) (get_or lines j 0) (get_or cross i 0) (get_or cross (suc i) 0)

  module _ (m : ℕ) (cross : List ℕ) (n : ℕ) where
    -- box k is painted: the links before and after
    pub record BoxPainted (k : ℕ) (e₀ e : List ℕ) : Type 0 where
      pub size : length e ≡ length e₀
      pub link : (j : ℕ) → j < m → (i : ℕ) → suc i < n →
          Paint (Missed cross k j i) (get_or e₀ (j * stride + i) 0) (get_or e (j * stride + i) 0)

    -- the first k boxes are painted: a link has 1 exactly if they all miss it
    pub record Painted (k : ℕ) (e : List ℕ) : Type 0 where
      pub free : (j : ℕ) → j < m → (i : ℕ) → suc i < n → get_or e (j * stride + i) 0 ≡ 1 →
          (b : ℕ) → b < k → Missed cross b j i
      pub one : (j : ℕ) → j < m → (i : ℕ) → suc i < n → ((b : ℕ) → b < k → Missed cross b j i) →
          get_or e (j * stride + i) 0 ≡ 1

-- link i of line j has 1 exactly if the line is free from crossing i to the next one
pub record Links (f : ℕ → ℕ → Bool) (cross : List ℕ) (n : ℕ) (lines : List ℕ) (m : ℕ) (e : List ℕ) : Type 0 where
  pub span : (j i : ℕ) → j < m → suc i < n → get_or e (j * stride + i) 0 ≡ 1 →
      Span f (get_or lines j 0) (get_or cross i 0) (get_or cross (suc i) 0)
  pub one : (j i : ℕ) → j < m → suc i < n → Span f (get_or lines j 0) (get_or cross i 0) (get_or cross (suc i) 0) →
      get_or e (j * stride + i) 0 ≡ 1
