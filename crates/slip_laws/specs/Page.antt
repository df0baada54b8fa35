-- What a packer reads on a slip, column by column, as it is stated.
use Rattle.std.specs.Prelude.{ℕ, ◌+◌, ◌-◌, ◌*◌, ◌^◌, ◌≤◌, ◌<◌, ◌≡◌, true, List, ltb, length, get_or, take, drop}
use Rattle.foil_spec.specs.Limits.{max_entries}
use Rattle.foil_spec.specs.Foil.{Point, Layout}
use Rattle.foil_spec.specs.Nets.{in_use, legs_of, net_length, first_point}
use Rattle.foil_spec.specs.Text.{decimal}
use Rattle.foil_spec.specs.Slip.{slip_of}
use Rattle.foil_spec.specs.Lent.{layout_ok}
use Rattle.list_laws.specs.Members.{In, Sorted}

-- the character in a column of a line; the first column is 1
unfoldable pub character : List ℕ → ℕ → ℕ
character line column = get_or line (column - 1) 0

-- the columns a to b are blank
pub record Spaces (line : List ℕ) (a b : ℕ) : Type 0 where
  pub blank : (k : ℕ) → a ≤ k → k ≤ b → character line k ≡ 32

-- the number stands in the columns a to b: all its digits are there, the last in column b, and blanks before them
pub record Stands (line : List ℕ) (a b n : ℕ) : Type 0 where
  pub fits : a + length (decimal n) ≤ b + 1
  pub digits : (i : ℕ) → i < length (decimal n)
      → character line (b + 1 - length (decimal n) + i) ≡ get_or (decimal n) i 0
  pub before : Spaces line a (b - length (decimal n))

-- a line of 32 characters and a line feed, with these numbers in their columns and every other column blank
pub record LineRight (line : List ℕ) (net legs len : ℕ) (p : Point) : Type 0 where
  pub long : length line ≡ 33
  pub net-stands : Stands line 1 3 net
  pub legs-stand : Stands line 6 8 legs
  pub length-stands : Stands line 11 16 len
  pub x-stands : Stands line 19 22 p.x
  pub y-stands : Stands line 25 28 p.y
  pub gap-1 : Spaces line 4 5
  pub gap-2 : Spaces line 9 10
  pub gap-3 : Spaces line 17 18
  pub gap-4 : Spaces line 23 24
  pub rest : Spaces line 29 32
  pub feed : character line 33 ≡ 10

-- the line has a net's numbers: its legs, their steps, and x0 and y0 of its first entry
abbrev pub NetRight : Layout → ℕ → List ℕ → Type 0
NetRight l net line =
    LineRight line net (length (legs_of net l.entries)) (net_length net l) (first_point (legs_of net l.entries))

-- a page of 33 bytes for each of the nets, which rise, each once, and are just those of tracks on the foil
pub record PageRight (l : Layout) (nets page : List ℕ) : Type 0 where
  pub rising : Sorted ltb nets
  pub on-foil : (net : ℕ) → In net nets → (1 ≤ net) × (in_use net l.entries ≡ true)
  pub listed : (net : ℕ) → 1 ≤ net → in_use net l.entries ≡ true → In net nets
  pub few : length nets ≤ max_entries
  pub bytes : length page ≡ 33 * length nets
  pub lines : (i : ℕ) → i < length nets → NetRight l (get_or nets i 0) (take 33 (drop (33 * i) page))

-- the slip of every foil is such a page
abbrev pub SlipsRight : Type 0
SlipsRight = (l : Layout) → layout_ok l ≡ true → (nets : List ℕ) × PageRight l nets (slip_of l)

-- numbers that are not too wide for their columns
pub record Narrow (net legs len : ℕ) (p : Point) : Type 0 where
  pub net-below : net < 10 ^ 3
  pub legs-below : legs < 10 ^ 3
  pub length-below : len < 10 ^ 6
  pub x_below : p.x < 10 ^ 4
  pub y-below : p.y < 10 ^ 4

-- so are those of a net
abbrev pub NarrowNet : Layout → ℕ → Type 0
NarrowNet l net =
    Narrow net (length (legs_of net l.entries)) (net_length net l) (first_point (legs_of net l.entries))

-- no number that a foil can hold is too wide for its columns
abbrev pub NoneTooWide : Type 0
NoneTooWide = (l : Layout) (net : ℕ) → layout_ok l ≡ true → 1 ≤ net → net ≤ 999 → NarrowNet l net
