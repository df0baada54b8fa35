-- What a search for a join asks for, in the ledger's words.
use Rattle.std.specs.Prelude.{ℕ, ◌≤◌, ◌≡◌, true, List, map, length}
use Rattle.foil_spec.specs.Lists.{range, all}
use Rattle.foil_spec.specs.Foil.{Point, Pen, Layout, pen_rule, entry_ok}
use Rattle.foil_spec.specs.Nets.{legs_of}
use Rattle.foil_spec.specs.Ledger.{free_for}
use Rattle.foil_spec.specs.Lent.{entry_at, layout_of}
use Rattle.zones.specs.Boxes.{Zoned}
use Rattle.zones.specs.Table.{Table}
use Rattle.tables.specs.Rows.{rows_of}

-- the net's legs, of the first n entries of the table t, stand in the rows, and j counts them
pub record Own (rows t : List ℕ) (net n j : ℕ) : Type 0 where
  pub is : rows ≡ rows_of (legs_of net (map (entry_at t) (range 0 n)))
  pub counted : j ≡ length (legs_of net (map (entry_at t) (range 0 n)))
  pub few : j ≤ n

-- the first n entries of a table that keep the rules, on a foil of w by h with the pen p
pub record Known (t : List ℕ) (n : ℕ) (p : Pen) (w h : ℕ) : Type 0 where
  pub table : Table t n (pen_rule p) w h
  pub entries : all (entry_ok w h) (map (entry_at t) (range 0 n)) ≡ true

-- and a point that is free for the net
pub record Asked (t : List ℕ) (n : ℕ) (p : Pen) (w h net : ℕ) (S : Point) : Type 0 where
  pub known : Known t n p w h
  pub s-free : free_for net (layout_of w h p n t) S.x S.y ≡ true

-- the first n boxes of the table z are what the other nets and the edge block, and the first k entries of the table t
-- are the net's legs
pub record Sought (l : Layout) (net : ℕ) (z : List ℕ) (n : ℕ) (t : List ℕ) (k : ℕ) : Type 0 where
  pub zones : Zoned (free_for net l) l.width l.height z n
  pub legs : map (entry_at t) (range 0 k) ≡ legs_of net l.entries
