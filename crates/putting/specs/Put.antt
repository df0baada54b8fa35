-- Bytes written at a place of a lent list.
use Rattle.std.specs.Prelude.{ℕ, ◌+◌, ◌≤◌, ◌≡◌, List, ◌++◌, length, take, drop}

-- the bytes stand in what was `old` from place `at` on, the rest is as it was, and r is the place after them
pub record Put (old : List ℕ) (at : ℕ) (bytes new : List ℕ) (r : ℕ) : Type 0 where
  pub fits : at + length bytes ≤ length old
  pub is : new ≡ take at old ++ bytes ++ drop (at + length bytes) old
  pub next : r ≡ at + length bytes
