-- Bytes that a program writes part by part.
use Rattle.std.specs.Prelude.{ℕ, ◌+◌, ◌^◌, ◌≤◌, ◌<◌, ◌≡◌, List, length, take, drop}

-- the first n bytes of a list are the next ones of `all`, of which so many are written; a count of 64 bits holds them
pub record NextOf (all : List ℕ) (written : ℕ) (list : List ℕ) (n : ℕ) : Type 0 where
  pub there : n ≤ length list
  pub bytes : take n (drop written all) ≡ take n list
  pub counted : written + n < 2 ^ 64
