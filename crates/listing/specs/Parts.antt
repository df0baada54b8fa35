-- What the parts of a list of nets are asked and say.
use Rattle.std.specs.Prelude.{ℕ, ◌+◌, ◌*◌, ◌≤◌, ◌≡◌, true, false, List, map, ◌++◌, length, take, drop}
use Rattle.foil_spec.specs.Lists.{range, each, any}
use Rattle.foil_spec.specs.Limits.{max_entries}
use Rattle.foil_spec.specs.Ledger.{Room, short, Step, lay, Answer, After}
use Rattle.foil_spec.specs.Lent.{Lent, lent, sound, step_on, over_front, numbers_out}
use Rattle.foil_spec.specs.Wishes.{wish_at}
use Rattle.foil_spec.specs.Calls.{act_each}
use Rattle.foil_spec.specs.declared.Board.{Board}
use Rattle.listing.specs.Contract.{place_numbers, answer_numbers, took}
use Rattle.listing.specs.declared.InNumbers.{InNumbers}
use Rattle.listing.specs.declared.Wish.{Wish}
use Rattle.listing.specs.declared.Listed.{Listed}

-- the lay that is wished
unfoldable pub lay_of : Wish → Step
lay_of w = lay w.net w.from w.to

-- the numbers fit into a list of 16 bits each
pub record Fits (n : InNumbers) : Type 0 where
  pub corners : n.corners ≤ 65535
  pub bends : n.bends ≤ 65535

-- the list a with the numbers n at place i is a'
pub record PutAt (a : List ℕ) (i : ℕ) (n : InNumbers) (a' : List ℕ) : Type 0 where
  pub is : a' ≡ take (i * 3) a ++ (place_numbers n ++ drop (i * 3 + 3) a)

-- the first i wishes, laid in the room r on m
abbrev pub laid_to : Room → List ℕ → ℕ → Lent → After (List Answer) Lent
laid_to r ws i m = act_each step_on r (map (wish_at ws) (range 0 i)) m

-- lays that did a were lent the corner list out and the answers' list ans: they left d, the record b, the table t, the
-- strips s and these lists as out' and ans'
pub record LaidBy (a : After (List Answer) Lent) (out ans : List ℕ) (d : Listed) (b : Board) (t s out' ans' : List ℕ)
    : Type 0 where
  pub state : lent b t s ≡ a.state
  pub used : d.used ≡ length (each numbers_out a.answer)
  pub laid : d.laid ≡ any took a.answer
  pub output : out' ≡ over_front (each numbers_out a.answer) out
  pub answers : ans' ≡ over_front (each answer_numbers a.answer) ans

-- net i may be laid after those before it have left d, the record b, the table t, the strips s, and the lists out and
-- ans
pub record MayLay (limit : ℕ) (ws : List ℕ) (i : ℕ) (d : Listed) (b : Board) (t s out ans : List ℕ) : Type 0 where
  pub keeps : sound (lent b t s) ≡ true
  pub few : limit ≤ max_entries
  pub used : d.used ≤ length out
  pub wish : i * 5 + 5 ≤ length ws
  pub place : i * 3 + 3 ≤ length ans

-- with net i the nets up to it have left d', b', t', s', out' and ans'
pub record GoesOn (limit : ℕ) (ws : List ℕ) (i : ℕ) (d : Listed) (b : Board) (t s out ans : List ℕ) (d' : Listed)
    (b' : Board) (t' s' out' ans' : List ℕ) : Type 0 where
  pub is : (r : Room) (m : Lent) (out₀ ans₀ : List ℕ) → short r ≡ false → r.limit ≡ limit → r.output ≡ length out₀
      → length out ≡ length out₀ → LaidBy (laid_to r ws i m) out₀ ans₀ d b t s out ans
      → LaidBy (laid_to r ws (i + 1) m) out₀ ans₀ d' b' t' s' out' ans'
