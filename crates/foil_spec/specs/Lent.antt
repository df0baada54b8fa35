-- The foil as it is lent, a record and flat lists of numbers, and what each step does to it and to an output list.
use Rattle.std.specs.Prelude.{ℕ, ◌+◌, ◌*◌, ◌-◌, ◌/◌, Bool, not, List, [], ◌++◌, map, length, get_or, drop}
use Rattle.foil_spec.specs.Lists.{range, each}
use Rattle.foil_spec.specs.Limits.{max_entries, table_size, strips_size}
use Rattle.foil_spec.specs.Foil.{entry_numbers, Pen, pen, Layout}
use Rattle.foil_spec.specs.Strips.{Strip}
use Rattle.foil_spec.specs.Corners.{point_numbers}
use Rattle.foil_spec.specs.Sound.{today, keeps_asked, sound_by}
unfoldable pub use Rattle.foil_spec.specs.Sound.{entry_at, strip_numbers, written, same_numbers}
use Rattle.foil_spec.specs.Ledger.{strips_of, Room, with_output, Step, says, next, After, settle, refusal_of}
use Rattle.foil_spec.specs.Ledger.{Answer, refused, accepted, laid, found, wrote, booked}
use Rattle.foil_spec.specs.declared.Board.{Board}

-- what is lent of a foil: the board's record, the patch table and the strip list
pub record Lent : Type 0 where
  pub board : Board
  pub table : List ℕ
  pub strips : List ℕ

-- the same from its three parts
abbrev pub lent : Board → List ℕ → List ℕ → Lent
lent b t s = record { board = b; table = t; strips = s }

-- the numbers in front, and after them what stood there
unfoldable pub over_front : List ℕ → List ℕ → List ℕ
over_front ns old = ns ++ drop (length ns) old

-- the record of a layout
unfoldable pub board_of : Layout → Board
board_of l =
    record {
      width = l.width;
      height = l.height;
      half = l.pen.half;
      gap = l.pen.gap;
      entries = length l.entries;
      strips = length (strips_of l);
    }

-- a layout's record, its entries and its strips, written into what is lent
unfoldable pub store : Layout → Lent → Lent
store l m =
    record {
      board = board_of l;
      table = written table_size (each entry_numbers l.entries) m.table;
      strips = written strips_size (each strip_numbers (strips_of l)) m.strips;
    }

-- the strip at place k of a strip list
unfoldable pub listed_strip : List ℕ → ℕ → Strip
listed_strip l k =
    record {
      x0 = get_or l (k * 4) 0;
      y0 = get_or l (k * 4 + 1) 0;
      x1 = get_or l (k * 4 + 2) 0;
      y1 = get_or l (k * 4 + 3) 0;
    }

-- the first n strips of a strip list
unfoldable pub listed_strips : List ℕ → ℕ → List Strip
listed_strips l n = map (listed_strip l) (range 0 n)

-- the layout of width W, height H and pen p whose entries are the first n of a table
unfoldable pub layout_of : ℕ → ℕ → Pen → ℕ → List ℕ → Layout
layout_of W H p n t = record { width = W; height = H; pen = p; entries = map (entry_at t) (range 0 n) }

-- the pen that the record holds
abbrev pub pen_in : Board → Pen
pen_in b = pen b.half b.gap

-- the layout that the record and the table hold
unfoldable pub held : Lent → Layout
held m = layout_of m.board.width m.board.height (pen_in m.board) m.board.entries m.table

-- the layout keeps the rules of the sections on the foil and the strips
unfoldable pub layout_ok : Layout → Bool
layout_ok l = keeps_asked (today l.pen) l.width l.height l.entries

-- 13 does not apply: what is lent is what it says stored, and that keeps the rules
unfoldable pub sound : Lent → Bool
sound m =
    sound_by (today (pen_in m.board)) m.board.width m.board.height m.board.entries m.board.strips
    m.table m.strips

-- the whole places of the lists that are lent, with so many numbers of output, for a foil of so many entries at most
unfoldable pub room_in : ℕ → Lent → ℕ → Room
room_in limit m output =
    record { table = length m.table / 5; strips = length m.strips / 4; output = output; limit = limit }

-- the same for a foil that may fill its table
abbrev pub room_of : Lent → ℕ → Room
room_of m output = room_in max_entries m output

-- what a step does to what is lent
unfoldable pub step_on : Room → Step → Lent → After Answer Lent
step_on r s m =
    settle (refusal_of r (not (sound m)) s (held m))
    (record { answer = says s (held m); state = store (next s (held m)) m }) m

-- an output list after an answer: the corners of a track that was laid or found, or the bytes or nets that were
-- written, at its front
unfoldable pub output_after : Answer → List ℕ → List ℕ
output_after (refused n) out = out
output_after accepted out = out
output_after (laid cs n) out = over_front (each point_numbers cs) out
output_after (found n) out = out
output_after (wrote bs) out = over_front bs out
output_after (booked k n) out = out

-- the numbers that an answer writes there: what it makes of an empty list
unfoldable pub numbers_out : Answer → List ℕ
numbers_out a = output_after a []

-- the room after an answer: what it wrote of the output list is not lent again
unfoldable pub room_left : Answer → Room → Room
room_left a r = with_output r (r.output - length (numbers_out a))
