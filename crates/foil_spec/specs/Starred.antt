-- Test foils: the starred ones of document 01, those of document 02's requests, and the orders of refusal. One list of
-- cases, and one statement over it.
use Rattle.std.specs.Prelude.{ℕ, ◌≡◌, true, false, List, [], ◌∷◌, ◌++◌, map, reverse, pos, negsuc, Float, length, replicate}
use Rattle.std.proofs.Math.Option.{none, some}
use Rattle.std.specs.Float.{nan, inf, fin, binary64}
use Rattle.std.specs.Float.Ieee.{of_bits}
use Rattle.foil_spec.specs.Lists.{each}
use Rattle.foil_spec.specs.Limits.{max_entries, table_size, strips_size}
use Rattle.foil_spec.specs.Foil.{Point, point, Entry, entry, entry_numbers, pen, Layout, no_foil}
use Rattle.foil_spec.specs.Strips.{Strip}
use Rattle.foil_spec.specs.Text.{ascii}
use Rattle.foil_spec.specs.Sound.{strip_numbers, written}
use Rattle.foil_spec.specs.Carrying.{Old, old}
use Rattle.foil_spec.specs.Ledger.{strips_of, Room, with_output, by_pen, Step, new_foil, draw, lay, lift, look_up}
use Rattle.foil_spec.specs.Ledger.{put_leg, save, find, book, slip, join, carry, Answer, refused, accepted, laid}
use Rattle.foil_spec.specs.Ledger.{found, wrote, booked}
use Rattle.foil_spec.specs.Lent.{lent}
use Rattle.foil_spec.specs.Job.{job_room}
use Rattle.foil_spec.specs.Ohms.{whole}
use Rattle.foil_spec.specs.Calls.{Call, step, run_record, ohms, lay_list, Reply, answered, ran, at_end, measured}
use Rattle.foil_spec.specs.Calls.{laid_all, ledger_call}
use Rattle.foil_spec.specs.Sequence.{room_for}
use Rattle.foil_spec.specs.Sheet.{no_board}

-- a strip from its four numbers
abbrev pub strip : ℕ → ℕ → ℕ → ℕ → Strip
strip x0 y0 x1 y1 = record { x0 = x0; y0 = y0; x1 = x1; y1 = y1 }

-- a new foil whose patches, legs and edge block up to d away
abbrev pub begin : ℕ → ℕ → ℕ → Step
begin W H d = new_foil W H (by_pen (pen 0 d))

-- the replies to some calls, and the entries and strips that they leave
pub record Outcome : Type 0 where
  pub replies : List Reply
  pub entries : List Entry
  pub strips : List Strip

-- a test foil: calls on the ledger, each in the same room, and what documents 01 and 02 say comes of them
pub record Case : Type 0 where
  pub room : Room
  pub calls : List Call
  pub outcome : Outcome

-- what comes of calls on the layout l, where `told` has the replies before them, the last one first
unfoldable pub outcome_from : Room → Layout → List Reply → List Call → Outcome
outcome_from r l told [] = record { replies = reverse told; entries = l.entries; strips = strips_of l }
outcome_from r l told (c ∷ cs) = outcome_from r (ledger_call r c l).state ((ledger_call r c l).answer ∷ told) cs

-- the bytes of document 01's job
unfoldable pub job_bytes : List ℕ
job_bytes =
    0x03 ∷ 0x06 ∷ 0x00 ∷ 0x04 ∷ 0x00 ∷ 0x00 ∷ 0x00 ∷ 0x02 ∷ 0x00 ∷ 0x00 ∷ 0x00 ∷ 0x03 ∷ 0x00 ∷ 0x03 ∷ 0x00
    ∷ 0x04 ∷ 0x05 ∷ 0x00 ∷ 0x00 ∷ 0x00 ∷ 0x00 ∷ 0x00 ∷ 0x04 ∷ 0x00 ∷ 0x00 ∷ 0x00 ∷ 0x00 ∷ []

-- the same with a patch over the track, and a leg under the first patch, before its end mark
unfoldable pub crossing_bytes : List ℕ
crossing_bytes =
    0x03 ∷ 0x06 ∷ 0x00 ∷ 0x04 ∷ 0x00 ∷ 0x00 ∷ 0x00 ∷ 0x02 ∷ 0x00 ∷ 0x00 ∷ 0x00 ∷ 0x03 ∷ 0x00 ∷ 0x03 ∷ 0x00
    ∷ 0x04 ∷ 0x05 ∷ 0x00 ∷ 0x00 ∷ 0x00 ∷ 0x00 ∷ 0x00 ∷ 0x04 ∷ 0x00 ∷ 0x00 ∷ 0x00
    ∷ 0x02 ∷ 0x01 ∷ 0x00 ∷ 0x03 ∷ 0x00 ∷ 0x02 ∷ 0x00 ∷ 0x04 ∷ 0x00
    ∷ 0x10 ∷ 0x07 ∷ 0x00 ∷ 0x02 ∷ 0x00 ∷ 0x00 ∷ 0x00 ∷ 0x03 ∷ 0x00 ∷ 0x03 ∷ 0x00 ∷ 0x00 ∷ []

-- the track of the job
abbrev pub job_corners : List Point
job_corners = point 0 0 ∷ point 0 3 ∷ point 4 3 ∷ point 4 0 ∷ []

-- the entries of the job: its patch and the three legs of its track
abbrev pub job_entries : List Entry
job_entries = entry 0 2 0 3 3 ∷ entry 5 0 0 1 4 ∷ entry 5 0 3 5 4 ∷ entry 5 4 0 5 4 ∷ []

abbrev pub job_strips : List Strip
job_strips = strip 1 0 2 3 ∷ strip 3 0 4 3 ∷ strip 5 0 6 4 ∷ []

-- a job whose legs are a good one, one of net 0, and one that is two points wide
unfoldable pub leg_job : List ℕ
leg_job =
    0x03 ∷ 0x06 ∷ 0x00 ∷ 0x04 ∷ 0x00 ∷ 0x00 ∷ 0x00 ∷ 0x02 ∷ 0x00 ∷ 0x00 ∷ 0x00 ∷ 0x03 ∷ 0x00 ∷ 0x03 ∷ 0x00
    ∷ 0x10 ∷ 0x05 ∷ 0x00 ∷ 0x00 ∷ 0x00 ∷ 0x00 ∷ 0x00 ∷ 0x01 ∷ 0x00 ∷ 0x04 ∷ 0x00
    ∷ 0x10 ∷ 0x00 ∷ 0x00 ∷ 0x00 ∷ 0x00 ∷ 0x00 ∷ 0x00 ∷ 0x01 ∷ 0x00 ∷ 0x01 ∷ 0x00
    ∷ 0x10 ∷ 0x07 ∷ 0x00 ∷ 0x00 ∷ 0x00 ∷ 0x00 ∷ 0x00 ∷ 0x02 ∷ 0x00 ∷ 0x02 ∷ 0x00
    ∷ 0x00 ∷ []

-- the entries of a foil that is saved: those of the job, and two legs
abbrev pub saved_entries : List Entry
saved_entries =
    entry 0 2 0 3 3 ∷ entry 5 0 0 1 4 ∷ entry 5 0 3 5 4 ∷ entry 5 4 0 5 4 ∷ entry 5 0 0 1 2 ∷ entry 7 5 0 6 4 ∷ []

-- and its file
unfoldable pub saved_bytes : List ℕ
saved_bytes =
    0x21 ∷ 0x06 ∷ 0x00 ∷ 0x04 ∷ 0x00 ∷ 0x00 ∷ 0x00 ∷ 0x00 ∷ 0x00 ∷ 0x00 ∷ 0x00
    ∷ 0x02 ∷ 0x02 ∷ 0x00 ∷ 0x00 ∷ 0x00 ∷ 0x03 ∷ 0x00 ∷ 0x03 ∷ 0x00
    ∷ 0x10 ∷ 0x05 ∷ 0x00 ∷ 0x00 ∷ 0x00 ∷ 0x00 ∷ 0x00 ∷ 0x01 ∷ 0x00 ∷ 0x04 ∷ 0x00
    ∷ 0x10 ∷ 0x05 ∷ 0x00 ∷ 0x00 ∷ 0x00 ∷ 0x03 ∷ 0x00 ∷ 0x05 ∷ 0x00 ∷ 0x04 ∷ 0x00
    ∷ 0x10 ∷ 0x05 ∷ 0x00 ∷ 0x04 ∷ 0x00 ∷ 0x00 ∷ 0x00 ∷ 0x05 ∷ 0x00 ∷ 0x04 ∷ 0x00
    ∷ 0x10 ∷ 0x05 ∷ 0x00 ∷ 0x00 ∷ 0x00 ∷ 0x00 ∷ 0x00 ∷ 0x01 ∷ 0x00 ∷ 0x02 ∷ 0x00
    ∷ 0x10 ∷ 0x07 ∷ 0x00 ∷ 0x05 ∷ 0x00 ∷ 0x00 ∷ 0x00 ∷ 0x06 ∷ 0x00 ∷ 0x04 ∷ 0x00
    ∷ 0x00 ∷ []

-- a job whose board has a pen of half width 1, with a reach that does not count; one whose pen is too wide; one with a
-- pen beside a patch
unfoldable pub pen_job : List ℕ
pen_job = 0x21 ∷ 0x0c ∷ 0x00 ∷ 0x05 ∷ 0x00 ∷ 0xff ∷ 0xff ∷ 0x01 ∷ 0x00 ∷ 0x00 ∷ 0x00 ∷ 0x00 ∷ []

unfoldable pub wide_pen_job : List ℕ
wide_pen_job = 0x21 ∷ 0x0c ∷ 0x00 ∷ 0x05 ∷ 0x00 ∷ 0x00 ∷ 0x00 ∷ 0x08 ∷ 0x00 ∷ 0x00 ∷ 0x00 ∷ 0x00 ∷ []

unfoldable pub late_pen_job : List ℕ
late_pen_job =
    0x01 ∷ 0x0c ∷ 0x00 ∷ 0x05 ∷ 0x00 ∷ 0x10 ∷ 0x00
    ∷ 0x22 ∷ 0x00 ∷ 0x00 ∷ 0x00 ∷ 0x00 ∷ 0x01 ∷ 0x00 ∷ 0x01 ∷ 0x00 ∷ 0x00 ∷ 0x00 ∷ 0x00 ∷ 0x00 ∷ 0x00 ∷ []

-- a booking of the net by the numbers of a corner list
abbrev pub drew : ℕ → List ℕ → Call
drew net ks = step (book net ks)

-- the slip of the job's track and of net 3 from (1, 2) to (1, 0)
unfoldable pub job_slip : List ℕ
job_slip = ascii "  3    1       2     1     0    \n" ++ ascii "  5    3      10     0     0    \n"

-- the ohms of a net for R, w and c
abbrev pub asked : ℕ → Float → Float → Float → Call
asked net R w c = ohms net (record { sheet = R; width = w; bend = c })

-- a foil as document 01's calls leave it, with its strips by document 01
abbrev pub former_foil : ℕ → ℕ → ℕ → List Entry → List Strip → Old
former_foil W H d es ss =
    old (record { width = W; height = H; reach = d; entries = length es; strips = length ss })
    (written table_size (each entry_numbers es) []) (written strips_size (each strip_numbers ss) [])

-- a list on the foil of document 01's job: its track, the same net again, and two that are straight; and half a place
unfoldable pub four_wishes : List ℕ
four_wishes =
    5 ∷ 0 ∷ 0 ∷ 4 ∷ 0 ∷ 5 ∷ 1 ∷ 0 ∷ 1 ∷ 1 ∷ 6 ∷ 1 ∷ 0 ∷ 1 ∷ 2 ∷ 7 ∷ 5 ∷ 0 ∷ 5 ∷ 3 ∷ 8 ∷ 1 ∷ 0 ∷ []

-- its answers
abbrev pub four_answers : List Answer
four_answers =
    laid job_corners 2 ∷ refused 5 ∷ laid (point 1 0 ∷ point 1 2 ∷ []) 0 ∷ laid (point 5 0 ∷ point 5 3 ∷ []) 0 ∷ []

-- its track, one for which five corner places are then too few, and one of a single point
unfoldable pub three_wishes : List ℕ
three_wishes = 5 ∷ 0 ∷ 0 ∷ 4 ∷ 0 ∷ 6 ∷ 1 ∷ 0 ∷ 1 ∷ 2 ∷ 7 ∷ 5 ∷ 0 ∷ 5 ∷ 0 ∷ []

-- its answers
abbrev pub three_answers : List Answer
three_answers = laid job_corners 2 ∷ refused 12 ∷ laid (point 5 0 ∷ []) 0 ∷ []

-- a board, and at places 7 to 11 a map byte each: with an unknown bit beside a board, a board, an end mark with bytes
-- after it, a patch without its fields, and an end mark
unfoldable pub faulty_job : List ℕ
faulty_job =
    0x01 ∷ 0x03 ∷ 0x00 ∷ 0x01 ∷ 0x00 ∷ 0x00 ∷ 0x00 ∷ 0x41 ∷ 0x01 ∷ 0x00 ∷ 0x02 ∷ 0x00 ∷ []

-- a room for a foil of two entries, with so many numbers of output
abbrev pub for_two : ℕ → Room
for_two n = record { table = job_room.table; strips = job_room.strips; output = n; limit = 2 }

-- 3 by 2 with a leg over its first row and a patch in the middle of the other
abbrev pub two_entries : List Call
two_entries = step (begin 3 2 0) ∷ step (put_leg (entry 3 0 0 3 1)) ∷ step (draw 1 1 2 2) ∷ []

-- the room where so many numbers of the table and of the strip list are lent, a front part of each
abbrev pub front_room : ℕ → ℕ → Room
front_room t s =
    room_for (record { call = step slip; table_front = t; strip_front = s; output = []; limit = max_entries })
    (lent no_board (replicate table_size 0) (replicate strips_size 0))

-- a half
unfoldable pub half : Float
half = fin false 1 (negsuc 0)

-- the f64 of a bit pattern
unfoldable pub bits : ℕ → Float
bits n = of_bits binary64 n

-- the cases
unfoldable pub cases : List Case
cases =
    -- 3 by 3 empty
    record {
      room = job_room;
      calls = step (begin 3 3 0) ∷ step (lay 1 (point 0 0) (point 2 2)) ∷ [];
      outcome =
          record {
            replies = answered accepted ∷ answered (laid (point 0 0 ∷ point 2 0 ∷ point 2 2 ∷ []) 1) ∷ [];
            entries = entry 1 0 0 3 1 ∷ entry 1 2 0 3 3 ∷ [];
            strips = strip 0 1 2 3 ∷ [];
          };
    }
    -- 4 by 1 empty: two corners
    ∷ record {
      room = job_room;
      calls = step (begin 4 1 0) ∷ step (lay 1 (point 0 0) (point 3 0)) ∷ [];
      outcome =
          record {
            replies = answered accepted ∷ answered (laid (point 0 0 ∷ point 3 0 ∷ []) 0) ∷ [];
            entries = entry 1 0 0 4 1 ∷ [];
            strips = [];
          };
    }
    -- 4 by 1 empty: one corner, one entry
    ∷ record {
      room = job_room;
      calls = step (begin 4 1 0) ∷ step (lay 1 (point 1 0) (point 1 0)) ∷ [];
      outcome =
          record {
            replies = answered accepted ∷ answered (laid (point 1 0 ∷ []) 0) ∷ [];
            entries = entry 1 1 0 2 1 ∷ [];
            strips = strip 0 0 1 1 ∷ strip 2 0 4 1 ∷ [];
          };
    }
    -- 2 by 2, patches on (0,0) and (1,1): touching at a corner joins nothing
    ∷ record {
      room = job_room;
      calls =
          step (begin 2 2 0) ∷ step (draw 0 0 1 1) ∷ step (draw 1 1 2 2) ∷ step (lay 1 (point 1 0) (point 0 1)) ∷ [];
      outcome =
          record {
            replies = answered accepted ∷ answered accepted ∷ answered accepted ∷ answered (refused 9) ∷ [];
            entries = entry 0 0 0 1 1 ∷ entry 0 1 1 2 2 ∷ [];
            strips = strip 1 0 2 1 ∷ strip 0 1 1 2 ∷ [];
          };
    }
    -- 3 by 3, patch 1,0,2,3
    ∷ record {
      room = job_room;
      calls = step (begin 3 3 0) ∷ step (draw 1 0 2 3) ∷ step (lay 1 (point 0 0) (point 2 0)) ∷ [];
      outcome =
          record {
            replies = answered accepted ∷ answered accepted ∷ answered (refused 9) ∷ [];
            entries = entry 0 1 0 2 3 ∷ [];
            strips = strip 0 0 1 3 ∷ strip 2 0 3 3 ∷ [];
          };
    }
    -- 10 by 10, reach 1, patch 4,4,6,6: 4 strips; (3,3) is 8, (2,3) is free
    ∷ record {
      room = job_room;
      calls = step (begin 10 10 1) ∷ step (draw 4 4 6 6) ∷ step (look_up (point 3 3)) ∷ step (look_up (point 2 3)) ∷ [];
      outcome =
          record {
            replies = answered accepted ∷ answered accepted ∷ answered (refused 8) ∷ answered (found 1) ∷ [];
            entries = entry 0 4 4 6 6 ∷ [];
            strips = strip 1 1 9 3 ∷ strip 1 3 3 7 ∷ strip 7 3 9 7 ∷ strip 1 7 9 9 ∷ [];
          };
    }
    -- 1 by 1: no strips are left
    ∷ record {
      room = job_room;
      calls = step (begin 1 1 0) ∷ step (lay 1 (point 0 0) (point 0 0)) ∷ [];
      outcome =
          record {
            replies = answered accepted ∷ answered (laid (point 0 0 ∷ []) 0) ∷ [];
            entries = entry 1 0 0 1 1 ∷ [];
            strips = [];
          };
    }
    -- the foil and track of the job, by calls
    ∷ record {
      room = job_room;
      calls = step (begin 6 4 0) ∷ step (draw 2 0 3 3) ∷ step (lay 5 (point 0 0) (point 4 0)) ∷ [];
      outcome =
          record {
            replies = answered accepted ∷ answered accepted ∷ answered (laid job_corners 2) ∷ [];
            entries = job_entries;
            strips = job_strips;
          };
    }
    -- the job as bytes, record by record
    ∷ record {
      room = job_room;
      calls = run_record job_bytes 0 ∷ run_record job_bytes 15 ∷ run_record job_bytes 26 ∷ [];
      outcome =
          record {
            replies = ran (accepted ∷ accepted ∷ []) (some 15) ∷ ran (laid job_corners 2 ∷ []) (some 26) ∷ at_end ∷ [];
            entries = job_entries;
            strips = job_strips;
          };
    }
    -- the same after lift 5
    ∷ record {
      room = job_room;
      calls = run_record job_bytes 0 ∷ run_record job_bytes 15 ∷ step (lift 5) ∷ [];
      outcome =
          record {
            replies =
                ran (accepted ∷ accepted ∷ []) (some 15)
                ∷ ran (laid job_corners 2 ∷ []) (some 26)
                ∷ answered accepted
                ∷ [];
            entries = entry 0 2 0 3 3 ∷ [];
            strips = strip 0 0 2 3 ∷ strip 3 0 6 3 ∷ strip 0 3 6 4 ∷ [];
          };
    }
    -- the ohms of the job's track, 10 steps with 2 bends: exact, at the upper limits, with 0.1 and 0.7, and with
    -- c = −0; then figures out of their ranges, and 6 and 4 before 22
    ∷ record {
      room = job_room;
      calls =
          run_record job_bytes 0 ∷ run_record job_bytes 15
          ∷ asked 5 half (whole 2) half
          ∷ asked 5 (whole 1000) (whole 64) (whole 4)
          ∷ asked 5 (bits 0x3fb9_9999_9999_999a) (whole 3) (bits 0x3fe6_6666_6666_6666)
          ∷ asked 5 (whole 1) (whole 1) (fin true 0 (pos 0))
          ∷ asked 5 (whole 0) (whole 1) (whole 0)
          ∷ asked 5 (whole 1) half (whole 0)
          ∷ asked 5 nan (whole 1) (whole 0)
          ∷ asked 5 (whole 1) (inf false) (whole 0)
          ∷ asked 5 (whole 1) (whole 1) (bits 0x4012_0000_0000_0000)
          ∷ asked 6 nan (whole 1) (whole 0)
          ∷ asked 0 (whole 0) (whole 1) (whole 1)
          ∷ [];
      outcome =
          record {
            replies =
                ran (accepted ∷ accepted ∷ []) (some 15)
                ∷ ran (laid job_corners 2 ∷ []) (some 26)
                ∷ measured (whole 3)
                ∷ measured (bits 0x40bf_dc40_0000_0000)
                ∷ measured (bits 0x3fde_4b17_e4b1_7e4c)
                ∷ measured (whole 10)
                ∷ answered (refused 22)
                ∷ answered (refused 22)
                ∷ answered (refused 22)
                ∷ answered (refused 22)
                ∷ answered (refused 22)
                ∷ answered (refused 6)
                ∷ answered (refused 4)
                ∷ [];
            entries = job_entries;
            strips = job_strips;
          };
    }
    -- legs as booked: the net is tried before box and shape, and a leg may lie on blocked points; then the foil is
    -- saved
    ∷ record {
      room = job_room;
      calls =
          step (begin 6 4 0) ∷ step (draw 2 0 3 3) ∷ step (lay 5 (point 0 0) (point 4 0))
          ∷ step (put_leg (entry 5 0 0 1 2)) ∷ step (put_leg (entry 0 0 0 1 1)) ∷ step (put_leg (entry 1000 9 9 9 9))
          ∷ step (put_leg (entry 7 0 0 2 2)) ∷ step (put_leg (entry 7 3 0 7 1)) ∷ step (put_leg (entry 7 3 1 3 2))
          ∷ step (put_leg (entry 7 5 0 6 4)) ∷ step save ∷ [];
      outcome =
          record {
            replies =
                answered accepted ∷ answered accepted ∷ answered (laid job_corners 2) ∷ answered accepted
                ∷ answered (refused 4) ∷ answered (refused 4) ∷ answered (refused 3) ∷ answered (refused 3)
                ∷ answered (refused 3) ∷ answered accepted ∷ answered (wrote saved_bytes) ∷ [];
            entries = saved_entries;
            strips = strip 1 0 2 3 ∷ strip 3 0 4 3 ∷ [];
          };
    }
    -- legs in a job file
    ∷ record {
      room = job_room;
      calls =
          run_record leg_job 0 ∷ run_record leg_job 15 ∷ run_record leg_job 26 ∷ run_record leg_job 37
          ∷ run_record leg_job 48 ∷ [];
      outcome =
          record {
            replies =
                ran (accepted ∷ accepted ∷ []) (some 15) ∷ ran (accepted ∷ []) (some 26)
                ∷ ran (refused 4 ∷ []) (some 37) ∷ ran (refused 3 ∷ []) (some 48) ∷ at_end ∷ [];
            entries = entry 0 2 0 3 3 ∷ entry 5 0 0 1 4 ∷ [];
            strips = strip 1 0 2 3 ∷ strip 3 0 6 3 ∷ strip 1 3 6 4 ∷ [];
          };
    }
    -- the job's track found and then booked
    ∷ record {
      room = job_room;
      calls =
          step (begin 6 4 0) ∷ step (draw 2 0 3 3)
          ∷ step (find (point 0 0) (point 4 0)) ∷ step (find (point 0 0) (point 6 0))
          ∷ step (find (point 0 0) (point 2 0)) ∷ drew 5 (0 ∷ 0 ∷ 0 ∷ 3 ∷ 4 ∷ 3 ∷ 4 ∷ 0 ∷ []) ∷ [];
      outcome =
          record {
            replies =
                answered accepted ∷ answered accepted ∷ answered (laid job_corners 2) ∷ answered (refused 7)
                ∷ answered (refused 8) ∷ answered (booked 4 2) ∷ [];
            entries = job_entries;
            strips = job_strips;
          };
    }
    -- lists that are no way: no corner; a corner in a straight; a segment of no length, a slanting one, one off the
    -- foil, one over the patch; a corner on the patch; half a place at the end. A way may close. 5 and 4 come before
    -- 19, which the points of the net that is booked then have
    ∷ record {
      room = job_room;
      calls =
          step (begin 6 4 0) ∷ step (draw 2 0 3 3)
          ∷ drew 5 [] ∷ drew 5 (0 ∷ 0 ∷ 0 ∷ 2 ∷ 0 ∷ 3 ∷ []) ∷ drew 5 (0 ∷ 0 ∷ 0 ∷ 0 ∷ [])
          ∷ drew 5 (0 ∷ 0 ∷ 1 ∷ 1 ∷ []) ∷ drew 5 (0 ∷ 0 ∷ 0 ∷ 3 ∷ 6 ∷ 3 ∷ []) ∷ drew 5 (0 ∷ 0 ∷ 4 ∷ 0 ∷ [])
          ∷ drew 5 (2 ∷ 0 ∷ []) ∷ drew 5 (0 ∷ 0 ∷ 0 ∷ [])
          ∷ drew 5 (0 ∷ 0 ∷ 1 ∷ 0 ∷ 1 ∷ 1 ∷ 0 ∷ 1 ∷ 0 ∷ 0 ∷ [])
          ∷ drew 5 (0 ∷ 0 ∷ []) ∷ drew 0 (0 ∷ 0 ∷ []) ∷ drew 6 (0 ∷ 0 ∷ []) ∷ drew 7 (2 ∷ 3 ∷ 4 ∷ 3 ∷ 3 ∷ 3 ∷ [])
          ∷ drew 7 (2 ∷ 3 ∷ 4 ∷ 3 ∷ []) ∷ [];
      outcome =
          record {
            replies =
                answered accepted ∷ answered accepted
                ∷ answered (refused 19) ∷ answered (refused 19) ∷ answered (refused 19) ∷ answered (refused 19)
                ∷ answered (refused 19) ∷ answered (refused 19) ∷ answered (refused 19) ∷ answered (refused 19)
                ∷ answered (booked 5 3)
                ∷ answered (refused 5) ∷ answered (refused 4) ∷ answered (refused 19) ∷ answered (refused 19)
                ∷ answered (booked 2 0) ∷ [];
            entries =
                entry 0 2 0 3 3 ∷ entry 5 0 0 2 1 ∷ entry 5 1 0 2 2 ∷ entry 5 0 1 2 2 ∷ entry 5 0 0 1 2
                ∷ entry 7 2 3 5 4 ∷ [];
            strips = strip 3 0 6 3 ∷ strip 0 2 2 4 ∷ strip 5 3 6 4 ∷ [];
          };
    }
    -- ways that cross themselves and that go back over their own points
    ∷ record {
      room = job_room;
      calls =
          step (begin 3 3 0) ∷ drew 1 (0 ∷ 1 ∷ 2 ∷ 1 ∷ 2 ∷ 0 ∷ 1 ∷ 0 ∷ 1 ∷ 2 ∷ []) ∷ step (begin 4 2 0)
          ∷ drew 2 (0 ∷ 0 ∷ 3 ∷ 0 ∷ 3 ∷ 1 ∷ 1 ∷ 1 ∷ 1 ∷ 0 ∷ 2 ∷ 0 ∷ []) ∷ [];
      outcome =
          record {
            replies = answered accepted ∷ answered (booked 5 3) ∷ answered accepted ∷ answered (booked 6 4) ∷ [];
            entries =
                entry 2 0 0 4 1 ∷ entry 2 3 0 4 2 ∷ entry 2 1 1 4 2 ∷ entry 2 1 0 2 2 ∷ entry 2 1 0 3 1 ∷ [];
            strips = strip 0 1 1 2 ∷ [];
          };
    }
    -- the slip of a foil without tracks, and of one with two, the lower net laid last
    ∷ record {
      room = job_room;
      calls =
          step (begin 6 4 0) ∷ step (draw 2 0 3 3) ∷ step slip ∷ step (lay 5 (point 0 0) (point 4 0))
          ∷ step (lay 3 (point 1 2) (point 1 0)) ∷ step slip ∷ [];
      outcome =
          record {
            replies =
                answered accepted ∷ answered accepted ∷ answered (wrote []) ∷ answered (laid job_corners 2)
                ∷ answered (laid (point 1 2 ∷ point 1 0 ∷ []) 0) ∷ answered (wrote job_slip) ∷ [];
            entries = job_entries ++ (entry 3 1 0 2 3 ∷ []);
            strips = strip 3 0 4 3 ∷ strip 5 0 6 4 ∷ [];
          };
    }
    -- a leg blocks twice the half width and the gap away, a patch once; 20 for a pen out of its limits, after 1
    ∷ record {
      room = job_room;
      calls =
          step (new_foil 12 5 (by_pen (pen 8 0))) ∷ step (new_foil 12 5 (by_pen (pen 0 16)))
          ∷ step (new_foil 0 5 (by_pen (pen 8 16))) ∷ step (new_foil 12 5 (by_pen (pen 1 0)))
          ∷ step (put_leg (entry 9 5 0 6 5)) ∷ step (draw 0 0 1 5) ∷ [];
      outcome =
          record {
            replies =
                answered (refused 20) ∷ answered (refused 20) ∷ answered (refused 1) ∷ answered accepted
                ∷ answered accepted ∷ answered accepted ∷ [];
            entries = entry 9 5 0 6 5 ∷ entry 0 0 0 1 5 ∷ [];
            strips = strip 2 1 3 4 ∷ strip 8 1 11 4 ∷ [];
          };
    }
    -- pens in job files: 2 for a reach, and 16 for a pen without a board
    ∷ record {
      room = job_room;
      calls =
          run_record late_pen_job 0 ∷ run_record wide_pen_job 0 ∷ run_record pen_job 0 ∷ run_record late_pen_job 7
          ∷ step (put_leg (entry 9 5 0 6 5)) ∷ run_record pen_job 11 ∷ [];
      outcome =
          record {
            replies =
                ran (refused 2 ∷ []) none ∷ ran (refused 20 ∷ []) none ∷ ran (accepted ∷ []) (some 11)
                ∷ answered (refused 16) ∷ answered accepted ∷ at_end ∷ [];
            entries = entry 9 5 0 6 5 ∷ [];
            strips = strip 1 1 3 4 ∷ strip 8 1 11 4 ∷ [];
          };
    }
    -- the edge leaves one point of 5 by 5 with a reach of 2
    ∷ record {
      room = job_room;
      calls = step (begin 5 5 2) ∷ step (look_up (point 2 2)) ∷ step (look_up (point 2 3)) ∷ [];
      outcome =
          record {
            replies = answered accepted ∷ answered (found 0) ∷ answered (refused 8) ∷ [];
            entries = [];
            strips = strip 2 2 3 3 ∷ [];
          };
    }
    -- and none of 4 by 5
    ∷ record {
      room = job_room;
      calls = step (begin 4 5 2) ∷ step (look_up (point 2 2)) ∷ [];
      outcome = record { replies = answered accepted ∷ answered (refused 8) ∷ []; entries = []; strips = [] };
    }
    -- joins: to a leg; from a point on a leg, which is one corner and one entry; the ohms have a bend more for each;
    -- 4, then 6, then 7; a point of another net is 8, and one of the net itself is free for it
    ∷ record {
      room = job_room;
      calls =
          step (begin 9 7 0) ∷ step (lay 5 (point 1 1) (point 7 1)) ∷ step (join 5 (point 4 5))
          ∷ step (join 5 (point 4 3)) ∷ asked 5 (whole 1) (whole 1) (whole 0) ∷ asked 5 (whole 1) (whole 1) (whole 1)
          ∷ step (join 0 (point 9 0)) ∷ step (join 6 (point 9 0)) ∷ step (join 5 (point 9 0))
          ∷ step (lay 8 (point 0 6) (point 8 6)) ∷ step (join 5 (point 0 6)) ∷ step (join 8 (point 0 0))
          ∷ step (join 5 (point 8 5)) ∷ [];
      outcome =
          record {
            replies =
                answered accepted ∷ answered (laid (point 1 1 ∷ point 7 1 ∷ []) 0)
                ∷ answered (laid (point 4 5 ∷ point 4 1 ∷ []) 0) ∷ answered (laid (point 4 3 ∷ []) 0)
                ∷ measured (whole 10) ∷ measured (whole 12)
                ∷ answered (refused 4) ∷ answered (refused 6) ∷ answered (refused 7)
                ∷ answered (laid (point 0 6 ∷ point 8 6 ∷ []) 0) ∷ answered (refused 8)
                ∷ answered (laid (point 0 0 ∷ point 0 6 ∷ []) 0) ∷ answered (laid (point 8 5 ∷ point 4 5 ∷ []) 0) ∷ [];
            entries =
                entry 5 1 1 8 2 ∷ entry 5 4 1 5 6 ∷ entry 5 4 3 5 4 ∷ entry 8 0 6 9 7 ∷ entry 8 0 0 1 7
                ∷ entry 5 4 5 9 6 ∷ [];
            strips = strip 1 0 9 1 ∷ strip 8 1 9 2 ∷ strip 1 2 4 6 ∷ strip 5 2 9 5 ∷ [];
          };
    }
    -- the net's own legs do not block, a patch does; lift takes the net whole
    ∷ record {
      room = job_room;
      calls =
          step (begin 9 7 1) ∷ step (lay 5 (point 2 2) (point 6 2)) ∷ step (draw 4 4 5 5)
          ∷ step (join 5 (point 4 5)) ∷ step (join 5 (point 1 5)) ∷ step (join 5 (point 6 5)) ∷ step (lift 5) ∷ [];
      outcome =
          record {
            replies =
                answered accepted ∷ answered (laid (point 2 2 ∷ point 6 2 ∷ []) 0) ∷ answered accepted
                ∷ answered (refused 8) ∷ answered (laid (point 1 5 ∷ point 1 2 ∷ point 2 2 ∷ []) 1)
                ∷ answered (laid (point 6 5 ∷ point 6 2 ∷ []) 0) ∷ answered accepted ∷ [];
            entries = entry 0 4 4 5 5 ∷ [];
            strips = strip 1 1 8 3 ∷ strip 1 3 3 6 ∷ strip 6 3 8 6 ∷ [];
          };
    }
    -- of the points on two legs the nearest; a leg's point that another net blocks is no end, though nearer
    ∷ record {
      room = job_room;
      calls =
          step (begin 8 3 0) ∷ step (put_leg (entry 5 0 0 1 3)) ∷ step (put_leg (entry 5 7 0 8 3))
          ∷ step (join 5 (point 3 1)) ∷ step (join 5 (point 4 0)) ∷ step (begin 3 3 0)
          ∷ step (put_leg (entry 5 0 0 3 1)) ∷ step (put_leg (entry 6 0 0 2 1)) ∷ step (join 5 (point 0 0))
          ∷ step (join 5 (point 0 2)) ∷ [];
      outcome =
          record {
            replies =
                answered accepted ∷ answered accepted ∷ answered accepted
                ∷ answered (laid (point 3 1 ∷ point 0 1 ∷ []) 0) ∷ answered (laid (point 4 0 ∷ point 7 0 ∷ []) 0)
                ∷ answered accepted ∷ answered accepted ∷ answered accepted ∷ answered (refused 8)
                ∷ answered (laid (point 0 2 ∷ point 2 2 ∷ point 2 0 ∷ []) 1) ∷ [];
            entries = entry 5 0 0 3 1 ∷ entry 6 0 0 2 1 ∷ entry 5 0 2 3 3 ∷ entry 5 2 0 3 3 ∷ [];
            strips = strip 0 1 2 2 ∷ [];
          };
    }
    -- where all of the net's points are blocked there is no way
    ∷ record {
      room = job_room;
      calls =
          step (begin 2 2 0) ∷ step (put_leg (entry 5 0 0 2 1)) ∷ step (put_leg (entry 6 0 0 2 1))
          ∷ step (join 5 (point 0 1)) ∷ [];
      outcome =
          record {
            replies = answered accepted ∷ answered accepted ∷ answered accepted ∷ answered (refused 9) ∷ [];
            entries = entry 5 0 0 2 1 ∷ entry 6 0 0 2 1 ∷ [];
            strips = strip 0 1 2 2 ∷ [];
          };
    }
    -- a patch may not block a point of a leg, nor a leg be put where a patch blocks: 21, after 4 and 3; legs over legs
    -- are no matter, and after a lift the patch is drawn
    ∷ record {
      room = job_room;
      calls =
          step (begin 12 5 1) ∷ step (lay 3 (point 1 3) (point 10 3)) ∷ step (draw 4 1 6 2) ∷ step (draw 4 2 6 3)
          ∷ step (draw 4 0 6 2) ∷ step (put_leg (entry 4 7 1 8 2)) ∷ step (put_leg (entry 4 6 1 7 2))
          ∷ step (put_leg (entry 4 9 3 9 4)) ∷ step (put_leg (entry 4 4 1 5 2)) ∷ step (put_leg (entry 1000 4 1 4 2))
          ∷ step (put_leg (entry 4 4 1 6 3)) ∷ step (draw 4 2 6 6) ∷ step (put_leg (entry 3 2 3 9 4)) ∷ step (lift 3)
          ∷ step (draw 4 2 6 3) ∷ [];
      outcome =
          record {
            replies =
                answered accepted ∷ answered (laid (point 1 3 ∷ point 10 3 ∷ []) 0) ∷ answered accepted
                ∷ answered (refused 21) ∷ answered accepted ∷ answered accepted ∷ answered (refused 21)
                ∷ answered (refused 3) ∷ answered (refused 21) ∷ answered (refused 4) ∷ answered (refused 3)
                ∷ answered (refused 3) ∷ answered accepted
                ∷ answered accepted ∷ answered accepted ∷ [];
            entries = entry 0 4 1 6 2 ∷ entry 0 4 0 6 2 ∷ entry 4 7 1 8 2 ∷ entry 0 4 2 6 3 ∷ [];
            strips = strip 1 1 3 4 ∷ strip 9 1 11 3 ∷ strip 7 3 11 4 ∷ [];
          };
    }
    -- the same in a job
    ∷ record {
      room = job_room;
      calls =
          run_record crossing_bytes 0 ∷ run_record crossing_bytes 15 ∷ run_record crossing_bytes 26
          ∷ run_record crossing_bytes 35 ∷ run_record crossing_bytes 46 ∷ [];
      outcome =
          record {
            replies =
                ran (accepted ∷ accepted ∷ []) (some 15) ∷ ran (laid job_corners 2 ∷ []) (some 26)
                ∷ ran (refused 21 ∷ []) (some 35) ∷ ran (refused 21 ∷ []) (some 46) ∷ at_end ∷ [];
            entries = job_entries;
            strips = job_strips;
          };
    }
    -- a patch to the left of a leg, one above it, one to the right, each as near as it may be, and one point nearer; a
    -- pen of half width 1 keeps patches from legs by h + g and not by 2h + g
    ∷ record {
      room = job_room;
      calls =
          step (new_foil 12 12 (by_pen (pen 1 1))) ∷ step (put_leg (entry 7 5 5 6 8))
          ∷ step (draw 0 6 4 7) ∷ step (draw 0 6 3 7) ∷ step (draw 5 0 6 4) ∷ step (draw 5 0 6 3)
          ∷ step (draw 7 6 9 7) ∷ step (draw 8 6 9 7) ∷ step (draw 5 9 6 10) ∷ step (draw 5 10 6 11)
          ∷ step (put_leg (entry 7 8 8 9 9)) ∷ step (put_leg (entry 7 8 9 9 10)) ∷ [];
      outcome =
          record {
            replies =
                answered accepted ∷ answered accepted ∷ answered (refused 21) ∷ answered accepted
                ∷ answered (refused 21) ∷ answered accepted ∷ answered (refused 21) ∷ answered accepted
                ∷ answered (refused 21) ∷ answered accepted ∷ answered (refused 21) ∷ answered accepted ∷ [];
            entries =
                entry 7 5 5 6 8 ∷ entry 0 0 6 3 7 ∷ entry 0 5 0 6 3 ∷ entry 0 8 6 9 7 ∷ entry 0 5 10 6 11
                ∷ entry 7 8 9 9 10 ∷ [];
            strips = strip 9 2 10 4 ∷ [];
          };
    }
    -- carried over: 3 and 7 are lifted for points that a patch blocks, whichever stands first in the table
    ∷ record {
      room = job_room;
      calls =
          step
          (carry
          (former_foil 12 5 1
          (entry 0 0 0 2 1 ∷ entry 3 1 3 11 4 ∷ entry 0 4 3 6 4 ∷ entry 7 2 1 3 5 ∷ []) (strip 4 0 12 2 ∷ [])))
          ∷ [];
      outcome =
          record {
            replies = answered (wrote (3 ∷ 7 ∷ [])) ∷ [];
            entries = entry 0 0 0 2 1 ∷ entry 0 4 3 6 4 ∷ [];
            strips = strip 3 1 11 2 ∷ strip 1 2 3 4 ∷ strip 7 2 11 4 ∷ [];
          };
    }
    -- nets rising, though 9 stands first in the table; then a reach of 16, a leg two points wide, and strips that count
    -- the edge are no state of document 01; too short a table is told first
    ∷ record {
      room = job_room;
      calls =
          step
          (carry
          (former_foil 6 4 0
          (entry 0 2 0 3 3 ∷ entry 9 2 0 3 3 ∷ entry 5 0 0 6 1 ∷ entry 9 5 3 6 4 ∷ [])
          (strip 0 1 2 3 ∷ strip 3 1 6 3 ∷ strip 0 3 5 4 ∷ [])))
          ∷ step (carry (former_foil 12 5 16 [] (strip 0 0 12 5 ∷ [])))
          ∷ step (carry (former_foil 12 5 1 (entry 5 0 0 2 2 ∷ []) (strip 3 0 12 3 ∷ strip 0 3 12 5 ∷ [])))
          ∷ step (carry (former_foil 12 5 1 [] (strip 1 1 11 4 ∷ [])))
          ∷ step
          (carry
          (old (record { width = 0; height = 0; reach = 0; entries = 0; strips = 0 }) (replicate 639 0)
          (replicate strips_size 0)))
          ∷ [];
      outcome =
          record {
            replies =
                answered (wrote (5 ∷ 9 ∷ [])) ∷ answered (refused 13) ∷ answered (refused 13) ∷ answered (refused 13)
                ∷ answered (refused 12) ∷ [];
            entries = entry 0 2 0 3 3 ∷ [];
            strips = strip 0 0 2 3 ∷ strip 3 0 6 3 ∷ strip 0 3 6 4 ∷ [];
          };
    }
    -- a net that lies in the edge's zone stays; the carried foil goes on with today's calls
    ∷ record {
      room = job_room;
      calls =
          step
          (carry
          (former_foil 12 5 1
          (entry 0 4 3 6 4 ∷ entry 3 1 3 11 4 ∷ entry 7 1 1 2 5 ∷ entry 3 8 1 9 2 ∷ [])
          (strip 3 0 7 2 ∷ strip 10 0 12 2 ∷ [])))
          ∷ step (draw 1 2 2 3) ∷ step (lay 3 (point 8 3) (point 10 1)) ∷ step (lift 7) ∷ [];
      outcome =
          record {
            replies =
                answered (wrote (3 ∷ [])) ∷ answered (refused 21)
                ∷ answered (laid (point 8 3 ∷ point 8 1 ∷ point 10 1 ∷ []) 1) ∷ answered accepted ∷ [];
            entries = entry 0 4 3 6 4 ∷ entry 3 8 1 9 4 ∷ entry 3 8 1 11 2 ∷ [];
            strips = strip 1 1 7 2 ∷ strip 1 2 3 4 ∷ strip 10 3 11 4 ∷ [];
          };
    }
    -- lists of nets: too few places for answers, too many nets, none at all, and four with half a place after them
    ∷ record {
      room = job_room;
      calls =
          step (begin 6 4 0) ∷ step (draw 2 0 3 3) ∷ lay_list four_wishes 3 ∷ lay_list (replicate 205 0) 41
          ∷ lay_list [] 0 ∷ lay_list four_wishes 4 ∷ [];
      outcome =
          record {
            replies =
                answered accepted ∷ answered accepted ∷ answered (refused 12) ∷ answered (refused 12)
                ∷ laid_all [] ∷ laid_all four_answers ∷ [];
            entries =
                entry 0 2 0 3 3 ∷ entry 5 0 0 1 4 ∷ entry 5 0 3 5 4 ∷ entry 5 4 0 5 4 ∷ entry 6 1 0 2 3
                ∷ entry 7 5 0 6 4 ∷ [];
            strips = strip 3 0 4 3 ∷ [];
          };
    }
    -- of ways with as few bends the shorter one first: over y = 3 by four steps, and not over y = 0 by six
    ∷ record {
      room = job_room;
      calls = step (begin 3 4 0) ∷ step (draw 1 1 2 3) ∷ step (find (point 0 2) (point 2 2)) ∷ [];
      outcome =
          record {
            replies =
                answered accepted ∷ answered accepted
                ∷ answered (laid (point 0 2 ∷ point 0 3 ∷ point 2 3 ∷ point 2 2 ∷ []) 2) ∷ [];
            entries = entry 0 1 1 2 3 ∷ [];
            strips = strip 0 0 3 1 ∷ strip 0 1 1 3 ∷ strip 2 1 3 3 ∷ strip 0 3 3 4 ∷ [];
          };
    }
    -- lays in their order: 4 of net 0, which the table has by the patch; 5 with S off the foil; 7 of T, and of S, where
    -- the other is blocked; then 8. Draws by 3: empty, reversed, past W. Lifts by 4, then 6; look ups by 7, then 8
    ∷ record {
      room = job_room;
      calls =
          step (begin 4 1 0) ∷ step (draw 3 0 4 1) ∷ step (lay 0 (point 0 0) (point 1 0))
          ∷ step (lay 1000 (point 0 0) (point 1 0)) ∷ step (lay 1 (point 0 0) (point 1 0))
          ∷ step (lay 1 (point 4 0) (point 2 0)) ∷ step (lay 2 (point 3 0) (point 4 0))
          ∷ step (lay 2 (point 4 0) (point 3 0)) ∷ step (lay 2 (point 3 0) (point 2 0))
          ∷ step (lay 2 (point 2 0) (point 3 0)) ∷ step (draw 2 0 2 1) ∷ step (draw 3 0 2 1) ∷ step (draw 2 0 5 1)
          ∷ step (lift 1000) ∷ step (lift 2) ∷ step (look_up (point 4 0)) ∷ step (look_up (point 2 1))
          ∷ step (look_up (point 1 0)) ∷ [];
      outcome =
          record {
            replies =
                answered accepted ∷ answered accepted ∷ answered (refused 4) ∷ answered (refused 4)
                ∷ answered (laid (point 0 0 ∷ point 1 0 ∷ []) 0) ∷ answered (refused 5) ∷ answered (refused 7)
                ∷ answered (refused 7) ∷ answered (refused 8) ∷ answered (refused 8) ∷ answered (refused 3)
                ∷ answered (refused 3) ∷ answered (refused 3) ∷ answered (refused 4) ∷ answered (refused 6)
                ∷ answered (refused 7) ∷ answered (refused 7) ∷ answered (refused 8) ∷ [];
            entries = entry 0 3 0 4 1 ∷ entry 1 0 0 2 1 ∷ [];
            strips = strip 2 0 3 1 ∷ [];
          };
    }
    -- where no entry more fits, 21 and 19 come before 10
    ∷ record {
      room = for_two 8;
      calls =
          two_entries
          ++ (step (draw 0 0 1 1) ∷ step (draw 0 1 1 2) ∷ step (put_leg (entry 4 1 1 2 2))
          ∷ step (put_leg (entry 4 0 1 1 2)) ∷ drew 5 (0 ∷ 1 ∷ 2 ∷ 1 ∷ []) ∷ drew 5 (0 ∷ 1 ∷ [])
          ∷ step (lay 5 (point 0 1) (point 0 1)) ∷ step (join 3 (point 0 1)) ∷ []);
      outcome =
          record {
            replies =
                answered accepted ∷ answered accepted ∷ answered accepted ∷ answered (refused 21)
                ∷ answered (refused 10) ∷ answered (refused 21) ∷ answered (refused 10) ∷ answered (refused 19)
                ∷ answered (refused 10) ∷ answered (refused 10) ∷ answered (refused 10) ∷ [];
            entries = entry 3 0 0 3 1 ∷ entry 0 1 1 2 2 ∷ [];
            strips = strip 0 1 1 2 ∷ strip 2 1 3 2 ∷ [];
          };
    }
    -- nor a corner, 12 comes before 10, and 9 before both
    ∷ record {
      room = for_two 1;
      calls =
          two_entries
          ++ (step (lay 5 (point 0 1) (point 2 1)) ∷ step (lay 5 (point 0 1) (point 0 1))
          ∷ step (find (point 0 1) (point 0 1)) ∷ step (join 3 (point 0 1)) ∷ []);
      outcome =
          record {
            replies =
                answered accepted ∷ answered accepted ∷ answered accepted ∷ answered (refused 9)
                ∷ answered (refused 12) ∷ answered (refused 12) ∷ answered (refused 12) ∷ [];
            entries = entry 3 0 0 3 1 ∷ entry 0 1 1 2 2 ∷ [];
            strips = strip 0 1 1 2 ∷ strip 2 1 3 2 ∷ [];
          };
    }
    -- with five corner places a net of a list is refused by 12 and uses none of them, and the next one has the place
    -- that is left
    ∷ record {
      room = with_output job_room 10;
      calls = step (begin 6 4 0) ∷ step (draw 2 0 3 3) ∷ lay_list three_wishes 3 ∷ [];
      outcome =
          record {
            replies = answered accepted ∷ answered accepted ∷ laid_all three_answers ∷ [];
            entries = job_entries ++ (entry 7 5 0 6 1 ∷ []);
            strips = strip 1 0 2 3 ∷ strip 3 0 4 3 ∷ strip 5 1 6 4 ∷ [];
          };
    }
    -- records: first ones by 14 for no bytes, before 16; by 15, before 16; by 16 for an end mark, before 17, and for a
    -- patch, before the 14 of cut fields. Later ones by 15, before 16; by 16 for a board; by 17; by 14 for cut fields
    -- and for a place past the end
    ∷ record {
      room = job_room;
      calls =
          run_record [] 0 ∷ run_record (0x40 ∷ []) 0 ∷ run_record (0x00 ∷ 0x00 ∷ []) 0 ∷ run_record (0x02 ∷ []) 0
          ∷ run_record faulty_job 0 ∷ run_record faulty_job 7 ∷ run_record faulty_job 8 ∷ run_record faulty_job 9
          ∷ run_record faulty_job 10 ∷ run_record faulty_job 11 ∷ run_record faulty_job 12 ∷ [];
      outcome =
          record {
            replies =
                answered (refused 14) ∷ answered (refused 15) ∷ answered (refused 16) ∷ answered (refused 16)
                ∷ ran (accepted ∷ []) (some 7) ∷ answered (refused 15) ∷ answered (refused 16) ∷ answered (refused 17)
                ∷ answered (refused 14) ∷ at_end ∷ answered (refused 14) ∷ [];
            entries = [];
            strips = strip 0 0 3 1 ∷ [];
          };
    }
    -- in a room of one entry less 12 comes before 1, 3, 4, 7 and 14, and 18 before it
    ∷ record {
      room = record { table = 127; strips = 4096; output = 0; limit = 128 };
      calls =
          step (begin 0 1 0) ∷ step (draw 0 0 0 0) ∷ step (lift 0) ∷ step (look_up (point 0 0)) ∷ run_record [] 0
          ∷ asked 0 nan nan nan ∷ run_record (replicate 60001 0) 0 ∷ [];
      outcome =
          record {
            replies =
                answered (refused 12) ∷ answered (refused 12) ∷ answered (refused 12) ∷ answered (refused 12)
                ∷ answered (refused 12) ∷ answered (refused 12) ∷ answered (refused 18) ∷ [];
            entries = [];
            strips = [];
          };
    }
    -- and where only a front part is lent: a number of the table too few, one of the strip list, none
    ∷ record {
      room = front_room 639 16384;
      calls = step (begin 1 1 0) ∷ [];
      outcome = record { replies = answered (refused 12) ∷ []; entries = []; strips = [] };
    }
    ∷ record {
      room = front_room 640 16383;
      calls = step (begin 1 1 0) ∷ [];
      outcome = record { replies = answered (refused 12) ∷ []; entries = []; strips = [] };
    }
    ∷ record {
      room = front_room 640 16384;
      calls = step (begin 1 1 0) ∷ [];
      outcome = record { replies = answered accepted ∷ []; entries = []; strips = strip 0 0 1 1 ∷ [] };
    }
    ∷ []

-- every case comes out as it says, from no foil on
abbrev pub StarredHold : Type 0
StarredHold =
    map (λ (c : Case). outcome_from c.room no_foil [] c.calls) cases ≡ map (λ (c : Case). c.outcome) cases
