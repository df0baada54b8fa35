-- A sheet of eight foils, computed: calls on five of them with what they answer and leave, and the limits of the foils.
use Prim.Native.Nat.{ℕ}
use mathlib.Core.Path.{◌≡◌, refl}
use mathlib.Core.Bool.{true, false, xor}
use mathlib.Core.List.{List, [], ◌∷◌, ◌++◌, map, reverse}
use mathlib.Core.Option.{none, some}
use lib.ListN.{get_or, set, replicate}
use Rattle.foil_spec.specs.Limits.{sheet_foils}
use Rattle.foil_spec.specs.Foil.{point, Entry, entry, entry_numbers, pen, Layout, no_foil, size_ok, reach_ok, pen_ok}
use Rattle.foil_spec.specs.Foil.{net_ok, box_ok, shape_ok, entry_ok, pen_rule, margin, near_edge, free_by, within}
use Rattle.foil_spec.specs.Foil.{blocks, meets, crosses, over_leg, no_crossing, patch_margin, free}
use Rattle.foil_spec.specs.Strips.{stop_in, stop, scan, scan_at, starts, is_run, is_top, begun, strips_from, holds}
use Rattle.foil_spec.specs.Strips.{place_of}
use Rattle.foil_spec.specs.Paths.{after, between, level_free, upright_free, segment, bends, points, goings, leads}
use Rattle.foil_spec.specs.Paths.{is_path_to, is_way, steps_from, shortest, first_from, first_path_to}
use Rattle.foil_spec.specs.Nets.{of_net, in_use}
use Rattle.foil_spec.specs.Ledger.{strips_of, path_of, no_path, corners_of, leg, legs_from, legs, Room, off_foil}
use Rattle.foil_spec.specs.Ledger.{blocked, short, corner_room, too_long, is_too_fine, next, says, first, reads}
use Rattle.foil_spec.specs.Ledger.{refusals, after_lent, settle, refusal_of, by_pen, pen_of, clearance_refusal, Step}
use Rattle.foil_spec.specs.Ledger.{new_foil, draw, lay, lift, look_up, refused, accepted, laid, found, After}
use Rattle.foil_spec.specs.Lent.{strip_numbers, written, board_of, store, entry_at, layout_of, held}
use Rattle.foil_spec.specs.Lent.{same_numbers, sound}
use Rattle.foil_spec.specs.Sound.{today, strips_by, keeps_asked, listed_in, sound_by}
use Rattle.foil_spec.specs.Job.{number, field_count, map_byte, has, fields_at, record_end, field, step_at, job_room}
use Rattle.foil_spec.specs.Job.{as_step, steps_at, record_steps, steps, is_end, record_checks}
use Rattle.foil_spec.specs.Calls.{Call, step, run_record, lay_list, Reply, answered, ran, at_end, as_reply, ends_job}
use Rattle.foil_spec.specs.Calls.{and_then, act_all, act_record, act_list, too_large, whole_refusals, list_refusals}
use Rattle.foil_spec.specs.Calls.{reply}
use Rattle.foil_spec.specs.Wishes.{too_many}
use Rattle.foil_spec.specs.Sheet.{total, reserved, each_few, counts_ok, limit_of, parts, joined, table_at, SheetLent}
use Rattle.foil_spec.specs.Sheet.{view, put_back, sheet_room, counts, opening, sheet_refusal, unless, blank, row_step}
use Rattle.foil_spec.specs.Sheet.{row_call, sheet_ledger_call, row_counts, no_board, writes, sheet_step, sheet_call}
use Rattle.foil_spec.specs.declared.Board.{Board}

-- ---- calls on a sheet on which nothing is begun

-- a call on foil k
record On : Type 0 where
  foil : ℕ
  call : Call

abbrev on : ℕ → Step → On
on k s = record { foil = k; call = step s }

-- a record of the one job file of the example, on foil k
abbrev at : ℕ → ℕ → On
at k place = record { foil = k; call = run_record (1 ∷ 6 ∷ 0 ∷ 4 ∷ 0 ∷ 0 ∷ 0 ∷ 0 ∷ []) place }

-- whole lists and all corner places are lent
room_at : ℕ → List Layout → Room
room_at k ls =
    record {
      table = job_room.table;
      strips = job_room.strips;
      output = job_room.output;
      limit = limit_of (row_counts ls) k;
    }

-- the replies to some calls, and the rows that they leave
record Rows : Type 0 where
  replies : List Reply
  rows : List (List Entry)

rows_from : List Layout → List Reply → List On → Rows
rows_from ls told [] = record { replies = reverse told; rows = map (λ (l : Layout). l.entries) ls }
rows_from ls told (c ∷ cs) =
    rows_from (sheet_ledger_call (room_at c.foil ls) c.foil c.call ls).state
    ((sheet_ledger_call (room_at c.foil ls) c.foil c.call ls).answer ∷ told) cs

-- nothing is lent
no_room : Room
no_room = record { table = 0; strips = 0; output = 0; limit = 0 }

-- a table of so many numbers
table_of : ℕ → SheetLent
table_of n = record { boards = []; table = replicate n 0; strips = [] }

begin : ℕ → ℕ → Step
begin W H = new_foil W H (by_pen (pen 0 0))

-- two foils with a track each
abbrev tracks : List On
tracks =
    on 8 (begin 6 4) ∷ on 1 (draw 0 0 1 1) ∷ on 1 (begin 6 4) ∷ on 0 (begin 3 3) ∷ on 1 (draw 2 0 3 3)
    ∷ on 0 (lay 9 (point 0 0) (point 2 2)) ∷ on 1 (lay 5 (point 0 0) (point 4 0)) ∷ []

abbrev track_replies : List Reply
track_replies =
    answered (refused 23) ∷ answered (refused 13) ∷ answered accepted ∷ answered accepted ∷ answered accepted
    ∷ answered (laid (point 0 0 ∷ point 2 0 ∷ point 2 2 ∷ []) 1)
    ∷ answered (laid (point 0 0 ∷ point 0 3 ∷ point 4 3 ∷ point 4 0 ∷ []) 2) ∷ []

abbrev second_row : List Entry
second_row = entry 0 2 0 3 3 ∷ entry 5 0 0 1 4 ∷ entry 5 0 3 5 4 ∷ entry 5 4 0 5 4 ∷ []

-- then one of them is lifted and its foil begun anew; other foils are not begun, but for one by a record at place 0, so
-- that even a list of no net is refused there
abbrev later : List On
later =
    on 0 (lift 9) ∷ on 7 (look_up (point 0 0)) ∷ record { foil = 7; call = lay_list [] 0 }
    ∷ on 0 (new_foil 5 5 (by_pen (pen 1 0))) ∷ at 3 0 ∷ at 3 7 ∷ at 4 7 ∷ at 9 0 ∷ []

abbrev later_replies : List Reply
later_replies =
    answered accepted ∷ answered (refused 13) ∷ answered (refused 13) ∷ answered accepted
    ∷ ran (accepted ∷ []) (some 7) ∷ at_end ∷ answered (refused 13) ∷ answered (refused 23) ∷ []

eight-foils :
    rows_from (replicate sheet_foils no_foil) [] tracks ∷ rows_from (replicate sheet_foils no_foil) [] (tracks ++ later) ∷ []
    ≡ record {
      replies = track_replies;
      rows = (entry 9 0 0 3 1 ∷ entry 9 2 0 3 3 ∷ []) ∷ second_row ∷ replicate 6 [];
    }
    ∷ record { replies = track_replies ++ later_replies; rows = [] ∷ second_row ∷ replicate 6 [] }
    ∷ []
unfolding rows_from room_at begin
    total reserved limit_of opening sheet_refusal unless blank row_step row_call sheet_ledger_call row_counts
    size_ok reach_ok pen_ok net_ok box_ok shape_ok entry_ok within blocks meets crosses over_leg patch_margin
    pen_rule margin near_edge free_by free stop_in stop scan scan_at starts is_run is_top begun strips_from
    after between level_free upright_free segment leads is_path_to is_way bends points goings steps_from shortest first_from
    first_path_to strips_of path_of no_path corners_of leg legs_from legs of_net in_use off_foil blocked
    short corner_room too_long is_too_fine pen_of clearance_refusal next says first reads refusals after_lent settle refusal_of
    job_room number field_count map_byte has fields_at record_end field as_step step_at steps_at record_steps steps is_end
    record_checks as_reply ends_job and_then act_all act_record act_list too_large too_many whole_refusals list_refusals reply xor
eight-foils = refl

-- ---- the refusals before the foil is looked at, in their order, where its counts are broken

-- in a room without places, then with all of them
first-of-all :
    sheet_refusal no_room true 8 (step (begin 6 4)) ∷ sheet_refusal no_room true 7 (step (begin 6 4))
    ∷ sheet_refusal job_room true 7 (step (begin 6 4)) ∷ sheet_refusal job_room true 3 (at 3 0).call
    ∷ sheet_refusal job_room false 7 (step (begin 6 4)) ∷ []
    ≡ some 23 ∷ some 12 ∷ some 13 ∷ some 13 ∷ none ∷ []
unfolding sheet_refusal opening first after_lent short too_large job_room no_room
first-of-all = refl

-- 2,559 numbers are too few, 2,560 are not
places : (sheet_room 0 [] (table_of 2559) 0).table ∷ (sheet_room 0 [] (table_of 2560) 0).table ∷ [] ≡ 0 ∷ 128 ∷ []
unfolding sheet_room table_of
places = refl

-- ---- the table of the two foils, and foil 0 as it is after its track is lifted

abbrev track : List ℕ
track = 9 ∷ 0 ∷ 0 ∷ 3 ∷ 1 ∷ 9 ∷ 2 ∷ 0 ∷ 3 ∷ 3 ∷ []

abbrev others : List ℕ
others =
    0 ∷ 2 ∷ 0 ∷ 3 ∷ 3 ∷ 5 ∷ 0 ∷ 0 ∷ 1 ∷ 4 ∷ 5 ∷ 0 ∷ 3 ∷ 5 ∷ 4 ∷ 5 ∷ 4 ∷ 0 ∷ 5 ∷ 4 ∷ []

abbrev board_with : ℕ → Board
board_with n = record { width = 6; height = 4; half = 0; gap = 0; entries = n; strips = 0 }

-- 7 stands in an unused place past the first 128, and past the 512
abbrev sheet : SheetLent
sheet =
    record {
      boards = board_with 2 ∷ board_with 4 ∷ replicate 6 no_board;
      table = track ++ (others ++ (replicate 700 0 ++ (7 ∷ (replicate 1829 0 ++ (7 ∷ [])))));
      strips = [];
    }

second-foil : (view 1 sheet).table ≡ others ++ replicate 620 0
unfolding view table_at counts parts written
second-foil = refl

lifted : (put_back 0 sheet (record { board = board_with 0; table = []; strips = [] })).table
    ≡ others ++ (replicate 2540 0 ++ (7 ∷ []))
unfolding put_back counts parts joined written
lifted = refl

-- ---- reads and refused steps leave unused places as they are, which 13 does not look at; accepted ones clear them

abbrev called : SheetLent → Step → After Reply SheetLent
called m s = sheet_call job_room 0 (step s) m

-- a sheet with foil 0 begun, and 7 in an unused place then
abbrev soiled : SheetLent
soiled =
    let m : SheetLent =
    (called
    (record { boards = replicate sheet_foils no_board; table = replicate 2560 0; strips = replicate 16384 7 })
    (begin 3 3)).state in
    record { boards = m.boards; table = set m.table 1000 7; strips = m.strips }

-- a reply, and what stands in that place after it
record Seen : Type 0 where
  reply : Reply
  there : ℕ

see : Step → Seen
see s = record { reply = (called soiled s).answer; there = get_or (called soiled s).state.table 1000 0 }

cleared : see (look_up (point 0 0)) ∷ see (draw 0 0 4 1) ∷ see (draw 0 0 1 1) ∷ []
    ≡ record { reply = answered (found 0); there = 7 } ∷ record { reply = answered (refused 3); there = 7 }
    ∷ record { reply = answered accepted; there = 0 } ∷ []
unfolding see begin sheet_call sheet_step writes sheet_refusal unless opening counts put_back view table_at parts joined
    total reserved each_few counts_ok written board_of store strip_numbers held layout_of entry_at same_numbers
    today strips_by keeps_asked listed_in sound_by sound reply size_ok reach_ok pen_ok net_ok box_ok shape_ok entry_ok within
    blocks over_leg no_crossing pen_rule margin
    near_edge free_by free entry_numbers stop_in stop scan scan_at starts is_run is_top begun strips_from holds place_of
    strips_of off_foil blocked short too_long is_too_fine pen_of clearance_refusal next says first reads refusals after_lent
    settle refusal_of job_room
cleared = refl

-- ---- how many entries a foil may have

abbrev foils : ℕ → ℕ → ℕ → ℕ → List ℕ
foils a b c d = a ∷ b ∷ c ∷ d ∷ 0 ∷ 0 ∷ 0 ∷ 0 ∷ []

limits : limit_of (foils 0 0 0 0) 0 ∷ limit_of (foils 128 128 0 0) 2 ∷ limit_of (foils 128 128 96 0) 3 ∷ []
    ≡ 128 ∷ 96 ∷ 32 ∷ []
unfolding limit_of reserved total
limits = refl

fit : counts_ok (foils 128 128 96 32) ∷ counts_ok (foils 128 128 97 0) ∷ counts_ok (foils 129 0 0 0) ∷ []
    ≡ true ∷ false ∷ false ∷ []
unfolding counts_ok each_few reserved total
fit = refl
