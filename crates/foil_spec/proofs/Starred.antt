-- The cases of specs/Starred come out, computed by the checker; and the output list of the one whose corners run out.
use mathlib.Core.Path.{◌≡◌, refl}
use mathlib.Core.Bool.{xor}
use mathlib.Core.List.{[], ◌∷◌}
use lib.Ieee.{of_int, of_bits, add, mul, div, lt, le, eq}
use lib.ListN.{replicate}
use Rattle.foil_spec.specs.Foil.{entry_numbers, size_ok, reach_ok, pen_ok, net_ok, box_ok, shape_ok, entry_ok, pen_rule}
use Rattle.foil_spec.specs.Foil.{margin, near_edge, free_by, within, blocks, meets, crosses, over_leg, under_patch}
use Rattle.foil_spec.specs.Foil.{patch_margin, reach_rule, free}
use Rattle.foil_spec.specs.Strips.{stop_in, stop, scan, scan_at, starts, is_run, is_top, begun, strips_from, holds}
use Rattle.foil_spec.specs.Strips.{place_of}
use Rattle.foil_spec.specs.Paths.{after, between, level_free, upright_free, segment, bends, points, goings, leads}
use Rattle.foil_spec.specs.Paths.{is_path_to, is_way, steps_from, shortest, first_from, first_path_to}
use Rattle.foil_spec.specs.Corners.{point_numbers, corner_at, corners_in, drawn}
use Rattle.foil_spec.specs.Nets.{of_net, in_use, nets_of, legs_of, leg_steps, steps_of, net_length, net_bends, first_point}
use Rattle.foil_spec.specs.Text.{digits_in, decimal}
use Rattle.foil_spec.specs.Saving.{two_bytes, board_bytes, patch_bytes, leg_bytes, entry_bytes, job_of}
use Rattle.foil_spec.specs.Slip.{set_right, column, slip_line, net_line, slip_of}
use Rattle.foil_spec.specs.Sound.{entry_at, strip_numbers, written, same_numbers, formerly, strips_by, keeps_asked}
use Rattle.foil_spec.specs.Sound.{listed_in, sound_by}
use Rattle.foil_spec.specs.Carrying.{old_short, old_sound, old_entries, net_blocked, blocked_nets, unblocked}
use Rattle.foil_spec.specs.Carrying.{lifted_nets, carried}
use Rattle.foil_spec.specs.Ledger.{strips_of, path_of, no_path, corners_of, leg, legs_from, legs, off_foil, blocked}
use Rattle.foil_spec.specs.Ledger.{short, corner_room, too_long, is_too_fine, beginning_too_fine, next, says, first}
use Rattle.foil_spec.specs.Ledger.{reads, refusals, after_lent, settle, refusal_of, ledger_step, pen_of}
use Rattle.foil_spec.specs.Ledger.{clearance_refusal, free_for, on_legs, on_net, join_of, join_corners}
use Rattle.foil_spec.specs.Job.{number, field_count, map_byte, has, fields_at, record_end, field, step_at, job_room}
use Rattle.foil_spec.specs.Job.{as_step, steps_at, record_steps, steps, is_end, record_checks}
use Rattle.foil_spec.specs.Ohms.{whole, resistance_ok, width_ok, bend_ok, ink_ok, formula, ohms_refusals, ohms_of}
use Rattle.foil_spec.specs.Lent.{over_front, output_after, numbers_out, room_left, room_in}
use Rattle.foil_spec.specs.Wishes.{wish_at, wishes, too_many}
use Rattle.foil_spec.specs.Calls.{laid_all, as_reply, ends_job, and_then, act_all, act_record, in_front, act_each}
use Rattle.foil_spec.specs.Calls.{act_list, too_large, whole_refusals, ohms_reply, list_refusals, reply, ledger_call}
use Rattle.foil_spec.specs.Calls.{output_by}
use Rattle.foil_spec.specs.Sequence.{front, room_for}
use Rattle.foil_spec.specs.Starred.{three_answers, StarredHold, outcome_from, cases, job_bytes, crossing_bytes}
use Rattle.foil_spec.specs.Starred.{leg_job, saved_bytes, job_slip, pen_job, wide_pen_job, late_pen_job, four_wishes}
use Rattle.foil_spec.specs.Starred.{three_wishes, faulty_job, half, bits}

starred : StarredHold
unfolding outcome_from cases job_bytes crossing_bytes leg_job saved_bytes job_slip pen_job wide_pen_job late_pen_job
    four_wishes three_wishes faulty_job room_for front room_in
    entry_numbers size_ok reach_ok pen_ok net_ok box_ok shape_ok entry_ok within blocks
    meets crosses over_leg under_patch patch_margin reach_rule
    entry_at strip_numbers written same_numbers formerly strips_by keeps_asked listed_in sound_by
    old_short old_sound old_entries net_blocked blocked_nets unblocked lifted_nets carried
    pen_rule margin near_edge free_by free
    stop_in stop scan scan_at starts is_run is_top begun strips_from holds place_of
    after between level_free upright_free segment leads is_path_to is_way bends points goings steps_from shortest first_from
    first_path_to corner_at corners_in drawn
    strips_of path_of no_path corners_of leg legs_from legs of_net in_use off_foil blocked
    free_for on_legs on_net join_of join_corners
    two_bytes board_bytes patch_bytes leg_bytes entry_bytes job_of
    nets_of first_point digits_in decimal set_right column slip_line net_line slip_of
    short corner_room too_long is_too_fine beginning_too_fine
    pen_of clearance_refusal next says first reads refusals after_lent settle refusal_of ledger_step
    job_room number field_count map_byte has fields_at record_end field as_step step_at steps_at record_steps steps is_end
    record_checks as_reply ends_job and_then act_all act_record too_large whole_refusals ohms_reply reply ledger_call xor
    wish_at wishes too_many list_refusals over_front output_after numbers_out room_left point_numbers in_front act_each act_list
    legs_of leg_steps steps_of net_length net_bends whole resistance_ok width_ok bend_ok ink_ok formula ohms_refusals ohms_of half
    bits of_int of_bits add mul div lt le eq
starred = refl

-- the corners that a list of nets writes stand one after the other, and what is behind them stays
one-after-the-other : output_by (laid_all three_answers) (replicate 12 9)
    ≡ 0 ∷ 0 ∷ 0 ∷ 3 ∷ 4 ∷ 3 ∷ 4 ∷ 0 ∷ 5 ∷ 0 ∷ 9 ∷ 9 ∷ []
unfolding output_by numbers_out output_after over_front point_numbers
one-after-the-other = refl
